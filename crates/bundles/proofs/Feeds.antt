-- The lines of a text that is put together of lines.
use Rattle.std.proofs.Common.{◌≡◌, ◌≤◌, ◌+◌, ◌==◌, not, ℕ, Bool, true, false, List, [], ◌∷◌, ◌++◌, length, refl, sym, ap, ◌∙◌, append_assoc, length-append, arith}
use Rattle.std.specs.List.{All, flat_map, list_all}
use Rattle.std.specs.Prelude.{IsTrue}
use Rattle.std.proofs.lemmas.Bool.{and_parts, not-true}
use Rattle.std.proofs.lemmas.List.Concat.{flat_map-cons}
use Rattle.std.proofs.lemmas.List.Elements.{All-head, All-tail, All-weaker}
use Rattle.std.proofs.lemmas.List.Splits.{slice_split_at}
use Rattle.std.proofs.lemmas.List.Sums.{AllPass-from_list_all}
use Rattle.bundles.specs.Grammar.{Reached, lines_of, sentences_from, with_sentence}
use Rattle.bundles.specs.Spelling.{ended, is_sentence}
use Rattle.bundles.proofs.Sentences.{one_first}

-- No character is a line feed.
abbrev pub no_feed : List ℕ → Bool
no_feed line = list_all (λ c. not (c == 10)) line

pub line_first : (line rest : List ℕ) → no_feed line ≡ true → lines_of (line ++ 10 ∷ rest) ≡ line ∷ lines_of rest
line_first line rest h =
    slice_split_at (λ (c : ℕ). c == 10) line 10 rest
    (All-weaker (λ (c : ℕ). not (c == 10) ≡ true) (λ (c : ℕ). (c == 10) ≡ false) (λ c t. not-true (c == 10) t) line (AllPass-from_list_all (λ c. not (c == 10)) line h)) refl

pub lines_first : (ls : List (List ℕ)) (rest : List ℕ) → list_all no_feed ls ≡ true → lines_of (flat_map ended ls ++ rest) ≡ ls ++ lines_of rest
lines_first [] rest h = refl
lines_first (l ∷ ls) rest h =
    let p = and_parts (no_feed l) (list_all no_feed ls) h in
    ap (λ (t : List ℕ). lines_of (t ++ rest)) (flat_map-cons ended l ls)
    ∙ ap (λ (t : List ℕ). lines_of t) (append_assoc (ended l) (flat_map ended ls) rest ∙ append_assoc l (10 ∷ []) (flat_map ended ls ++ rest))
    ∙ line_first l (flat_map ended ls ++ rest) p.0
    ∙ ap (λ (parts : List (List ℕ)). l ∷ parts) (lines_first ls rest p.1)

abbrev pub pair_of : List ℕ → Reached → List ℕ × Reached
pair_of t p = (t, p)

-- Sentences in front of lines that begin with none.
pub sentences_first : (ls parts : List (List ℕ)) (n : ℕ) → All (λ line. IsTrue (is_sentence line)) ls → 1 ≤ length parts → ((m : ℕ) → sentences_from m parts ≡ pair_of [] (record { number = m; left = parts })) → (m : ℕ) × (sentences_from n (ls ++ parts) ≡ pair_of (flat_map ended ls) (record { number = m; left = parts }))
sentences_first [] parts n h some stops = (n, stops n)
sentences_first (l ∷ ls) parts n h some stops =
    let (m, e) = sentences_first ls parts (n + 1) (All-tail (λ line. IsTrue (is_sentence line)) l ls h) some stops in
    let more : 1 ≤ length (ls ++ parts) = omega (arith, some, length-append ls parts) in (
      m,
      one_first l (ls ++ parts) more (All-head (λ line. IsTrue (is_sentence line)) l ls h) n
          ∙ ap (with_sentence l) e
          ∙ ap (λ (t : List ℕ). pair_of t (record { number = m; left = parts })) (sym (flat_map-cons ended l ls)),
    )
