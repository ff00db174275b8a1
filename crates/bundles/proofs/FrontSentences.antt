-- Whether all of a text is sentences.
use Rattle.std.proofs.Common.{◌≡◌, ◌+◌, ◌==◌, leb, not, ℕ, Bool, true, false, cond, List, [], ◌∷◌, ◌++◌, length, refl, sym, ap, subst, ◌∙◌, append-nil, arith}
use Rattle.std.specs.List.{All, flat_map, join_with_byte, list_all}
use Rattle.std.specs.Prelude.{IsTrue, MatchBool}
use Rattle.std.proofs.lemmas.Bool.{and_from, and_parts, eqb-false, eqb-true, leb-true, ne_eqb, not_from_false}
use Rattle.std.proofs.lemmas.List.{nil_from_length}
use Rattle.std.proofs.lemmas.List.Concat.{flat_map-cons}
use Rattle.std.proofs.lemmas.List.Elements.{All-cons, All-head, All-nil, All-tail, All-weaker}
use Rattle.std.proofs.lemmas.List.Splits.{join_with_byte-slice_split}
use Rattle.std.proofs.lemmas.List.Sums.{AllPass-from_list_all, list_all-from_AllPass}
use Rattle.bundles.specs.Grammar.{Reached, lines_of, sentences_from, with_sentence}
use Rattle.bundles.specs.Spelling.{AreSentences, ended, is_printed, is_sentence}
use Rattle.bundles.proofs.Feeds.{lines_first, no_feed, pair_of, sentences_first}

abbrev Is : List ℕ → Type 0
Is line = IsTrue (is_sentence line)

-- ---- what is found is sentences

pub no_sentences : AreSentences []
no_sentences = record { lines = []; each = All-nil Is; joined = refl }

by_test : (line : List ℕ) (t : Bool) (later : List ℕ × Reached) (at : Reached) → is_sentence line ≡ t → AreSentences later.0 → AreSentences (cond t (with_sentence line later) (pair_of [] at)).0
by_test line true later at h s = record {
  lines = line ∷ s.lines;
  each = All-cons Is line s.lines h s.each;
  joined = ap (λ (t : List ℕ). ended line ++ t) s.joined ∙ sym (flat_map-cons ended line s.lines);
}
by_test line false later at h s = no_sentences

pub found_sentences : (n : ℕ) (parts : List (List ℕ)) → AreSentences (sentences_from n parts).0
unfolding sentences_from
found_sentences n [] = no_sentences
found_sentences n (rest ∷ []) = no_sentences
found_sentences n (line ∷ next ∷ more) = by_test line (is_sentence line) (sentences_from (n + 1) (next ∷ more)) _ refl (found_sentences (n + 1) (next ∷ more))

-- ---- sentences are found

printed_no_feed : (c : ℕ) → is_printed c ≡ true → not (c == 10) ≡ true
printed_no_feed c h = let low = leb-true 32 c (and_parts (leb 32 c) (leb c 126) h).0 in not_from_false (c == 10) (ne_eqb c 10 (λ e. omega (arith, low)))

all_printed : (rest : List ℕ) → list_all is_printed rest ≡ true → no_feed rest ≡ true
all_printed rest h = list_all-from_AllPass (λ c. not (c == 10)) rest (All-weaker (λ (c : ℕ). is_printed c ≡ true) (λ (c : ℕ). not (c == 10) ≡ true) printed_no_feed rest (AllPass-from_list_all is_printed rest h))

sentence_no_feed : (line : List ℕ) → is_sentence line ≡ true → no_feed line ≡ true
sentence_no_feed [] h = absurd cc
sentence_no_feed (c ∷ rest) h =
    let p = and_parts (c == 35) (list_all is_printed rest) h in
    let e = eqb-true c 35 p.0 in
    and_from (not (c == 10)) (no_feed rest) (not_from_false (c == 10) (ne_eqb c 10 (λ f. omega (arith, e)))) (all_printed rest p.1)

pub no_feeds : (ls : List (List ℕ)) → All Is ls → list_all no_feed ls ≡ true
no_feeds [] h = refl
no_feeds (l ∷ ls) h = and_from (no_feed l) (list_all no_feed ls) (sentence_no_feed l (All-head Is l ls h)) (no_feeds ls (All-tail Is l ls h))

last_stops : (m : ℕ) → sentences_from m ([] ∷ []) ≡ pair_of [] (record { number = m; left = [] ∷ [] })
unfolding sentences_from
last_stops m = refl

rest_is_empty : (text front rest : List ℕ) (count : ℕ) → sentences_from 0 (lines_of text) ≡ pair_of front (record { number = count; left = lines_of rest }) → AreSentences text → length rest ≡ 0
rest_is_empty text front rest count h s =
    let lines : lines_of text ≡ s.lines ++ ([] ∷ []) = ap (λ (t : List ℕ). lines_of t) (s.joined ∙ sym (append-nil (flat_map ended s.lines))) ∙ lines_first s.lines [] (no_feeds s.lines s.each) in
    let (m, e) = sentences_first s.lines ([] ∷ []) 0 s.each (omega arith) last_stops in
    let whole : sentences_from 0 (lines_of text) ≡ pair_of (flat_map ended s.lines) (record { number = m; left = [] ∷ [] }) = ap (λ (parts : List (List ℕ)). sentences_from 0 parts) lines ∙ e in
    let left : lines_of rest ≡ [] ∷ [] = ap (λ (p : List ℕ × Reached). p.1.left) (sym h ∙ whole) in
    ap length (sym (join_with_byte-slice_split 10 rest) ∙ ap (join_with_byte 10) left)

of_rest : (text front rest : List ℕ) (count : ℕ) (t : Bool) → text ≡ front ++ rest → sentences_from 0 (lines_of text) ≡ pair_of front (record { number = count; left = lines_of rest }) → (length rest == 0) ≡ t → MatchBool t (AreSentences text) (AreSentences text → ⊥)
of_rest text front rest count true whole h is =
    let none = nil_from_length rest (eqb-true _ _ is) in
    let all : text ≡ front = whole ∙ ap (λ (r : List ℕ). front ++ r) none ∙ append-nil front in
    subst AreSentences (ap (λ (p : List ℕ × Reached). p.0) h ∙ sym all) (found_sentences 0 (lines_of text))
of_rest text front rest count false whole h is = λ s. eqb-false (length rest) 0 is (rest_is_empty text front rest count h s)

pub tested : (text front rest : List ℕ) (count : ℕ) (t : Bool) → text ≡ front ++ rest → ((n : ℕ) → sentences_from n (lines_of text) ≡ (front, record { number = n + count; left = lines_of rest })) → t ≡ (length rest == 0) → MatchBool t (AreSentences text) (AreSentences text → ⊥)
tested text front rest count t whole h is = of_rest text front rest (0 + count) t whole (h 0) (sym is)
