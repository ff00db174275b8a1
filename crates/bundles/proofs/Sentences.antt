-- Sentences at the front of a text.
use Rattle.std.proofs.Common.{◌≡◌, ◌≤◌, ◌+◌, ◌-◌, ◌==◌, ℕ, true, false, List, [], ◌∷◌, ◌++◌, length, take, refl, sym, ap, subst, ◌∙◌, add-zero, add_assoc, append_assoc, append-nil, length-append, arith}
use Rattle.std.specs.List.{join_with_byte}
use Rattle.std.proofs.Math.Seq.{take-append_seam}
use Rattle.std.proofs.lemmas.List.Splits.{join_with_byte-slice_split}
use Rattle.bundles.specs.Grammar.{Reached, lines_of, sentences_from, with_sentence}
use Rattle.bundles.specs.Spelling.{ended, is_sentence}
use Rattle.bundles.specs.within.Cursors.{AreInFront, IsBehindSentence, IsLine, IsNext}
use Rattle.outcome.proofs.Cuts.{some_parts}

abbrev pair : List ℕ → Reached → List ℕ × Reached
pair t p = (t, p)

abbrev place : ℕ → List (List ℕ) → Reached
place n parts = record { number = n; left = parts }

-- ---- one line

joined : (front : List ℕ) (parts : List (List ℕ)) → 1 ≤ length parts → join_with_byte 10 (front ∷ parts) ≡ front ++ 10 ∷ join_with_byte 10 parts
joined front [] h = absurd (omega arith)
joined front (p ∷ ps) h = refl

-- what is cut is a line and the rest
pub line_is : (text line rest : List ℕ) → lines_of text ≡ line ∷ lines_of rest → IsLine text line rest
line_is text line rest h = record {
  whole =
      sym (join_with_byte-slice_split 10 text)
      ∙ ap (join_with_byte 10) h
      ∙ joined line (lines_of rest) (some_parts (λ c. c == 10) rest)
      ∙ ap (λ (t : List ℕ). line ++ 10 ∷ t) (join_with_byte-slice_split 10 rest);
  lines = h;
}

pub next_is : (text line rest : List ℕ) (n : ℕ) → IsLine text line rest → IsNext (record { number = n; left = lines_of text }) line (record { number = n + 1; left = lines_of rest })
next_is text line rest n h = record { number = refl; left = h.lines; ends = some_parts (λ c. c == 10) rest }

-- no line is ended
pub open_ends : (text : List ℕ) → lines_of text ≡ text ∷ [] → (n : ℕ) → sentences_from n (lines_of text) ≡ ([], record { number = n; left = lines_of text })
unfolding sentences_from
open_ends text h n =
    let P : List (List ℕ) → Type 0 = λ parts. sentences_from n parts ≡ pair [] (place n parts) in
    let here : P (text ∷ []) = refl in
    subst P (sym h) here

pub other_first : (line : List ℕ) (parts : List (List ℕ)) → 1 ≤ length parts → is_sentence line ≡ false → (n : ℕ) → sentences_from n (line ∷ parts) ≡ ([], record { number = n; left = line ∷ parts })
unfolding sentences_from
other_first line [] some h n = absurd (omega arith)
other_first line (p ∷ ps) some h n = rw h refl

pub one_first : (line : List ℕ) (parts : List (List ℕ)) → 1 ≤ length parts → is_sentence line ≡ true → (n : ℕ) → sentences_from n (line ∷ parts) ≡ with_sentence line (sentences_from (n + 1) parts)
unfolding sentences_from
one_first line [] some h n = absurd (omega arith)
one_first line (p ∷ ps) some h n = rw h refl

-- the first line is no sentence
pub no_sentence : (text line rest : List ℕ) → IsLine text line rest → is_sentence line ≡ false → (n : ℕ) → sentences_from n (lines_of text) ≡ ([], record { number = n; left = lines_of text })
no_sentence text line rest is h n =
    let P : List (List ℕ) → Type 0 = λ parts. sentences_from n parts ≡ ([], record { number = n; left = parts }) in
    subst P (sym is.lines) (other_first line (lines_of rest) (some_parts (λ c. c == 10) rest) h n)

-- ---- sentences

pub none_yet : (text : List ℕ) → AreInFront text text 0
none_yet text = record { front = []; whole = refl; sentences = λ n. ap (λ (m : ℕ). sentences_from m (lines_of text)) (sym (add-zero n)) }

pub one_more : (text rest more : List ℕ) (count : ℕ) → AreInFront text rest count → IsBehindSentence rest more → AreInFront text more (count + 1)
one_more text rest more count so_far is =
    let here : (n : ℕ) → sentences_from (n + count) (lines_of rest) ≡ with_sentence is.line (sentences_from (n + count + 1) (lines_of more)) =
    λ n. ap (λ (parts : List (List ℕ)). sentences_from (n + count) parts) is.is.lines ∙ one_first is.line (lines_of more) (some_parts (λ c. c == 10) more) is.sentence (n + count) in
    record {
      front = so_far.front ++ ended is.line;
      whole = so_far.whole ∙ ap (λ (t : List ℕ). so_far.front ++ t) (is.is.whole ∙ sym (append_assoc is.line (10 ∷ []) more)) ∙ sym (append_assoc so_far.front (ended is.line) more);
      sentences =
          λ n. so_far.sentences n
          ∙ ap (λ (p : List ℕ × Reached). pair (so_far.front ++ p.0) p.1) (here n)
          ∙ ap (λ (t : List ℕ). pair t (sentences_from (n + count + 1) (lines_of more)).1) (sym (append_assoc so_far.front (ended is.line) (sentences_from (n + count + 1) (lines_of more)).0))
          ∙ ap (λ (m : ℕ). pair (so_far.front ++ ended is.line ++ (sentences_from m (lines_of more)).0) (sentences_from m (lines_of more)).1) (add_assoc n count 1);
    }

cut_front : (text front rest : List ℕ) → text ≡ front ++ rest → take (length text - length rest) text ≡ front
cut_front text front rest h =
    let long : length text - length rest ≡ length front = omega (arith, ap length h, length-append front rest) in
    ap (λ (n : ℕ). take n text) long ∙ ap (take (length front)) h ∙ take-append_seam front rest

-- all are found
pub all_found : (text rest : List ℕ) (count : ℕ) → AreInFront text rest count → ((n : ℕ) → sentences_from n (lines_of rest) ≡ ([], record { number = n; left = lines_of rest })) → (n : ℕ) → sentences_from n (lines_of text) ≡ (take (length text - length rest) text, record { number = n + count; left = lines_of rest })
all_found text rest count is none n =
    is.sentences n
    ∙ ap (λ (p : List ℕ × Reached). pair (is.front ++ p.0) p.1) (none (n + count))
    ∙ ap (λ (t : List ℕ). pair t (place (n + count) (lines_of rest))) (append-nil is.front ∙ sym (cut_front text is.front rest is.whole))

pub is_whole : (text rest : List ℕ) (count : ℕ) → AreInFront text rest count → text ≡ take (length text - length rest) text ++ rest
is_whole text rest count is = is.whole ∙ ap (λ (t : List ℕ). t ++ rest) (sym (cut_front text is.front rest is.whole))
