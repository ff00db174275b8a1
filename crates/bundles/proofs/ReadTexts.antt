-- What is read of a text is a bundle, and has that text.
use Rattle.std.proofs.Common.{◌≡◌, ◌+◌, ℕ, Bool, true, false, cond, nat_eq, List, [], ◌∷◌, ◌++◌, Option, Some, None, Result, Ok, Err, refl, sym, ap, subst, ◌∙◌, append_assoc, append-nil}
use Rattle.std.specs.List.{flat_map, join_with_byte, starts_with}
use Rattle.std.specs.Prelude.{codes}
use Rattle.std.proofs.lemmas.List.Splits.{join_with_byte-slice_split}
use Rattle.hex.specs.Hex.{encode_lower}
use Rattle.outcome.specs.Bytes.{IsBytes}
use Rattle.outcome.proofs.Steps.{Ok-inj, bind_ok, guard_false}
use Rattle.bundles.specs.declared.fault.BundleFault.{BundleFault}
use Rattle.bundles.specs.declared.fault.BundleFault.TheVariants.{OlderBundle}
use Rattle.bundles.specs.Grammar.{Reached, Read, beginning, bundle_of, bytes_in, greets, line_at, lines_say, next_says, nothing_left, program_in, said, sentences_from, with_sentence}
use Rattle.bundles.specs.Spelling.{Contents, IsBundle, ended, first_line, is_sentence, older_line, text_of}
use Rattle.bundles.proofs.DigitTexts.{bytes_found}
use Rattle.bundles.proofs.Feeds.{pair_of}
use Rattle.bundles.proofs.FieldTexts.{greeting_found, program_found}
use Rattle.bundles.proofs.FrontSentences.{found_sentences}
use Rattle.bundles.proofs.WrittenTexts.{three}

-- The text of lines.
abbrev text : List (List ℕ) → List ℕ
text parts = join_with_byte 10 parts

-- ---- one line

record IsRead {A : Type 0} (says : List ℕ → Option A) (at : Reached) (x : A) (behind : Reached) : Type 0 where
  line : List ℕ
  told : says line ≡ Some x
  whole : text at.left ≡ ended line ++ text behind.left

abbrev up_to : {A : Type 0} → A → Reached → Read A
up_to x at = Ok (x, at)

of_line : {A : Type 0} (says : List ℕ → Option A) (n : ℕ) (line next : List ℕ) (more : List (List ℕ)) (o : Option A) (p : A × Reached) → says line ≡ o → said n (next ∷ more) o ≡ up_to p.0 p.1 → IsRead says (record { number = n; left = line ∷ next ∷ more }) p.0 p.1
of_line {A} says n line next more (Some x) p told h =
    let same : (x, record { number = n + 1; left = next ∷ more }) ≡ p = Ok-inj {A = A × Reached} {E = BundleFault} (x, record { number = n + 1; left = next ∷ more }) p h in
    subst (λ (q : A × Reached). IsRead says (record { number = n; left = line ∷ next ∷ more }) q.0 q.1) same (record { line = line; told = told; whole = sym (append_assoc line (10 ∷ []) (text (next ∷ more))) })
of_line says n line next more None p told h = absurd cc

of_lines : {A : Type 0} (says : List ℕ → Option A) (n : ℕ) (parts : List (List ℕ)) (p : A × Reached) → next_says says n parts ≡ up_to p.0 p.1 → IsRead says (record { number = n; left = parts }) p.0 p.1
of_lines says n [] p h = absurd cc
of_lines says n (rest ∷ []) p h = absurd cc
of_lines says n (line ∷ next ∷ more) p h = of_line says n line next more (says line) p refl h

is_read : {A : Type 0} (says : List ℕ → Option A) (at : Reached) (p : A × Reached) → line_at says at ≡ up_to p.0 p.1 → IsRead says at p.0 p.1
unfolding line_at
is_read says at p h = of_lines says at.number at.left p h

-- ---- sentences

of_test : (t : Bool) (line next : List ℕ) (more : List (List ℕ)) (later : List ℕ × Reached) (n : ℕ) → text (next ∷ more) ≡ later.0 ++ text later.1.left → text (line ∷ next ∷ more) ≡ (cond t (with_sentence line later) (pair_of [] (record { number = n; left = line ∷ next ∷ more }))).0 ++ text (cond t (with_sentence line later) (pair_of [] (record { number = n; left = line ∷ next ∷ more }))).1.left
of_test true line next more later n h =
    ap (λ (t : List ℕ). line ++ 10 ∷ t) h
    ∙ sym (append_assoc line (10 ∷ []) (later.0 ++ text later.1.left))
    ∙ sym (append_assoc (ended line) later.0 (text later.1.left))
of_test false line next more later n h = refl

sentences_whole : (n : ℕ) (parts : List (List ℕ)) → text parts ≡ (sentences_from n parts).0 ++ text (sentences_from n parts).1.left
unfolding sentences_from
sentences_whole n [] = refl
sentences_whole n (rest ∷ []) = refl
sentences_whole n (line ∷ next ∷ more) = of_test (is_sentence line) line next more (sentences_from (n + 1) (next ∷ more)) n (sentences_whole (n + 1) (next ∷ more))

-- ---- the bundle

nothing : (n : ℕ) (parts : List (List ℕ)) (x : Unit {0}) → nothing_left n parts ≡ Ok x → text parts ≡ []
nothing n [] x h = refl
nothing n ([] ∷ []) x h = refl
nothing n ((c ∷ rest) ∷ []) x h = absurd cc
nothing n (line ∷ next ∷ more) x h = absurd cc

abbrev bundle : List ℕ → List ℕ → List ℕ → List ℕ → Contents
bundle sentences program directory proof = record { sentences = sentences; program = program; directory = directory; proof = proof }

-- The lines of the text of these parts.
whole_lines : (whole_text front g p x y name db pb : List ℕ) → whole_text ≡ ended g ++ (front ++ (ended p ++ (ended x ++ ended y))) → g ≡ first_line → p ≡ codes "program " ++ name → encode_lower db ≡ x → encode_lower pb ≡ y → text_of (bundle front name db pb) ≡ whole_text
unfolding text_of
whole_lines whole_text front g p x y name db pb lines greets named first second =
    ap (λ (t : List ℕ). (ended first_line ++ front) ++ t) (three (codes "program " ++ name) (encode_lower db) (encode_lower pb))
    ∙ append_assoc (ended first_line) front (ended (codes "program " ++ name) ++ (ended (encode_lower db) ++ ended (encode_lower pb)))
    ∙ ap (λ (l : List ℕ). ended l ++ (front ++ (ended (codes "program " ++ name) ++ (ended (encode_lower db) ++ ended (encode_lower pb))))) (sym greets)
    ∙ ap (λ (l : List ℕ). ended g ++ (front ++ (ended l ++ (ended (encode_lower db) ++ ended (encode_lower pb))))) (sym named)
    ∙ ap (λ (l : List ℕ). ended g ++ (front ++ (ended p ++ (ended l ++ ended (encode_lower pb))))) first
    ∙ ap (λ (l : List ℕ). ended g ++ (front ++ (ended p ++ (ended x ++ ended l)))) second
    ∙ sym lines

of_four : (whole_text : List ℕ) (u : Unit {0}) (first a_1 a_2 a_3 : Reached) (name db pb : List ℕ) → IsRead greets (beginning whole_text) u first → IsRead program_in (sentences_from first.number first.left).1 name a_1 → IsRead bytes_in a_1 db a_2 → IsRead bytes_in a_2 pb a_3 → text a_3.left ≡ [] → IsBundle (bundle (sentences_from first.number first.left).0 name db pb) × (text_of (bundle (sentences_from first.number first.left).0 name db pb) ≡ whole_text)
of_four whole_text u first a_1 a_2 a_3 name db pb g p x y last =
    let front : List ℕ = (sentences_from first.number first.left).0 in
    let named = program_found p.line name p.told in
    let directory = bytes_found x.line db x.told in
    let proof = bytes_found y.line pb y.told in
    let ends : text a_2.left ≡ ended y.line = y.whole ∙ ap (λ (t : List ℕ). ended y.line ++ t) last ∙ append-nil (ended y.line) in
    let lines : whole_text ≡ ended g.line ++ (front ++ (ended p.line ++ (ended x.line ++ ended y.line))) =
    sym (join_with_byte-slice_split 10 whole_text) ∙ g.whole
    ∙ ap (λ (t : List ℕ). ended g.line ++ t) (sentences_whole first.number first.left ∙ ap (λ (t : List ℕ). front ++ t) (p.whole ∙ ap (λ (t : List ℕ). ended p.line ++ t) (x.whole ∙ ap (λ (t : List ℕ). ended x.line ++ t) ends))) in (
      record { sentences = found_sentences first.number first.left; program = named.0; directory = directory.0; proof = proof.0 },
      whole_lines whole_text front g.line p.line x.line y.line name db pb lines (greeting_found g.line u g.told) named.1 directory.1 proof.1,
    )

lines_found : (whole_text : List ℕ) (b : Contents) → lines_say whole_text ≡ Ok b → IsBundle b × (text_of b ≡ whole_text)
unfolding lines_say
lines_found whole_text b is =
    let p0 = bind_ok (line_at greets (beginning whole_text)) _ b is in
    let p1 = bind_ok (line_at program_in (sentences_from p0.0.1.number p0.0.1.left).1) _ b p0.2 in
    let p2 = bind_ok (line_at bytes_in p1.0.1) _ b p1.2 in
    let p3 = bind_ok (line_at bytes_in p2.0.1) _ b p2.2 in
    let p4 = bind_ok (nothing_left p3.0.1.number p3.0.1.left) _ b p3.2 in
    let front : List ℕ = (sentences_from p0.0.1.number p0.0.1.left).0 in
    let same : bundle front p1.0.0 p2.0.0 p3.0.0 ≡ b = Ok-inj {A = Contents} {E = BundleFault} (bundle front p1.0.0 p2.0.0 p3.0.0) b p4.2 in
    subst (λ (c : Contents). IsBundle c × (text_of c ≡ whole_text)) same
    (of_four whole_text p0.0.0 p0.0.1 p1.0.1 p2.0.1 p3.0.1 p1.0.0 p2.0.0 p3.0.0 (is_read greets (beginning whole_text) p0.0 p0.1) (is_read program_in (sentences_from p0.0.1.number p0.0.1.left).1 p1.0 p1.1) (is_read bytes_in p1.0.1 p2.0 p2.1) (is_read bytes_in p2.0.1 p3.0 p3.1) (nothing p3.0.1.number p3.0.1.left p4.0 p4.1))

pub read_is_spelled : (whole_text : List ℕ) (b : Contents) → bundle_of whole_text ≡ Ok b → IsBundle b × (text_of b ≡ whole_text)
unfolding bundle_of
read_is_spelled whole_text b is = lines_found whole_text b (guard_false (starts_with nat_eq whole_text (ended older_line)) OlderBundle (lines_say whole_text) b is).1
