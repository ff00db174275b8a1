-- The text of a bundle is read as that bundle.
use Rattle.std.proofs.Common.{◌≡◌, ◌≤◌, ◌+◌, ℕ, Bool, true, false, cond, List, [], ◌∷◌, ◌++◌, length, Option, Some, Result, Ok, Err, refl, sym, ap, ◌∙◌, append_assoc, append-nil, length-append, arith}
use Rattle.std.specs.List.{All, flat_map, list_all}
use Rattle.std.specs.Prelude.{IsTrue, codes}
use Rattle.std.proofs.lemmas.Bool.{and_from}
use Rattle.hex.specs.Hex.{encode_lower}
use Rattle.outcome.specs.Outcome.{◌>>=◌}
use Rattle.bundles.specs.declared.fault.BundleFault.{BundleFault}
use Rattle.bundles.specs.declared.fault.BundleFault.TheVariants.{OlderBundle}
use Rattle.bundles.specs.Grammar.{Reached, Read, beginning, bundle_of, bytes_in, greets, line_at, lines_of, lines_say, nothing_left, program_in, sentences_from}
use Rattle.bundles.specs.Spelling.{Contents, IsBundle, ended, first_line, is_sentence, last_lines, text_of}
use Rattle.bundles.proofs.DigitTexts.{are_digits, bytes_said}
use Rattle.bundles.proofs.Feeds.{line_first, lines_first, no_feed, pair_of, sentences_first}
use Rattle.bundles.proofs.FieldTexts.{greeting_said, program_said}
use Rattle.bundles.proofs.FrontSentences.{no_feeds}
use Rattle.bundles.proofs.OlderTexts.{spelled_is_no_older}
use Rattle.bundles.proofs.PlainWords.{digits_no_feed, program_no_feed}
use Rattle.bundles.proofs.Sentences.{other_first}
use Rattle.bundles.proofs.Steps.{says_some}

-- ---- the lines of the text

lines_in : (first : List ℕ) (ss ls : List (List ℕ)) → no_feed first ≡ true → list_all no_feed ss ≡ true → list_all no_feed ls ≡ true → lines_of ((ended first ++ flat_map ended ss) ++ flat_map ended ls) ≡ first ∷ (ss ++ (ls ++ ([] ∷ [])))
lines_in first ss ls f g h =
    let behind : lines_of (flat_map ended ls) ≡ ls ++ ([] ∷ []) = ap (λ (t : List ℕ). lines_of t) (sym (append-nil (flat_map ended ls))) ∙ lines_first ls [] h in
    ap (λ (t : List ℕ). lines_of t) (append_assoc (ended first) (flat_map ended ss) (flat_map ended ls) ∙ append_assoc first (10 ∷ []) (flat_map ended ss ++ flat_map ended ls))
    ∙ line_first first (flat_map ended ss ++ flat_map ended ls) f
    ∙ ap (λ (parts : List (List ℕ)). first ∷ parts) (lines_first ss (flat_map ended ls) g ∙ ap (λ (parts : List (List ℕ)). ss ++ parts) behind)

last_no_feeds : (b : Contents) → IsBundle b → list_all no_feed (last_lines b) ≡ true
last_no_feeds b is =
    let first = program_no_feed b.program is.program in
    let second = digits_no_feed (encode_lower b.directory) (are_digits b.directory is.directory) in
    let third = digits_no_feed (encode_lower b.proof) (are_digits b.proof is.proof) in
    let behind : list_all no_feed (encode_lower b.directory ∷ encode_lower b.proof ∷ []) ≡ true = and_from (no_feed (encode_lower b.directory)) (list_all no_feed (encode_lower b.proof ∷ [])) second (and_from (no_feed (encode_lower b.proof)) true third refl) in
    and_from (no_feed (codes "program " ++ b.program)) (list_all no_feed (encode_lower b.directory ∷ encode_lower b.proof ∷ [])) first behind

text_lines : (b : Contents) (is : IsBundle b) → lines_of (text_of b) ≡ first_line ∷ (is.sentences.lines ++ (last_lines b ++ ([] ∷ [])))
unfolding text_of
text_lines b is =
    ap (λ (t : List ℕ). lines_of ((ended first_line ++ t) ++ flat_map ended (last_lines b))) is.sentences.joined
    ∙ lines_in first_line is.sentences.lines (last_lines b) refl (no_feeds is.sentences.lines is.sentences.each) (last_no_feeds b is)

-- ---- one line after the other

abbrev at : ℕ → List (List ℕ) → Reached
at n parts = record { number = n; left = parts }

abbrev up_to : {A : Type 0} → A → Reached → Read A
up_to x p = Ok (x, p)

-- the line is read, and then the rest
on : {A B : Type 0} (says : List ℕ → Option A) (f : A × Reached → Result B BundleFault) (y : Result B BundleFault) (p : Reached) (n : ℕ) (line : List ℕ) (more : List (List ℕ)) (x : A) → p.number ≡ n → p.left ≡ line ∷ more → 1 ≤ length more → says line ≡ Some x → f (x, at (n + 1) more) ≡ y → (line_at says p >>= f) ≡ y
on {A} {B} says f y p n line more x number left some told behind =
    let read : line_at says p ≡ up_to x (at (n + 1) more) = says_some says p (at (n + 1) more) line x (record { number = ap (λ (m : ℕ). m + 1) (sym number); left = left; ends = some }) told in
    ap (λ (r : Read A). r >>= f) read ∙ behind

-- ---- the bundle

abbrev bundle : List ℕ → List ℕ → List ℕ → List ℕ → Result Contents BundleFault
bundle sentences program directory proof = Ok (record { sentences = sentences; program = program; directory = directory; proof = proof })

behind_sentences : (found : List ℕ × Reached) (sentences p x y name db pb : List ℕ) (m : ℕ) → found ≡ pair_of sentences (at m (p ∷ x ∷ y ∷ [] ∷ [])) → program_in p ≡ Some name → bytes_in x ≡ Some db → bytes_in y ≡ Some pb → (line_at program_in found.1 >>= (λ program. line_at bytes_in program.1 >>= (λ directory. line_at bytes_in directory.1 >>= (λ proof. nothing_left proof.1.number proof.1.left >>= (λ done. bundle found.0 program.0 directory.0 proof.0))))) ≡ bundle sentences name db pb
behind_sentences found sentences p x y name db pb m h hp hx hy =
    let wanted : Result Contents BundleFault = bundle sentences name db pb in
    ap (λ (q : List ℕ × Reached). line_at program_in q.1 >>= (λ program. line_at bytes_in program.1 >>= (λ directory. line_at bytes_in directory.1 >>= (λ proof. nothing_left proof.1.number proof.1.left >>= (λ done. bundle q.0 program.0 directory.0 proof.0))))) h
    ∙ on program_in _ wanted (at m (p ∷ x ∷ y ∷ [] ∷ [])) m p (x ∷ y ∷ [] ∷ []) name refl refl (omega arith) hp
    (on bytes_in _ wanted (at (m + 1) (x ∷ y ∷ [] ∷ [])) (m + 1) x (y ∷ [] ∷ []) db refl refl (omega arith) hx
    (on bytes_in _ wanted (at (m + 1 + 1) (y ∷ [] ∷ [])) (m + 1 + 1) y ([] ∷ []) pb refl refl (omega arith) hy refl))

lines_read : (text p x y name db pb : List ℕ) (ss : List (List ℕ)) → lines_of text ≡ first_line ∷ (ss ++ (p ∷ x ∷ y ∷ [] ∷ [])) → All (λ line. IsTrue (is_sentence line)) ss → is_sentence p ≡ false → program_in p ≡ Some name → bytes_in x ≡ Some db → bytes_in y ≡ Some pb → lines_say text ≡ bundle (flat_map ended ss) name db pb
unfolding lines_say
lines_read text p x y name db pb ss lines each other hp hx hy =
    let parts : List (List ℕ) = p ∷ x ∷ y ∷ [] ∷ [] in
    let many : 1 ≤ length (ss ++ parts) = omega (arith, length-append ss parts) in
    let (m, found) = sentences_first ss parts 2 each (omega arith) (λ k. other_first p (x ∷ y ∷ [] ∷ []) (omega arith) other k) in
    on greets _ (bundle (flat_map ended ss) name db pb) (beginning text) 1 first_line (ss ++ parts) tt refl lines many greeting_said
    (behind_sentences (sentences_from 2 (ss ++ parts)) (flat_map ended ss) p x y name db pb m found hp hx hy)

no_older : (b : Contents) → bundle_of (text_of b) ≡ lines_say (text_of b)
unfolding bundle_of
no_older b = ap (λ (t : Bool). cond t (Err OlderBundle) (lines_say (text_of b))) (spelled_is_no_older b)

pub spelled_is_read : (b : Contents) → IsBundle b → bundle_of (text_of b) ≡ Ok b
spelled_is_read b is =
    no_older b
    ∙ lines_read (text_of b) (codes "program " ++ b.program) (encode_lower b.directory) (encode_lower b.proof) b.program b.directory b.proof is.sentences.lines (text_lines b is) is.sentences.each refl (program_said b.program is.program) (bytes_said b.directory is.directory) (bytes_said b.proof is.proof)
    ∙ ap (λ (t : List ℕ). bundle t b.program b.directory b.proof) (sym is.sentences.joined)

not_both : (f : BundleFault) (b : Contents) (r : Result Contents BundleFault) → r ≡ Err f → r ≡ Ok b → ⊥
not_both f b r g h = cc

pub refused_is_unspelled : (text : List ℕ) (f : BundleFault) → bundle_of text ≡ Err f → (b : Contents) → IsBundle b → text_of b ≡ text → ⊥
refused_is_unspelled text f err b is has = not_both f b (bundle_of text) err (ap (λ (t : List ℕ). bundle_of t) (sym has) ∙ spelled_is_read b is)
