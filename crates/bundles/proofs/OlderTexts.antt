-- Texts of format 1.
use Rattle.std.proofs.Common.{◌≡◌, ℕ, Bool, true, false, cond, nat_eq, List, [], ◌∷◌, ◌++◌, drop, take, Option, Some, None, Result, Ok, Err, refl, sym, ap, ◌∙◌}
use Rattle.std.specs.List.{starts_with}
use Rattle.std.specs.Str.{bytes_eq}
use Rattle.std.proofs.lemmas.List.{take-append-drop}
use Rattle.std.proofs.lemmas.Slice.Eq.{bytes_eq-Decides}
use Rattle.outcome.specs.Outcome.{◌>>=◌}
use Rattle.bundles.specs.declared.fault.BundleFault.{BundleFault}
use Rattle.bundles.specs.declared.fault.BundleFault.TheVariants.{BadBundle, OlderBundle}
use Rattle.bundles.specs.Grammar.{Reached, bundle_of, line_at, lines_say, next_says, nothing_left, said, sentences_from}
use Rattle.bundles.specs.Spelling.{Contents, ended, older_line, text_of}

pub older_refused : (rest : List ℕ) → bundle_of (ended older_line ++ rest) ≡ Err OlderBundle
unfolding bundle_of
older_refused rest = refl

pub spelled_is_no_older : (b : Contents) → starts_with nat_eq (text_of b) (ended older_line) ≡ false
unfolding text_of
spelled_is_no_older b = refl

-- ---- no line is refused so

abbrev Never : {A : Type 0} → Result A BundleFault → Type 0
Never r = r ≡ Err OlderBundle → ⊥

said_never : {A : Type 0} (n : ℕ) (more : List (List ℕ)) (o : Option A) → Never (said n more o)
said_never n more None h = absurd cc
said_never n more (Some x) h = absurd cc

next_never : {A : Type 0} (says : List ℕ → Option A) (n : ℕ) (parts : List (List ℕ)) → Never (next_says says n parts)
next_never says n [] h = absurd cc
next_never says n (rest ∷ []) h = absurd cc
next_never says n (line ∷ next ∷ more) h = said_never n (next ∷ more) (says line) h

line_never : {A : Type 0} (says : List ℕ → Option A) (at : Reached) → Never (line_at says at)
unfolding line_at
line_never says at h = next_never says at.number at.left h

end_never : (n : ℕ) (parts : List (List ℕ)) → Never (nothing_left n parts)
end_never n [] h = absurd cc
end_never n ([] ∷ []) h = absurd cc
end_never n ((c ∷ rest) ∷ []) h = absurd cc
end_never n (line ∷ next ∷ more) h = absurd cc

then_never : {A B : Type 0} (r : Result A BundleFault) (f : A → Result B BundleFault) → Never r → ((x : A) → Never (f x)) → Never (r >>= f)
then_never (Ok x) f first then h = then x h
then_never (Err d) f first then h = let same : d ≡ OlderBundle = cc in first (ap Err same)

abbrev bundle : List ℕ → List ℕ → List ℕ → List ℕ → Contents
bundle sentences program directory proof = record { sentences = sentences; program = program; directory = directory; proof = proof }

value_never : (b : Contents) → Never {A = Contents} (Ok b)
value_never b h = absurd cc

ended_never : (b : Contents) (n : ℕ) (parts : List (List ℕ)) → Never {A = Contents} (nothing_left n parts >>= (λ done. Ok b))
ended_never b n parts = then_never (nothing_left n parts) (λ done. Ok b) (end_never n parts) (λ done. value_never b)

lines_never : (text : List ℕ) → Never (lines_say text)
unfolding lines_say
lines_never text =
    then_never _ _ (line_never _ _) (λ first. then_never _ _ (line_never _ _) (λ program. then_never _ _ (line_never _ _) (λ directory. then_never _ _ (line_never _ _) (λ proof. ended_never (bundle (sentences_from first.1.number first.1.left).0 program.0 directory.0 proof.0) proof.1.number proof.1.left))))

-- ---- which texts are

of_test : (text : List ℕ) (t : Bool) → starts_with nat_eq text (ended older_line) ≡ t → cond t (Err OlderBundle) (lines_say text) ≡ Err OlderBundle → (rest : List ℕ) × (text ≡ ended older_line ++ rest)
of_test text true e h =
    let front : ended older_line ≡ take 18 text = (bytes_eq-Decides (ended older_line) (take 18 text)).0 e in
    (drop 18 text, sym (take-append-drop 18 text) ∙ ap (λ (t : List ℕ). t ++ drop 18 text) (sym front))
of_test text false e h = absurd (lines_never text h)

pub is_older_text : (text : List ℕ) → bundle_of text ≡ Err OlderBundle → (rest : List ℕ) × (text ≡ ended older_line ++ rest)
unfolding bundle_of
is_older_text text h = of_test text (starts_with nat_eq text (ended older_line)) refl h
