-- One line of a text after the other.
use Rattle.std.proofs.Common.{◌≡◌, ◌≤◌, ℕ, Bool, true, false, cond, List, [], ◌∷◌, length, Option, Some, None, Ok, Err, refl, sym, ap, ◌∙◌, arith}
use Rattle.bundles.specs.declared.fault.BundleFault.{BundleFault}
use Rattle.bundles.specs.declared.fault.BundleFault.TheVariants.{BadBundle}
use Rattle.std.specs.Str.{bytes_eq}
use Rattle.bundles.specs.Grammar.{Reached, Read, greets, line_at, next_says, said}
use Rattle.bundles.specs.Spelling.{first_line}
use Rattle.bundles.specs.within.Cursors.{IsNext}

abbrev read_up_to : {A : Type 0} → A → Reached → Read A
read_up_to x at = Ok (x, at)

step : {A : Type 0} (says : List ℕ → Option A) (n : ℕ) (line : List ℕ) (parts : List (List ℕ)) (told : Option A) → 1 ≤ length parts → says line ≡ told → next_says says n (line ∷ parts) ≡ said n parts told
step says n line [] told some h = absurd (omega arith)
step says n line (p ∷ ps) told some h = ap (said n (p ∷ ps)) h

here : (at : Reached) (parts : List (List ℕ)) → at.left ≡ parts → {A : Type 0} (says : List ℕ → Option A) → line_at says at ≡ next_says says at.number parts
unfolding line_at
here at parts h says = ap (next_says says at.number) h

pub says_some : {A : Type 0} (says : List ℕ → Option A) (at behind : Reached) (line : List ℕ) (x : A) → IsNext at line behind → says line ≡ Some x → line_at says at ≡ Ok (x, behind)
says_some {A} says at behind line x is h =
    here at (line ∷ behind.left) is.left says
    ∙ step says at.number line behind.left (Some x) is.ends h
    ∙ ap (λ (n : ℕ). read_up_to x (record { number = n; left = behind.left })) (sym is.number)

pub says_none : {A : Type 0} (says : List ℕ → Option A) (at behind : Reached) (line : List ℕ) (f : BundleFault) → IsNext at line behind → says line ≡ None → f ≡ BadBundle at.number → line_at says at ≡ Err f
says_none says at behind line f is h told = here at (line ∷ behind.left) is.left says ∙ step says at.number line behind.left None is.ends h ∙ ap Err (sym told)

short : {A : Type 0} (says : List ℕ → Option A) (n : ℕ) (parts : List (List ℕ)) → length parts ≤ 1 → next_says says n parts ≡ Err (BadBundle n)
short says n [] h = refl
short says n (line ∷ []) h = refl
short says n (line ∷ next ∷ more) h = absurd (omega arith)

pub no_line : {A : Type 0} (says : List ℕ → Option A) (at : Reached) (f : BundleFault) → (length at.left ≤ 1) × (f ≡ BadBundle at.number) → line_at says at ≡ Err f
unfolding line_at
no_line says at f h = short says at.number at.left h.0 ∙ ap Err (sym h.1)

pub greets_some : (line : List ℕ) → bytes_eq line first_line ≡ true → greets line ≡ Some tt
unfolding greets
greets_some line h = ap (λ (b : Bool). cond b (Some tt) None) h

pub greets_none : (line : List ℕ) → bytes_eq line first_line ≡ false → greets line ≡ None
unfolding greets
greets_none line h = ap (λ (b : Bool). cond b (Some tt) None) h
