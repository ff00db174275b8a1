-- Formats of several forms, of which a tag tells one.
use Rattle.std.proofs.Common.{◌≡◌, Bool, true, false, cond, List, ℕ, Ok, Err, refl, subst}
use Rattle.outcome.specs.Bytes.{IsBytes}
use Rattle.outcome.proofs.Steps.{bind_ok, Ok-inj}
use Rattle.log_chain.specs.Fields.{Read}
use Rattle.log_chain.proofs.Codec.{Takes, IsField, made_at}

-- What is read is spelled so: the first half of `IsField`.
abbrev pub IsTaken : {Y E : Type 0} → (List ℕ → Read Y E) → (Y → List ℕ) → (Y → Type 0) → Type 0
IsTaken {Y} {E} at text Fits = (bytes : List ℕ) (y : Y) (rest : List ℕ) → IsBytes bytes → at bytes ≡ Ok (y, rest) → Takes bytes (text y) rest × Fits y

-- one form
pub form_taken : {X Y E : Type 0} {at : List ℕ → Read X E} {text_x : X → List ℕ} {FitsX : X → Type 0} (make : X → Y) (text : Y → List ℕ) (Fits : Y → Type 0)
    → ((x : X) → text_x x ≡ text (make x)) → ((x : X) → FitsX x → Fits (make x)) → IsField at text_x FitsX → IsTaken (made_at make at) text Fits
form_taken {X = X} {Y = Y} {E = E} {at = at} make text Fits same to field bytes y rest fits e =
    let a = bind_ok (at bytes) (λ a. let made : Read Y E = Ok (make a.0, a.1) in made) (y, rest) e in
    let t = field.takes bytes a.0.0 a.0.1 fits a.1 in
    let front : Takes bytes (text (make a.0.0)) a.0.1 = subst (λ (s : List ℕ). Takes bytes s a.0.1) (same a.0.0) t.0 in
    subst (λ (r : Y × List ℕ). Takes bytes (text r.0) r.1 × Fits r.0) (Ok-inj {E = E} (make a.0.0, a.0.1) (y, rest) a.2) (front, to a.0.0 t.1)

-- one form or another, as a test of the tag tells
pub either_taken : {Y E : Type 0} (one other : List ℕ → Read Y E) (text : Y → List ℕ) (Fits : Y → Type 0) (test : Bool) → (test ≡ true → IsTaken one text Fits) → (test ≡ false → IsTaken other text Fits)
    → IsTaken (λ bytes. cond test (one bytes) (other bytes)) text Fits
either_taken one other text Fits true is isnt = is refl
either_taken one other text Fits false is isnt = isnt refl

-- no form
pub none_taken : {Y E : Type 0} (fault : E) (text : Y → List ℕ) (Fits : Y → Type 0) → IsTaken (λ bytes. let none : Read Y E = Err fault in none) text Fits
none_taken fault text Fits bytes y rest fits e = absurd cc
