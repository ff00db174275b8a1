-- Formats that take all of the bytes, and what a contract says of a call that reads one.
use Rattle.std.proofs.Common.{◌≡◌, ℕ, cond, eqb, List, [], ◌++◌, length, Result, Ok, Err, sym, ap, subst, ◌∙◌}
use Rattle.std.specs.Prelude.{IfOk}
use Rattle.std.proofs.lemmas.Bool.{eqb-true}
use Rattle.std.proofs.lemmas.List.{append-nil, nil_from_length}
use Rattle.outcome.specs.Bytes.{IsBytes}
use Rattle.outcome.specs.Outcome.{◌>>=◌, Gives}
use Rattle.outcome.proofs.Steps.{bind_ok, guard_true, Ok-inj}
use Rattle.log_chain.specs.Fields.{Read}
use Rattle.log_chain.proofs.Codec.{IsField}

-- A format of whole texts: what is read is spelled so, and what fits and is spelled so is read.
pub record IsWhole {Y E : Type 0} (read : List ℕ → Result Y E) (text : Y → List ℕ) (Fits : Y → Type 0) : Type 0 where
  pub takes : (bytes : List ℕ) (y : Y) → IsBytes bytes → read bytes ≡ Ok y → (bytes ≡ text y) × Fits y
  pub again : (y : Y) → Fits y → read (text y) ≡ Ok y

-- a field after which nothing may follow
pub to_the_end : {Y E : Type 0} {at : List ℕ → Read Y E} {text : Y → List ℕ} {Fits : Y → Type 0} (trailing : E) → IsField at text Fits
    → IsWhole (λ bytes. at bytes >>= λ r. cond (eqb (length r.1) 0) (Ok r.0) (Err trailing)) text Fits
to_the_end {Y = Y} {E = E} {at = at} {text = text} {Fits = Fits} trailing field = record {
  takes = λ bytes y fits e.
      let a = bind_ok (at bytes) (λ r. cond (eqb (length r.1) 0) (Ok r.0) (Err trailing)) y e in
      let g = guard_true (eqb (length a.0.1) 0) trailing (Ok a.0.0) y a.2 in
      let nothing : a.0.1 ≡ [] = nil_from_length a.0.1 (eqb-true _ _ g.0) in
      let t = field.takes bytes a.0.0 a.0.1 fits a.1 in
      let whole : bytes ≡ text a.0.0 = t.0.parts ∙ ap (λ (r : List ℕ). text a.0.0 ++ r) nothing ∙ append-nil (text a.0.0) in
      subst (λ (z : Y). (bytes ≡ text z) × Fits z) (Ok-inj {E = E} a.0.0 y g.1) (whole, t.1);
  again = λ y fits.
      ap (λ (s : List ℕ). at s >>= λ r. cond (eqb (length r.1) 0) (Ok r.0) (Err trailing)) (sym (append-nil (text y)))
      ∙ ap (λ (found : Read Y E). found >>= λ r. cond (eqb (length r.1) 0) (Ok r.0) (Err trailing)) (field.again y [] fits);
}

-- a field, and any bytes after it to the end
pub and_the_rest : {Y E : Type 0} {at : List ℕ → Read Y E} {text : Y → List ℕ} {Fits : Y → Type 0} → IsField at text Fits → IsWhole at (λ p. text p.0 ++ p.1) (λ p. Fits p.0 × IsBytes p.1)
and_the_rest {at = at} field = record {
  takes = λ bytes p fits e. let t = field.takes bytes p.0 p.1 fits e in (t.0.parts, (t.1, t.0.rest_fits));
  again = λ p fits. field.again p.0 p.1 fits.0;
}

-- ---- what a call of a format tells

-- What a call read is spelled so.
pub found_of : {X Y E : Type 0} {read : List ℕ → Result Y E} {text : Y → List ℕ} {Fits : Y → Type 0} → IsWhole read text Fits → (memory : E) (view : X → Y) (result : Result X E) (bytes : List ℕ) → IsBytes bytes
    → Gives memory view result (read bytes) → IfOk result (λ x. Fits (view x) × (bytes ≡ text (view x)))
found_of whole memory view (Ok x) bytes fits e = let t = whole.takes bytes (view x) fits e in (t.1, t.0)
found_of whole memory view (Err f) bytes fits e = tt

-- What is spelled so is what a call reads, unless memory runs out.
pub only_of : {X Y E : Type 0} {read : List ℕ → Result Y E} {text : Y → List ℕ} {Fits : Y → Type 0} → IsWhole read text Fits → (memory : E) (view : X → Y) (result : Result X E) (bytes : List ℕ) (y : Y)
    → Fits y → bytes ≡ text y → Gives memory view result (read bytes) → Gives memory view result (Ok y)
only_of {E = E} {read = read} whole memory view result bytes y fits is e = subst (Gives memory view result) (ap read is ∙ whole.again y fits) e

-- a value that is made of all that is read
abbrev pub made_of : {P Y E : Type 0} → (P → Y) → (List ℕ → Result P E) → List ℕ → Result Y E
made_of {P} {Y} {E} make read bytes = read bytes >>= λ p. let made : Result Y E = Ok (make p) in made

-- A struct of its parts, as `struct_of` for a format of whole texts.
pub whole_struct_of : {P Y E : Type 0} {read_parts : List ℕ → Result P E} {text_parts : P → List ℕ} {FitsParts : P → Type 0}
    (read : List ℕ → Result Y E) (text : Y → List ℕ) (Fits : Y → Type 0) (make : P → Y) (parts : Y → P)
    → ((p : P) → parts (make p) ≡ p) → ((y : Y) → make (parts y) ≡ y)
    → ((bytes : List ℕ) → read bytes ≡ made_of make read_parts bytes) → ((y : Y) → text_parts (parts y) ≡ text y)
    → ((y : Y) → FitsParts (parts y) → Fits y) → ((y : Y) → Fits y → FitsParts (parts y))
    → IsWhole read_parts text_parts FitsParts → IsWhole read text Fits
whole_struct_of {P = P} {Y = Y} {E = E} {read_parts = read_parts} {text_parts = text_parts} {FitsParts = FitsParts} read text Fits make parts there back reads spells to from whole = record {
  takes = λ bytes y fits e.
      let a = bind_ok (read_parts bytes) (λ p. let made : Result Y E = Ok (make p) in made) y (sym (reads bytes) ∙ e) in
      let t = whole.takes bytes a.0 fits a.1 in
      let is : a.0 ≡ parts (make a.0) = sym (there a.0) in
      let front : bytes ≡ text (make a.0) = t.0 ∙ ap text_parts is ∙ spells (make a.0) in
      let fit : Fits (make a.0) = to (make a.0) (subst FitsParts is t.1) in
      subst (λ (z : Y). (bytes ≡ text z) × Fits z) (Ok-inj {E = E} (make a.0) y a.2) (front, fit);
  again = λ y fits.
      ap read (sym (spells y))
      ∙ reads (text_parts (parts y))
      ∙ ap (λ (r : Result P E). r >>= λ p. let made : Result Y E = Ok (make p) in made) (whole.again (parts y) (from y fits))
      ∙ ap (λ (z : Y). Ok z) (back y);
}
