-- What the steps of a sequence say of the whole, and the whole of its steps.
use Rattle.std.proofs.Common.{◌≡◌, Bool, true, false, cond, Result, Ok, Err, refl, ap, ◌∙◌, inl, inr}
use Rattle.outcome.specs.Outcome.{◌>>=◌, told_as, Fails}

-- ---- faults

-- a step that fails makes the whole sequence fail so
pub Fails-then : {A B E : Type 0} (memory e : E) (step : Result A E) (f : A → Result B E) → Fails memory e step → Fails memory e (step >>= f)
Fails-then memory e step f (inl m) = inl m
Fails-then memory e step f (inr is) = inr (ap (λ r. r >>= f) is)

-- a lower fault fails under its upper name
pub Fails-told : {A E F : Type 0} (tell : E → F) (memory : F) (low e : E) (step : Result A E) → tell low ≡ memory → Fails low e step → Fails memory (tell e) (told_as tell step)
Fails-told tell memory low e step names (inl m) = inl (ap tell m ∙ names)
Fails-told tell memory low e step names (inr is) = inr (ap (told_as tell) is)

-- ---- values

-- the value of a sequence comes of a value of its first step
pub bind_ok : {A B E : Type 0} (r : Result A E) (f : A → Result B E) (y : B) → (r >>= f) ≡ Ok y → (x : A) × (r ≡ Ok x) × (f x ≡ Ok y)
bind_ok (Ok x) f y e = (x, refl, e)
bind_ok (Err d) f y e = absurd cc

pub told_ok : {A E F : Type 0} (tell : E → F) (r : Result A E) (y : A) → told_as tell r ≡ Ok y → r ≡ Ok y
told_ok tell (Ok x) y e = ap Ok cc
told_ok tell (Err d) y e = absurd cc

-- a test that did not fail, by the answer that lets pass
pub guard_false : {A E : Type 0} (b : Bool) (d : E) (r : Result A E) (y : A) → cond b (Err d) r ≡ Ok y → (b ≡ false) × (r ≡ Ok y)
guard_false true d r y e = absurd cc
guard_false false d r y e = (refl, e)

pub guard_true : {A E : Type 0} (b : Bool) (d : E) (r : Result A E) (y : A) → cond b r (Err d) ≡ Ok y → (b ≡ true) × (r ≡ Ok y)
guard_true true d r y e = (refl, e)
guard_true false d r y e = absurd cc

abbrev done : {A E : Type 0} → A → Result A E
done x = Ok x

-- what is answered is one value
pub Ok-inj : {A E : Type 0} (x y : A) → done {A = A} {E = E} x ≡ done y → x ≡ y
Ok-inj x y e = cc
