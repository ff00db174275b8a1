-- What is gone over and not kept.
use Rattle.std.proofs.Common.{◌≡◌, ℕ, suc, ◌+◌, ◌-◌, ◌<◌, List, Result, Ok, Err, refl, sym, ◌∙◌, arith}
use Rattle.log_chain.specs.declared.fault.FieldFault.{FieldFault}
use Rattle.log_chain.specs.declared.fault.FieldFault.TheVariants as field
use Rattle.log_chain.specs.Fields.{Read, parts_at}
use Rattle.log_chain.proofs.PartsLoop.{with_front}
use Rattle.item_forms.specs.declared.fault.DecodeFault.{DecodeFault}
use Rattle.item_forms.specs.declared.fault.DecodeFault.TheVariants.{Memory}
use Rattle.item_forms.specs.Refusals.{of_field}
use Rattle.item_forms.specs.Skipping.{without_value}

abbrev passed : {E : Type 0} → Result (Unit {0}) E
passed = Ok tt

abbrev failed : {E : Type 0} → E → Result (Unit {0}) E
failed e = Err e

-- there is a value where no fault is told
pub valued : {A E : Type 0} (r : Result A E) → passed {E = E} ≡ without_value r → (x : A) × (r ≡ Ok x)
valued (Ok x) e = (x, refl)
valued (Err d) e = absurd cc

-- the fault that is told
pub faulty : {A E : Type 0} (r : Result A E) (e : E) → failed e ≡ without_value r → r ≡ Err e
faulty (Ok x) e h = absurd cc
faulty (Err d) e h = let same : d ≡ e = cc in rw same refl

-- a part's fault is the fault of all
pub stops_at : {A E : Type 0} (e : E) (at : List ℕ → Read A E) (front : List A) (count i : ℕ) (bytes : List ℕ) (total : Read (List A) E) → i < count → at bytes ≡ Err e
    → with_front front (parts_at at (count - i) bytes) ≡ total → total ≡ Err e
unfolding parts_at
stops_at e at front count i bytes total lt h so_far =
    let k : count - i ≡ suc (count - (i + 1)) = omega arith in
    let one : with_front front (parts_at at (count - i) bytes) ≡ Err e = rw (k, h) refl in
    sym so_far ∙ one

-- no field takes memory
pub field_lends : (f : FieldFault) (e : DecodeFault) → e ≡ of_field f → e ≡ Memory → ⊥
field_lends field.Truncated e is memory = absurd cc
field_lends field.TooLong e is memory = absurd cc
