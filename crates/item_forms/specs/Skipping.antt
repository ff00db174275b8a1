-- What a call does that goes over bytes and returns nothing of them.
use Rattle.std.specs.Prelude.{◌≡◌, Result, Ok, Err}
use Rattle.item_forms.specs.declared.fault.DecodeFault.{DecodeFault}
use Rattle.item_forms.specs.declared.fault.DecodeFault.TheVariants.{Memory}

-- The same outcome without its value: success if there is a value, and else the fault.
abbrev pub without_value : {A E : Type 0} → Result A E → Result (Unit {0}) E
without_value (Ok x) = Ok tt
without_value (Err e) = Err e

-- The call succeeds if there is a value at the front of the bytes, and then the reader has the rest left. Else it reports the fault of the
-- front.
abbrev pub Skips : {A Rest E : Type 0} → Result (Unit {0}) E → Rest → Result (A × Rest) E → Type 0
Skips {A} (Ok done) left expected = (x : A) × (expected ≡ Ok (x, left))
Skips (Err e) left expected = expected ≡ Err e

-- The fault is one of the bytes, and not `Memory`.
abbrev pub TakesNoMemory : DecodeFault → Type 0
TakesNoMemory e = ¬ (e ≡ Memory)
