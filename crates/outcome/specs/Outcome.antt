-- The words by which contracts speak of refusals.
-- They compare a call with what is expected of it: a function on lists, which cannot run out of memory.
-- `memory` is the fault by which the call reports that memory ran out.
use Rattle.std.specs.Prelude.{◌≡◌, ◌⊎◌, ◌↔◌, Result, Ok, Err}

-- ---- what is expected

-- One step, and then another on its value. The first fault ends the sequence.
infixl 10 ◌>>=◌
abbrev pub ◌>>=◌ : {A B E : Type 0} → Result A E → (A → Result B E) → Result B E
(Ok x) >>= f = f x
(Err e) >>= f = Err e

-- The same value, or a lower crate's fault under the name that an upper crate gives it.
abbrev pub told_as : {A E F : Type 0} → (E → F) → Result A E → Result A F
told_as tell (Ok x) = Ok x
told_as tell (Err e) = Err (tell e)

-- ---- what a call did

-- The fault `e` is the expected one, or it reports that memory ran out.
abbrev pub Fails : {Y E : Type 0} → E → E → Result Y E → Type 0
Fails memory e expected = (e ≡ memory) ⊎ (expected ≡ Err e)

-- The call returned the expected value or fault, unless memory ran out. `view` says which value of a contract stands for
-- what was returned.
abbrev pub Gives : {X Y E : Type 0} → E → (X → Y) → Result X E → Result Y E → Type 0
Gives memory view (Ok x) expected = expected ≡ Ok (view x)
Gives memory view (Err e) expected = Fails memory e expected

-- The call left the expected state, or it refused and left the old state. A refusal is the expected fault, unless memory
-- ran out.
abbrev pub Leaves : {X Y E : Type 0} → E → Result X E → Y → Y → Result Y E → Type 0
Leaves memory (Ok x) old new expected = expected ≡ Ok new
Leaves memory (Err e) old new expected = (new ≡ old) × Fails memory e expected

-- The call took the expected value off the front of what a reader had, and `left` is the expected rest. Or it refused with
-- the expected fault, unless memory ran out. `view` is as in `Gives`.
abbrev pub Took : {X Y Rest E : Type 0} → E → (X → Y) → Result X E → Rest → Result (Y × Rest) E → Type 0
Took memory view (Ok x) left expected = expected ≡ Ok (view x, left)
Took memory view (Err e) left expected = Fails memory e expected

-- As `Took`, for a call that takes no memory. If it refuses, its fault is the expected one, and the reader's place is
-- unchanged.
abbrev pub Reads : {X Y Rest E : Type 0} → (X → Y) → Result X E → Rest → Rest → Result (Y × Rest) E → Type 0
Reads view (Ok x) old new expected = expected ≡ Ok (view x, new)
Reads view (Err e) old new expected = (expected ≡ Err e) × (new ≡ old)

-- ---- laws of the words, which `laws` proves

-- A step that fails makes the whole sequence fail in the same way.
abbrev pub FaultsEndSequences : (A B E : Type 0) → Type 0
FaultsEndSequences A B E = (memory e : E) (step : Result A E) (next : A → Result B E) → Fails memory e step → Fails memory e (step >>= next)

-- A fault fails in the same way under its upper name, if the two names of "out of memory" agree.
abbrev pub FaultsAreTold : (A E F : Type 0) → Type 0
FaultsAreTold A E F = (tell : E → F) (low : E) (memory : F) (e : E) (step : Result A E) → tell low ≡ memory → Fails low e step → Fails memory (tell e) (told_as tell step)

-- A sequence has a value only if each of its steps has one.
abbrev pub ValuesComeOfValues : (A B E : Type 0) → Type 0
ValuesComeOfValues A B E = (step : Result A E) (next : A → Result B E) (y : B) → (step >>= next) ≡ Ok y → (x : A) × (step ≡ Ok x) × (next x ≡ Ok y)

-- ---- what each word excludes, which `laws` proves too

-- If a value is expected, the only fault is that of memory. If a fault is expected, it is that fault or that of memory.
pub record FailsAsExpected (Y E : Type 0) : Type 0 where
  pub of_value : (memory e : E) (y : Y) → Fails memory e (Ok y) ↔ (e ≡ memory)
  pub of_fault : (memory e f : E) → Fails {Y = Y} memory e (Err f) ↔ ((e ≡ memory) ⊎ (f ≡ e))

-- A value is the expected one, and there is none if a fault is expected. Each fault is as `FailsAsExpected` says.
pub record GivesAsExpected (X Y E : Type 0) : Type 0 where
  pub value : (memory : E) (view : X → Y) (x : X) (y : Y) → Gives memory view (Ok x) (Ok y) ↔ (y ≡ view x)
  pub no_value : (memory f : E) (view : X → Y) (x : X) → Gives memory view (Ok x) (Err f) → ⊥
  pub of_value : (memory e : E) (view : X → Y) (y : Y) → Gives memory view (Err e) (Ok y) ↔ (e ≡ memory)
  pub of_fault : (memory e f : E) (view : X → Y) → Gives memory view (Err e) (Err f) ↔ ((e ≡ memory) ⊎ (f ≡ e))

-- After a success the state is the expected one, and there is no success if a fault is expected. After a fault the state is
-- the old one.
pub record LeavesAsExpected (X Y E : Type 0) : Type 0 where
  pub value : (memory : E) (x : X) (old new y : Y) → Leaves memory (Ok x) old new (Ok y) ↔ (y ≡ new)
  pub no_value : (memory f : E) (x : X) (old new : Y) → Leaves memory (Ok x) old new (Err f) → ⊥
  pub of_value : (memory e : E) (old new y : Y) → Leaves {X = X} memory (Err e) old new (Ok y) ↔ ((new ≡ old) × (e ≡ memory))
  pub of_fault : (memory e f : E) (old new : Y) → Leaves {X = X} memory (Err e) old new (Err f) ↔ ((new ≡ old) × ((e ≡ memory) ⊎ (f ≡ e)))

-- What is taken is the expected value, and what is left is the expected rest. Each fault is as `FailsAsExpected` says.
pub record TookAsExpected (X Y Rest E : Type 0) : Type 0 where
  pub value : (memory : E) (view : X → Y) (x : X) (y : Y) (left rest : Rest) → Took memory view (Ok x) left (Ok (y, rest)) ↔ ((y ≡ view x) × (rest ≡ left))
  pub no_value : (memory f : E) (view : X → Y) (x : X) (left : Rest) → Took memory view (Ok x) left (Err f) → ⊥
  pub of_value : (memory e : E) (view : X → Y) (y : Y) (left rest : Rest) → Took memory view (Err e) left (Ok (y, rest)) ↔ (e ≡ memory)
  pub of_fault : (memory e f : E) (view : X → Y) (left : Rest) → Took memory view (Err e) left (Err f) ↔ ((e ≡ memory) ⊎ (f ≡ e))

-- What is read is the expected value, and what is left is the expected rest. A fault is the expected one, and leaves the
-- place unchanged.
pub record ReadsAsExpected (X Y Rest E : Type 0) : Type 0 where
  pub value : (view : X → Y) (x : X) (y : Y) (old new rest : Rest) → Reads {E = E} view (Ok x) old new (Ok (y, rest)) ↔ ((y ≡ view x) × (rest ≡ new))
  pub no_value : (f : E) (view : X → Y) (x : X) (old new : Rest) → Reads view (Ok x) old new (Err f) → ⊥
  pub no_fault : (e : E) (view : X → Y) (y : Y) (old new rest : Rest) → Reads view (Err e) old new (Ok (y, rest)) → ⊥
  pub of_fault : (e f : E) (view : X → Y) (old new : Rest) → Reads view (Err e) old new (Err f) ↔ ((f ≡ e) × (new ≡ old))
