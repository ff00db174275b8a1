-- What becomes of a group of items that a store is given.
use Rattle.std.specs.Prelude.{◌≡◌, ◌⊎◌, ℕ, Bool, true, false, not, List, [], ◌∷◌, ◌++◌, filter, IsTrue, Option, Some, None}
use Rattle.item_forms.specs.Pieces.{Piece}
use Rattle.evidence_set.specs.ItemSets.{Items, IsWithin, contains, insert, insert_all}
use Rattle.journal.specs.Device.{LeavesOnly}
use Rattle.journal.specs.declared.fault.DeviceFault.{DeviceFault}
use Rattle.durable_store.specs.declared.fault.TakeFault.{TakeFault}
use Rattle.durable_store.specs.declared.fault.TakeFault.TheVariants as fault
use Rattle.durable_store.specs.Keeping.{IsKept, Keeps, Kept, spellings}

-- Which items of a group are new to the set: those that are neither there nor earlier in the group.
abbrev pub are_new : Items → List Piece → List Bool
are_new E [] = []
are_new E (x ∷ xs) = not (contains E x) ∷ are_new (insert E x) xs

-- The items of a group that are not there.
abbrev pub unheld : Items → List Piece → List Piece
unheld E xs = filter (λ (x : Piece). not (contains E x)) xs

-- What is written when texts are added to a journal: the texts, with the basis in front if the journal is not begun. Nothing is written if
-- there are no texts.
abbrev pub behind_basis : Bool → List (List ℕ) → List (List ℕ) → List (List ℕ)
behind_basis is_begun basis [] = []
behind_basis true basis (text ∷ texts) = text ∷ texts
behind_basis false basis (text ∷ texts) = basis ++ text ∷ texts

-- What is written when the store is given a group.
abbrev pub texts_for : {D : Type 0} → Kept D → List Piece → List (List ℕ)
texts_for s group = behind_basis s.is_begun s.basis (spellings (unheld s.contents.items group))

-- The store's items together with those of a group.
abbrev pub with_group : {D : Type 0} → Kept D → List Piece → Items
with_group s group = insert_all s.contents.items group

-- Why a refusal closes the store for good, if it does.
abbrev pub closed_by : TakeFault → Option DeviceFault
closed_by fault.GroupTooLong = None
closed_by fault.JournalFull = None
closed_by fault.DiskFailed = None
closed_by (fault.Lost why) = Some why
closed_by fault.Memory = None

-- The file keeps the store's items, with those of the group or without any of them that is new.
abbrev pub KeepsWithOrWithout : {D : Type 0} → Kept D → List Piece → List ℕ → Type 0
KeepsWithOrWithout s group file = Keeps s.basis s.contents.items file ⊎ Keeps s.basis (with_group s group) file

-- A call: the group that was given, and whether it was acknowledged.
pub record Call : Type 0 where
  pub group : List Piece
  pub is_acknowledged : Bool

-- What a call does to a store that is not closed.
pub record Took {D : Type 0} (moment : D → ℕ) (may_leave : D → List ℕ → Type 0) (left_since : D → ℕ → List ℕ → Type 0) (old : Kept D) (call : Call) (new : Kept D) : Type 0 where
  -- if it is acknowledged, the store has the group, and from then on each crash leaves it
  pub acknowledged : IsTrue call.is_acknowledged → (new.contents.items ≡ with_group old call.group) × IsKept may_leave new
  -- in any case the store loses no item, and has none that nobody gave
  pub least : IsWithin old.contents.items new.contents.items
  pub most : IsWithin new.contents.items (with_group old call.group)
  -- a crash at any moment of the call leaves the items from before it, with those of the group or without any that is new
  pub any_moment : LeavesOnly moment left_since old.device new.device (KeepsWithOrWithout old call.group)

-- What a call does to a store that is closed: nothing.
pub record IsUntouched {D : Type 0} (old : Kept D) (call : Call) (new : Kept D) : Type 0 where
  pub same : new ≡ old
  pub refused : call.is_acknowledged ≡ false

-- What a call does to a store.
pub record Called {D : Type 0} (moment : D → ℕ) (may_leave : D → List ℕ → Type 0) (left_since : D → ℕ → List ℕ → Type 0) (old : Kept D) (call : Call) (new : Kept D) : Type 0 where
  pub basis : new.basis ≡ old.basis
  pub directory : new.contents.directory ≡ old.contents.directory
  pub does : ((old.closed ≡ None) × Took moment may_leave left_since old call new) ⊎ IsUntouched old call new
