-- What is found in a journal while it is read, by private code.
use Rattle.std.specs.Prelude.{◌≡◌, ◌⊎◌, ℕ, ◌+◌, Bool, true, false, List, [], Some, slice_get}
use Rattle.authenticators.specs.Directory.{Listing}
use Rattle.item_forms.specs.Pieces.{Piece}
use Rattle.evidence_item.specs.Validity.{IsValid}
use Rattle.evidence_item.specs.declared.fault.ItemFault.{ItemFault}
use Rattle.evidence_item.specs.declared.fault.ItemFault.TheVariants as item
use Rattle.journal.specs.Journal.{recovered}
use Rattle.journal.specs.Reading.{IsRead, IsReading}
use Rattle.journal.specs.declared.reading.Reading.{Reading}
use Rattle.durable_store.specs.declared.fault.OpenFault.{OpenFault}
use Rattle.durable_store.specs.declared.fault.OpenFault.TheVariants as fault

-- These texts were read. If the end is reached, they are all.
abbrev pub AreReached : {D : Type 0} → (D → List ℕ) → (D → List ℕ) → (D → List ℕ → Type 0) → Bool → List (List ℕ) → Reading D → Type 0
AreReached found seen may_leave true texts reading = IsRead seen may_leave reading × (recovered (seen reading.device) ≡ texts)
AreReached found seen may_leave false texts reading = IsReading found reading × (recovered (found reading.device) ≡ texts)

-- The basis was read, or the file has no text.
abbrev pub IsBegun : {D : Type 0} → (D → List ℕ) → (D → List ℕ) → (D → List ℕ → Type 0) → List (List ℕ) → Reading D → Bool → Type 0
IsBegun found seen may_leave basis reading true = AreReached found seen may_leave false basis reading
IsBegun found seen may_leave basis reading false = AreReached found seen may_leave true [] reading

-- Why the item at this place is not taken, if checking refuses it.
abbrev pub refusal_of : ℕ → ItemFault → OpenFault
refusal_of place item.UnknownNode = fault.BadItem place
refusal_of place item.SelfMessage = fault.BadItem place
refusal_of place item.EmptySegment = fault.BadItem place
refusal_of place item.BadStart = fault.BadItem place
refusal_of place item.BadRange = fault.BadItem place
refusal_of place item.BadSignature = fault.BadItem place
refusal_of place item.Memory = fault.Memory

-- The fault names one of the items, and that item is not valid. The first item stands at place `before`.
pub record IsInvalid (ds : Listing) (items : List Piece) (before : ℕ) (e : OpenFault) : Type 0 where
  pub place : ℕ
  pub item : Piece
  pub stands : slice_get items place ≡ Some item
  pub is : e ≡ fault.BadItem (before + place)
  pub invalid : ¬ IsValid ds item.fields

-- Memory ran out, or one of the items is not valid.
abbrev pub IsBad : Listing → List Piece → ℕ → OpenFault → Type 0
IsBad ds items before e = (e ≡ fault.Memory) ⊎ IsInvalid ds items before e
