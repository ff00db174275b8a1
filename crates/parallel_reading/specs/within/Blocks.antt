-- Blocks of texts. Their items are checked together.
use Rattle.std.specs.Prelude.{ℕ, suc, ◌≡◌, ◌+◌, ◌-◌, ◌<◌, true, List, [], ◌∷◌, Result, Ok, IfOk, drop, length, map, slice_index_or, take}
use Rattle.std.specs.Borrow.{Bor}
use Rattle.outcome.specs.Outcome.{Gives, told_as}
use Rattle.log_chain.specs.History.{unless}
use Rattle.authenticators.specs.Directory.{Listing}
use Rattle.replay_verifier.specs.Meaning.{Meaning}
use Rattle.item_forms.specs.declared.forms.Fields.{Fields}
use Rattle.item_forms.specs.Pieces.{Piece}
use Rattle.item_forms.specs.Reading.{item_of}
use Rattle.evidence_item.specs.Checking.{Checked, IsChecked}
use Rattle.evidence_item.specs.Validity.{fault_of}
use Rattle.containers.specs.declared.fault.Cause.{Cause}
use Rattle.containers.specs.declared.fault.Cause.TheVariants as cause
use Rattle.containers.specs.CheckedItems.{is_before}
use Rattle.containers.specs.Refusals.{of_checking}
use Rattle.parallel_checking.specs.Parts.{Part}
use Rattle.parallel_reading.specs.Readings.{AreReadings, IsReadingAt}

-- ---- blocks

-- The texts from a to b stand in blocks. Each block begins with the text before its first item's.
abbrev pub AreBlocks : List (Bor (List ℕ)) → (a b : ℕ) → List (Bor (List (Bor (List ℕ)))) → Type 0
AreBlocks texts a b [] = a ≡ b
AreBlocks texts a b (s ∷ ss) = (c : ℕ) × (a < c) × (c < length texts) × (s.now ≡ take ((c - a) + 1) (drop a texts)) × AreBlocks texts c b ss

-- What the texts of a block are read as, unless memory ran out.
abbrev pub IsBlockReadAt : {S : Type 0} → Listing → Meaning S → List (Bor (List (Bor (List ℕ)))) → ℕ → Part (Result Checked Cause) → Type 0
IsBlockReadAt ds program blocks n part = (s : Bor (List (Bor (List ℕ)))) → IfOk part (λ v. AreReadings ds program (map (λ (t : Bor (List ℕ)). t.now) (slice_index_or blocks n s).now) v.items)

-- There is a part for each block.
pub record AreBlocksRead {S : Type 0} (ds : Listing) (program : Meaning S) (blocks : List (Bor (List (Bor (List ℕ))))) (parts : List (Part (Result Checked Cause))) : Type 0 where
  pub count : length parts ≡ length blocks
  pub each : (n : ℕ) (p : Part (Result Checked Cause)) → n < length blocks → IsBlockReadAt ds program blocks n (slice_index_or parts n p)

-- ---- one block

-- The text is that of the item, and stands in its place.
pub record IsDecoded (last text : List ℕ) (x : Piece) : Type 0 where
  pub read : item_of text ≡ Ok x.fields
  pub before : is_before last text ≡ true

-- The items are those of the first texts behind the first one.
pub record AreDecoded (texts : List (List ℕ)) (items : List Piece) : Type 0 where
  pub within : length items < length texts
  pub each : (n : ℕ) (x : Piece) (t : List ℕ) → n < length items → IsDecoded (slice_index_or texts n t) (slice_index_or texts (suc n) t) (slice_index_or items n x)

-- The fields of an item if it is valid, or why it is not.
abbrev pub valid_of : Listing → Fields → Result Fields Cause
valid_of ds x = told_as of_checking (unless (fault_of ds x) x)

-- The item was checked, or the reading says why it is not valid, or memory ran out.
pub record IsCheckedAs {S : Type 0} (ds : Listing) (program : Meaning S) (x : Piece) (reading : Result Checked Cause) : Type 0 where
  pub exact : Gives cause.Memory (λ (c : Checked). c.item.fields) reading (valid_of ds x.fields)
  pub checked : IfOk reading (IsChecked ds program)

-- The first k items were checked so, and no other.
pub record AreCheckedAs {S : Type 0} (ds : Listing) (program : Meaning S) (k : ℕ) (items : List Piece) (readings : List (Result Checked Cause)) : Type 0 where
  pub count : length readings ≡ k
  pub each : (n : ℕ) (x : Piece) (r : Result Checked Cause) → n < k → IsCheckedAs ds program (slice_index_or items n x) (slice_index_or readings n r)

-- The first k texts behind the first one were read, and no other.
pub record AreRead {S : Type 0} (ds : Listing) (program : Meaning S) (texts : List (List ℕ)) (k : ℕ) (readings : List (Result Checked Cause)) : Type 0 where
  pub count : length readings ≡ k
  pub each : (n : ℕ) (r : Result Checked Cause) → n < k → IsReadingAt ds program texts n (slice_index_or readings n r)
