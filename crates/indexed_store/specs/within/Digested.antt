-- The digests that are kept, and the items that they are of.
use Rattle.std.specs.Prelude.{◌≡◌, ℕ, List, Option, Some, option_map, slice_get}
use Rattle.evidence_item.specs.Checking.{Checked}
use Rattle.item_digests.specs.Digests.{digest_of}
use Rattle.authenticators.specs.Directory.{Listing}
use Rattle.replay_verifier.specs.Meaning.{Meaning}
use Rattle.indexed_store.specs.declared.index.Index.{Index}
use Rattle.indexed_store.specs.within.Resting.{IsAtRest}

abbrev pub digest_in : Option Checked → Option (List ℕ)
digest_in o = option_map (λ (c : Checked). digest_of c.item) o

-- Each of them is that of the item at its place.
abbrev pub AreDigests : List (List ℕ) → List Checked → Type 0
AreDigests ds items = (i : ℕ) (d : List ℕ) → slice_get ds i ≡ Some d → digest_in (slice_get items i) ≡ Some d

-- Each item stands where it stood.
abbrev pub StandStill : List Checked → List Checked → Type 0
StandStill old new = (i : ℕ) (c : Checked) → slice_get old i ≡ Some c → slice_get new i ≡ Some c

-- The index is at rest, and each of its items stands where it stood.
pub record RestsBehind {S P : Type 0} (ds : Listing) (program : Meaning S) (old new : Index P) : Type 0 where
  pub rest : IsAtRest ds program new
  pub still : StandStill old.items.items new.items.items

-- The index is at rest, and the digests that are kept are those of its items.
pub record IsStoreAtRest {S P : Type 0} (ds : Listing) (program : Meaning S) (index : Index P) (made : List (List ℕ)) : Type 0 where
  pub rest : IsAtRest ds program index
  pub digested : AreDigests made index.items.items
