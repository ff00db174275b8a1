-- The items of stores that are read but not checked.
use Rattle.std.specs.Prelude.{ℕ, zero, suc, ◌≡◌, ◌⊎◌, ◌+◌, ◌<◌, List, [], ◌++◌, Option, Some, None}
use Rattle.item_forms.specs.Pieces.{Piece}
use Rattle.containers.specs.declared.fault.Cause.TheVariants as cause
use Rattle.containers.specs.declared.fault.ImportFault.{ImportFault}
use Rattle.containers.specs.Container.{import_of}
use Rattle.containers.specs.DecodedItems.{decoded_of}
use Rattle.containers.specs.Refusals as container
use Rattle.authenticators.specs.Directory.{Listing}
use Rattle.evidence.specs.Exports.{magic_of}
use Rattle.evidence_set.specs.ItemSets.{Items, insert_all, none}
use Rattle.localities.specs.Shards.{in_turn}
use Rattle.shards.specs.Extracts.{AddsQuotes}
use Rattle.shards.specs.Parts.{Decodes}
use Rattle.commands.specs.declared.fault.Fault.TheVariants as fault
use Rattle.commands.specs.Refusals.{of_import}
use Rattle.operating.specs.declared.refusal.Refusal.{Refusal}
use Rattle.operating.specs.FileTexts.{IsUnsaid, Says, SaysDirectory}
use Rattle.operating.specs.GatheredFiles.{IsOfFile, RefusesDirectory}

-- This many stores, which are the files from `first` on, have these items, in the order of the files.
abbrev pub Have : ℕ → (ℕ → Option (List ℕ)) → ℕ → ℕ → List Piece → Type 0
Have limit files first zero items = items ≡ []
Have limit files first (suc n) items = (before own : List Piece) × (text : List ℕ) × Have limit files first n before × Says limit None (files (first + n)) text × Decodes text own × (items ≡ before ++ own)

-- Why a store's encoding has no items, and at which item that shows; or memory ran out.
abbrev pub RefusesDecoding : List ℕ → Refusal → Type 0
RefusesDecoding text r = (f : ImportFault) × (r.fault ≡ of_import f) × (r.item ≡ Some f.item) × (container.Refuses f (import_of (magic_of text) decoded_of text) ⊎ (f.cause ≡ cause.Memory))

-- Why a file is refused: it says nothing, or it has no items.
abbrev pub RefusesItems : ℕ → Option (List ℕ) → Refusal → Type 0
RefusesItems limit file r =
    ((r.item ≡ None) × IsUnsaid limit None file r.fault)
    ⊎ ((text : List ℕ) × Says limit None file text × RefusesDecoding text r)

-- The refusal of this many stores: the first fault in the order of the files. The stores before it have items.
abbrev pub RefusesStores : ℕ → (ℕ → Option (List ℕ)) → ℕ → ℕ → Refusal → Type 0
RefusesStores limit files first count r = (n : ℕ) × (before : List Piece) × (n < count) × Have limit files first n before × (r.file ≡ Some (first + n)) × RefusesItems limit (files (first + n)) r

-- ---- extracts

-- File 0 says a directory, and the next `count` files are stores that have items. The set is these items, with what is quoted in them under
-- that directory.
pub record AreExtracted (limit : ℕ) (files : ℕ → Option (List ℕ)) (shards count : ℕ) (X : Items) : Type 0 where
  pub directory : Listing
  pub items : List Piece
  pub first : SaysDirectory limit (files 0) directory
  pub others : Have limit files 1 count items
  pub quotes : AddsQuotes directory (in_turn shards) (insert_all none items) X

-- Why there is no such set: the directory is refused, or a store behind it is, or memory ran out.
abbrev pub RefusesExtracted : ℕ → (ℕ → Option (List ℕ)) → ℕ → Refusal → Type 0
RefusesExtracted limit files count r =
    (IsOfFile 0 r × RefusesDirectory limit (files 0) r.fault)
    ⊎ RefusesStores limit files 1 count r
    ⊎ ((r.file ≡ None) × (r.fault ≡ fault.Memory))
