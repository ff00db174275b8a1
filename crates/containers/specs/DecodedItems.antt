-- How an item of a container is read without a check of its validity: it is in its place.
use Rattle.std.specs.Prelude.{ℕ, ◌≡◌, List, Result, Ok, None}
use Rattle.std.specs.List.{All}
use Rattle.outcome.specs.Outcome.{◌>>=◌, told_as}
use Rattle.authenticators.specs.Directory.{Listing}
use Rattle.item_forms.specs.declared.forms.Fields.{Fields}
use Rattle.item_forms.specs.Reading.{item_of}
use Rattle.evidence_item.specs.Validity.{fault_of}
use Rattle.containers.specs.declared.fault.Cause.{Cause}
use Rattle.containers.specs.declared.fault.Cause.TheVariants as cause
use Rattle.containers.specs.CheckedItems.{checked_of, is_before}
use Rattle.containers.specs.Container.{import_of, refused_unless}
use Rattle.containers.specs.Refusals.{of_reading}

-- The item of a text that follows the text `last` of the item before it. First the text is read, then its place is tested.
unfoldable pub decoded_of : List ℕ → List ℕ → Result Fields Cause
decoded_of last text = do
  item ← told_as of_reading (item_of text)
  _ ← refused_unless cause.NotAscending (is_before last text)
  Ok item

-- If a container is read and checked, it is also read as the same items without checks. If it is read without checks, and each
-- item is valid, it is also read and checked as the same items.
pub record CheckedAreDecoded : Type 0 where
  pub decoded : (ds : Listing) (magic bytes : List ℕ) (items : List Fields) → import_of magic (checked_of ds) bytes ≡ Ok items → import_of magic decoded_of bytes ≡ Ok items
  pub valid : (ds : Listing) (magic bytes : List ℕ) (items : List Fields) → import_of magic decoded_of bytes ≡ Ok items → All (λ x. fault_of ds x ≡ None) items → import_of magic (checked_of ds) bytes ≡ Ok items
