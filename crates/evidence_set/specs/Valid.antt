-- Sets of items that are valid under a directory, and the fields of items.
use Rattle.std.specs.Prelude.{List, map}
use Rattle.authenticators.specs.Directory.{Listing}
use Rattle.item_forms.specs.declared.forms.Fields.{Fields}
use Rattle.item_forms.specs.Pieces.{Piece}
use Rattle.evidence_item.specs.Validity.{IsValid}
use Rattle.evidence_set.specs.ItemSets.{Items, Has}

-- Each item of the set is valid under the directory.
abbrev pub AreValid : Listing → Items → Type 0
AreValid ds E = (x : Piece) → Has E x → IsValid ds x.fields

-- The fields of a list of items.
abbrev pub fields_of : List Piece → List Fields
fields_of xs = map (λ (x : Piece). x.fields) xs
