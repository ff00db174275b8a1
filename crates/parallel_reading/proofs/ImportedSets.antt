-- What a text is of which items were read.
use Rattle.std.proofs.Common.{◌≡◌, ◌∙◌, ℕ, List, [], ◌∷◌, Result, Ok, Err, refl, ap}
use Rattle.std.specs.Prelude.{OnOk}
use Rattle.outcome.specs.Bytes.{IsBytes}
use Rattle.authenticators.specs.Directory.{Listing}
use Rattle.item_forms.specs.declared.forms.Fields.{Fields}
use Rattle.evidence_item.specs.Checking.{Checked}
use Rattle.containers.specs.declared.fault.ImportFault.{ImportFault}
use Rattle.containers.specs.CheckedItems.{checked_of, fields_of as checked_fields}
use Rattle.containers.specs.Container.{import_of}
use Rattle.evidence.specs.Exports.{IsTextOf, SetsHaveOneText}
use Rattle.evidence_set.specs.Valid.{fields_of}
use Rattle.evidence_set.specs.ItemSets.{pieces}

-- the fields of checked items are those of their items
one_list : (items : List Checked) → checked_fields items ≡ fields_of (pieces items)
one_list [] = refl
one_list (c ∷ items) = ap (λ (l : List Fields). c.item.fields ∷ l) (one_list items)

-- what is read is the text of the set of the items
pub text_of_items : SetsHaveOneText → (ds : Listing) (tag text : List ℕ) (items : List Checked) → IsBytes text → import_of tag (checked_of ds) text ≡ Ok (checked_fields items) → IsTextOf tag ds text (pieces items)
text_of_items law ds tag text items fit read = law.found tag ds text (pieces items) fit (read ∙ ap (λ (l : List Fields). let told : Result (List Fields) ImportFault = Ok l in told) (one_list items))

pub on_more : {A E : Type 0} (r : Result A E) (P Q : Type 0) → (P → Q) → OnOk r P → OnOk r Q
on_more (Ok x) P Q f h = f h
on_more (Err e) P Q f h = tt
