-- How an item is kept: a segment by its shared entries, a statement by its fields, and any other as it is.
use Rattle.std.specs.Prelude.{◌≡◌, true, false, Option, Some, None}
use Rattle.evidence_item.specs.Checking.{Checked, is_segment}
use Rattle.kept_items.specs.declared.item.Body.{Body}
use Rattle.kept_items.specs.declared.item.Body.TheVariants as body
use Rattle.kept_items.specs.within.Bare.{is_statement}

abbrev pub checked_in : {P : Type 0} → Body P → Checked
checked_in (body.Statement c) = c
checked_in (body.Single c) = c.value
checked_in (body.Segment c) = c.value

-- It is kept in the form that its fields want.
abbrev pub IsApart : {P : Type 0} → Body P → Type 0
IsApart (body.Statement c) = is_statement c.item.fields ≡ true
IsApart (body.Single c) = is_segment c.value.item.fields ≡ false
IsApart (body.Segment c) = is_segment c.value.item.fields ≡ true

-- Beside an item that will be kept stands the item to give back. Nothing stands there if the item is no segment.
abbrev pub IsGivenBy : Checked → Option Checked → Type 0
IsGivenBy k None = is_segment k.item.fields ≡ false
IsGivenBy k (Some c) = c ≡ k
