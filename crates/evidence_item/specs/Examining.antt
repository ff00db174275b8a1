-- What is known of an item before it is checked.
use Rattle.std.specs.Prelude.{◌≡◌, ◌<◌, ℕ, true, false, is_some, List, Option, Some, None, IfSome, MatchResult, Result, length, slice_index_or}
use Rattle.authenticators.specs.Directory.{Listing}
use Rattle.item_forms.specs.declared.forms.Fields.{Fields}
use Rattle.item_forms.specs.Pieces.{Piece}
use Rattle.evidence_item.specs.declared.examining.Examined.{Examined}
use Rattle.evidence_item.specs.declared.examining.Found.{Found}
use Rattle.evidence_item.specs.declared.fault.ItemFault.{ItemFault}
use Rattle.evidence_item.specs.declared.findings.Findings.{Findings}
use Rattle.evidence_item.specs.declared.findings.Findings.TheVariants as findings
use Rattle.evidence_item.specs.Checking.{findings_of, is_segment}
use Rattle.evidence_item.specs.Validity.{fault_of}

-- What was found, as findings.
abbrev pub hashes_as : Option (List ℕ) → Option (List ℕ) → Option Findings
hashes_as None received = None
hashes_as (Some sent) None = Some (findings.Send sent)
hashes_as (Some sent) (Some received) = Some (findings.Ack sent received)

abbrev pub findings_as : Found → Option Findings
findings_as f = hashes_as f.sent f.received

-- What is known of an item that is no segment. If the item is valid, then no test holds, and what was found is its own. If it is not, then
-- the first test that holds refuses it.
pub record IsKnown (ds : Listing) (x : Fields) (answer : Result Found ItemFault) : Type 0 where
  pub other : is_segment x ≡ false
  pub told : MatchResult answer (λ f. (fault_of ds x ≡ None) × (findings_of ds x ≡ findings_as f)) (λ e. fault_of ds x ≡ Some e)

-- If something is known of the item, then it is true.
abbrev pub IsExamined : Listing → Fields → Examined → Type 0
IsExamined ds x e = IfSome e.answer (IsKnown ds x)

-- There is one answer for each item, at its place. It is true, and it is there for each item that is no segment.
pub record AreExamined (ds : Listing) (items : List Piece) (all : List Examined) : Type 0 where
  pub count : length all ≡ length items
  pub each : (n : ℕ) (x : Piece) (e : Examined) → n < length items → IsExamined ds (slice_index_or items n x).fields (slice_index_or all n e)
  pub others : (n : ℕ) (x : Piece) (e : Examined) → n < length items → is_segment (slice_index_or items n x).fields ≡ false → is_some (slice_index_or all n e).answer ≡ true
