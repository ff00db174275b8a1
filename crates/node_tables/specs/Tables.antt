-- What is kept of one node, by the places of its items.
use Rattle.std.specs.List.{Contains}
use Rattle.std.specs.Prelude.{◌≡◌, ℕ, Bool, true, false, List, Option, Some, None, slice_get, ◌+◌, ◌^◌, ◌<◌, ◌≤◌}
use Rattle.authenticators.specs.StatementSet.{Conflict, IsAscending, NoConflict}
use Rattle.authenticators.specs.declared.authenticator.Authenticator.{Authenticator}
use Rattle.evidence_item.specs.Checking.{Checked}
use Rattle.item_forms.specs.declared.forms.AuditChallenge.{AuditChallenge}
use Rattle.evidence_set.specs.Challenges.{answers_audit}
use Rattle.kept_evidence.specs.Telling.{IsSegmentOf, denies, deviates}
use Rattle.node_tables.specs.Receipts.{AscendBySending}
use Rattle.node_tables.specs.Rows.{AreRowsOf, stated_at}
use Rattle.node_tables.specs.declared.exposure.ExposingPlaces.TheVariants as exposure
use Rattle.node_tables.specs.declared.exposure.ExposingPlaces.{ExposingPlaces}
use Rattle.node_tables.specs.declared.row.Row.{Row}
use Rattle.node_tables.specs.declared.span.Span.{Span}
use Rattle.node_tables.specs.declared.table.Table.{Table}

-- ---- tests at places

-- The statement contradicts the item at the place, which is a segment.
abbrev pub denied_by : Option Checked → Authenticator → Bool
denied_by None a = false
denied_by (Some c) a = denies a c.item.fields

-- The statement contradicts the item at a place in the list.
abbrev pub denies_at : List Checked → Authenticator → ℕ → Bool
denies_at items a i = denied_by (slice_get items i) a

-- The item is there, and its verdict is that it deviates.
abbrev pub deviating : Option Checked → Bool
deviating None = false
deviating (Some c) = deviates c.verdict

-- The item at a place in the list has the verdict that it deviates.
abbrev pub deviates_at : List Checked → ℕ → Bool
deviates_at items i = deviating (slice_get items i)

-- The item at the place is a segment of node j.
abbrev pub IsSegmentAt : List Checked → ℕ → ℕ → Type 0
IsSegmentAt items j i = (c : Checked) × (slice_get items i ≡ Some c) × IsSegmentOf j c.item.fields

-- The item is there, and answers the audit challenge.
abbrev pub shown_by : Option Checked → AuditChallenge → Bool
shown_by None c = false
shown_by (Some d) c = answers_audit c d.item.fields

-- The item at a place in the list answers the audit challenge.
abbrev pub shows_at : List Checked → AuditChallenge → ℕ → Bool
shows_at items c i = shown_by (slice_get items i) c

-- The span is of a segment of node j, and bounds the numbers of the statements that can contradict it.
pub record IsSpan (items : List Checked) (j : ℕ) (p : Span) : Type 0 where
  pub segment : IsSegmentAt items j p.item
  pub fits : p.low < 2 ^ 64
  pub reach : (a : Authenticator) → denies_at items a p.item ≡ true → (p.low ≤ a.seq + 2) × (a.seq ≤ p.last)

-- Each span is one of a segment of node j.
abbrev pub AreSpans : List Checked → ℕ → List Span → Type 0
AreSpans items j spans = (p : Span) → Contains spans p → IsSpan items j p

-- One of the segments stands at the place.
abbrev pub HasSpanAt : List Span → ℕ → Type 0
HasSpanAt spans i = (p : Span) × Contains spans p × (p.item ≡ i)

-- ---- what exposes the node

-- Nothing that is kept exposes the node.
pub record IsQuiet (items : List Checked) (held : List Authenticator) (spans : List Span) : Type 0 where
  pub one_hash : NoConflict held
  pub undenied : (a : Authenticator) (p : Span) → Contains held a → Contains spans p → denies_at items a p.item ≡ false
  pub conforming : (p : Span) → Contains spans p → deviates_at items p.item ≡ false

-- A statement that is held stands at the row.
abbrev pub Names : List Checked → List Authenticator → Row → Authenticator → Type 0
Names items held r a = (stated_at items r ≡ Some a) × Contains held a

-- What is kept exposes the node in this way.
abbrev pub ShowsAt : List Checked → List Authenticator → List Span → ExposingPlaces → Type 0
ShowsAt items held spans (exposure.TwoHashes r q) = (a b : Authenticator) × Names items held r a × Names items held q b × Conflict a b
ShowsAt items held spans (exposure.Denied r i) = (a : Authenticator) × Names items held r a × HasSpanAt spans i × (denies_at items a i ≡ true)
ShowsAt items held spans (exposure.Deviates i) = HasSpanAt spans i × (deviates_at items i ≡ true)

-- What is kept as exposing the node does expose it. If nothing is kept so, nothing exposes it.
abbrev pub IsUpToDate : List Checked → List Authenticator → List Span → Option ExposingPlaces → Type 0
IsUpToDate items held spans None = IsQuiet items held spans
IsUpToDate items held spans (Some e) = ShowsAt items held spans e

-- ---- the table

-- The table of a node. Its rows name just these statements, ascending. Its spans are segments of the node. Its receipts ascend. What
-- exposes the node is kept, if something does.
pub record IsTold (items : List Checked) (t : Table) : Type 0 where
  pub held : List Authenticator
  pub rows : AreRowsOf items t.rows.items held
  pub ascending : IsAscending held
  pub own : (a : Authenticator) → Contains held a → a.node ≡ t.node
  pub spans : AreSpans items t.node t.spans.items
  pub receipts : AscendBySending t.receipts.sendings.items
  pub told : IsUpToDate items held t.spans.items t.exposure

-- One of the rows names the statement.
abbrev pub Says : List Checked → List Row → Authenticator → Type 0
Says items rows a = (r : Row) × Contains rows r × (stated_at items r ≡ Some a)
