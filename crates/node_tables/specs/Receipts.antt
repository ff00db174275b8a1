-- Of which messages segments have receipts.
use Rattle.std.specs.Prelude.{◌≡◌, ℕ, zero, suc, List, Option, Some, None, slice_get}
use Rattle.std.specs.List.Sorted.{IsStrictlySortedBy}
use Rattle.std.specs.Ordering.{nat_cmp, ordering_then}
use Rattle.std.specs.declared.cmp.Ordering.{Ordering}
use Rattle.authenticators.specs.declared.authenticator.Authenticator.{Authenticator}
use Rattle.item_forms.specs.declared.forms.Fields.TheVariants as form
use Rattle.item_forms.specs.declared.forms.Fields.{Fields}
use Rattle.evidence_item.specs.declared.findings.Findings.{Findings}
use Rattle.evidence_item.specs.Checking.{Checked}
use Rattle.kept_items.specs.Positions.{stated_in}
use Rattle.node_tables.specs.declared.receipt_list.ReceiptList.{ReceiptList}
use Rattle.node_tables.specs.declared.row.Row.{Row}
use Rattle.node_tables.specs.declared.sending.Sending.{Sending}

-- The message to node j that a statement is of, if the log of node j quotes the statement.
abbrev pub received : ℕ → Option Authenticator → Option Sending
received j None = None
received j (Some a) = Some (record { from = a.node; to = j; seq = a.seq })

-- The message of which an entry of a segment is the receipt. Entry k stands at position k + 1, behind the segment's end at 0.
abbrev pub receipt_in : Fields → Option Findings → ℕ → Option Sending
receipt_in (form.Auth a) f k = None
receipt_in (form.Segment s) f zero = None
receipt_in (form.Segment s) f (suc k) = received s.node (stated_in (form.Segment s) f (suc k))
receipt_in (form.Audit c) f k = None
receipt_in (form.Send m) f k = None
receipt_in (form.Ack a) f k = None

-- The message of which the item, if there is one, has a receipt at a position.
abbrev pub receipt_by : Option Checked → ℕ → Option Sending
receipt_by None k = None
receipt_by (Some c) k = receipt_in c.item.fields c.findings k

-- The message of which the statement that a row names is the receipt.
abbrev pub receipt_at : List Checked → Row → Option Sending
receipt_at items r = receipt_by (slice_get items r.item) r.position

-- Some segment has a receipt of the message.
abbrev pub IsReceived : List Checked → Sending → Type 0
IsReceived items s = (n k : ℕ) × (receipt_by (slice_get items n) k ≡ Some s)

-- The order of messages: by their senders, their receivers and their numbers.
abbrev pub by_sending : Sending → Sending → Ordering
by_sending s t = ordering_then (nat_cmp s.from t.from) (ordering_then (nat_cmp s.to t.to) (nat_cmp s.seq t.seq))

-- The messages ascend.
abbrev pub AscendBySending : List Sending → Type 0
AscendBySending sendings = IsStrictlySortedBy by_sending sendings

-- Both lists have the same messages, and both keep them or neither does.
pub record AreSameReceipts (r q : ReceiptList) : Type 0 where
  pub whole : q.whole ≡ r.whole
  pub sendings : q.sendings.items ≡ r.sendings.items
