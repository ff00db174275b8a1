-- Where an item stands beside the send challenges of one sender, receiver and number.
use Rattle.std.specs.Prelude.{ℕ, zero, suc, Bool, false, ◌||◌, Option, Some, None}
use Rattle.std.specs.Ordering.{is_eq, is_le, is_lt, nat_cmp, ordering_then}
use Rattle.std.specs.declared.cmp.Ordering.TheVariants.{Greater}
use Rattle.std.specs.declared.cmp.Ordering.{Ordering}
use Rattle.item_forms.specs.Messages.{Message}
use Rattle.item_forms.specs.Spelling.{tag_of}
use Rattle.item_forms.specs.declared.forms.Fields.TheVariants as form
use Rattle.item_forms.specs.declared.forms.Fields.{Fields}
use Rattle.evidence_item.specs.declared.findings.Findings.{Findings}
use Rattle.evidence_item.specs.Checking.{Checked}
use Rattle.evidence_set.specs.Challenges.{answers_audit}
use Rattle.kept_items.specs.Positions.{stated_in}
use Rattle.node_tables.specs.declared.sending.Sending.{Sending}
use Rattle.node_tables.specs.Receipts.{received}

abbrev pub message_cmp : Sending → Message → Ordering
message_cmp s m = ordering_then (nat_cmp m.from s.from) (ordering_then (nat_cmp m.to s.to) (nat_cmp m.seq s.seq))

-- By its tag, and among send challenges by the message's sender, receiver and number.
abbrev pub sending_cmp : Sending → Fields → Ordering
sending_cmp s (form.Send m) = message_cmp s m
sending_cmp s x = nat_cmp (tag_of x) 4

-- The same of the item at a place. If there is none, the place stands behind them.
abbrev pub sending_order_by : Sending → Option Checked → Ordering
sending_order_by s None = Greater
sending_order_by s (Some c) = sending_cmp s c.item.fields

-- It stands before them; not behind them; among them.
abbrev pub is_before : Sending → Option Checked → Bool
is_before s o = is_lt (sending_order_by s o)

abbrev pub is_up_to : Sending → Option Checked → Bool
is_up_to s o = is_le (sending_order_by s o)

abbrev pub is_at : Sending → Option Checked → Bool
is_at s o = is_eq (sending_order_by s o)

-- The sender, the receiver and the number of the message that an item acknowledges; that the item at a place does.
abbrev pub acknowledged : Fields → Option Sending
acknowledged (form.Auth a) = None
acknowledged (form.Segment s) = None
acknowledged (form.Audit c) = None
acknowledged (form.Send m) = None
acknowledged (form.Ack a) = Some (record { from = a.message.from; to = a.message.to; seq = a.message.seq })

abbrev pub acknowledged_by : Option Checked → Option Sending
acknowledged_by None = None
acknowledged_by (Some c) = acknowledged c.item.fields

abbrev pub is_among : Option Sending → Option Checked → Bool
is_among None o = false
is_among (Some s) o = is_at s o

-- The item challenges to acknowledge a message that one of the first n entries of a segment of node j quotes.
abbrev pub is_received : ℕ → Fields → Option Findings → ℕ → Option Checked → Bool
is_received j x f zero o = false
is_received j x f (suc n) o = is_received j x f n o || is_among (received j (stated_in x f (suc n))) o

-- The item is an audit challenge, and the other one answers it.
abbrev pub told_audit : Fields → Fields → Bool
told_audit (form.Auth a) y = false
told_audit (form.Segment s) y = false
told_audit (form.Audit c) y = answers_audit c y
told_audit (form.Send m) y = false
told_audit (form.Ack a) y = false

abbrev pub audited_by : Option Checked → Option Checked → Bool
audited_by None d = false
audited_by (Some c) None = false
audited_by (Some c) (Some d) = told_audit c.item.fields d.item.fields
