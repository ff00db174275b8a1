-- What an item brings to the table of its node beside its statements.
use Rattle.std.specs.List.{Contains}
use Rattle.std.specs.Prelude.{◌≡◌, ℕ, Bool, IsTrue, true, false, List, Option, Some, None, slice_get, ◌≢◌, ◌+◌, ◌↔◌, ◌⊎◌, ◌≤◌, ◌<◌, ◌-◌}
use Rattle.std.specs.declared.cmp.Ordering.TheVariants.{Greater}
use Rattle.std.specs.declared.cmp.Ordering.{Ordering}
use Rattle.authenticators.specs.declared.authenticator.Authenticator.{Authenticator}
use Rattle.item_forms.specs.Groups.{ItemGroup, group_cmp}
use Rattle.item_forms.specs.declared.forms.Fields.TheVariants as form
use Rattle.item_forms.specs.declared.forms.Fields.{Fields}
use Rattle.evidence_item.specs.Checking.{Checked}
use Rattle.kept_evidence.specs.Telling.{told_answers}
use Rattle.kept_items.specs.Keeping.{subject}
use Rattle.node_tables.specs.Indexed.{AreReceipts}
use Rattle.node_tables.specs.Places.{bodies, open_room, span_room, IsOpenAt, IsAcknowledged, IsAgainstAt, IsOrder}
use Rattle.node_tables.specs.Receipts.{IsReceived, receipt_by}
use Rattle.node_tables.specs.Steps.{AllTables, AscendByNode, position_of}
use Rattle.node_tables.specs.Tables.{IsSegmentAt, IsTold, HasSpanAt, Says}
use Rattle.node_tables.specs.declared.sending.Sending.{Sending}
use Rattle.node_tables.specs.declared.span.Span.{Span}
use Rattle.node_tables.specs.declared.table.Table.{Table}

-- Whether the item at a place stands before the group, in it or behind it. If there is none, the place stands behind it.
abbrev pub group_order_by : ItemGroup → Option Checked → Ordering
group_order_by g None = Greater
group_order_by g (Some c) = group_cmp g c.item.fields

-- The one item answers the other.
abbrev pub answered_by : Option Checked → Option Checked → Bool
answered_by None d = false
answered_by (Some c) None = false
answered_by (Some c) (Some d) = told_answers c.item.fields d

-- The item at place n answers that at place i.
abbrev pub answers_at : List Checked → ℕ → ℕ → Bool
answers_at items i n = answered_by (slice_get items i) (slice_get items n)

-- What the message of a send challenge is told apart by.
abbrev pub sent : Fields → Option Sending
sent (form.Auth a) = None
sent (form.Segment s) = None
sent (form.Audit c) = None
sent (form.Send m) = Some (record { from = m.from; to = m.to; seq = m.seq })
sent (form.Ack a) = None

-- Whether segments have a receipt of the message of a send challenge.
abbrev pub IsReceiptTold : List Checked → Fields → Bool → Type 0
IsReceiptTold items x b = (s : Sending) × (sent x ≡ Some s) × (IsTrue b ↔ IsReceived items s)

-- If receipts are kept, they are just the messages of the node of which segments at other places than n have some.
abbrev pub IsReceivedElsewhere : List Checked → ℕ → Sending → Type 0
IsReceivedElsewhere items n s = (m k : ℕ) × (m ≢ n) × (receipt_by (slice_get items m) k ≡ Some s)

abbrev pub AreOtherReceipts : List Checked → ℕ → Table → Type 0
AreOtherReceipts items n t = t.receipts.whole ≡ true → (s : Sending) → Contains t.receipts.sendings.items s ↔ (IsReceivedElsewhere items n s × (s.from ≡ t.node))

-- Some item acknowledges a message of a send challenge.
abbrev pub HasAcknowledgement : List Checked → Fields → Type 0
HasAcknowledgement items (form.Auth a) = ⊥
HasAcknowledgement items (form.Segment s) = ⊥
HasAcknowledgement items (form.Audit c) = ⊥
HasAcknowledgement items (form.Send m) = IsAcknowledged items m
HasAcknowledgement items (form.Ack a) = ⊥

-- What a table keeps as unanswered are challenges against its node.
abbrev pub AreAgainst : List Checked → Table → Type 0
AreAgainst items t = (i : ℕ) → Contains t.unanswered.items i → IsAgainstAt items t.node i

-- The item at place n has another encoding than those at the places.
abbrev pub IsNewAmong : List Checked → ℕ → List ℕ → Type 0
IsNewAmong items n places = (i : ℕ) (c d : Checked) → Contains places i → slice_get items i ≡ Some c → slice_get items n ≡ Some d → c.item ≢ d.item

-- The order and the tables stand while an item comes.
pub record AreStanding (items : List Checked) (places : List ℕ) (tables : List Table) : Type 0 where
  pub ordered : IsOrder items places
  pub ascending : AscendByNode tables
  pub told : AllTables (IsTold items) tables
  pub receipts : AllTables (AreReceipts items) tables

-- The spans are all segments of node j but that at place n.
abbrev pub AreOthers : List Checked → ℕ → ℕ → List Span → Type 0
AreOthers items j n spans = (i : ℕ) → HasSpanAt spans i ↔ (IsSegmentAt items j i × (i ≢ n))

-- The item at a place acknowledges a message.
abbrev pub is_ack : Fields → Bool
is_ack (form.Auth a) = false
is_ack (form.Segment s) = false
is_ack (form.Audit c) = false
is_ack (form.Send m) = false
is_ack (form.Ack a) = true

abbrev pub IsAckAt : List Checked → ℕ → Type 0
IsAckAt items n = (c : Checked) × (slice_get items n ≡ Some c) × (is_ack c.item.fields ≡ true)

abbrev pub subject_by : Option Checked → Option ℕ
subject_by None = None
subject_by (Some c) = subject c.item.fields

-- What a body takes of the room of its table; of the room of any table, and what is taken back of the promises.
pub record BodyRooms (t u : Table) : Type 0 where
  pub span_room : span_room t ≤ span_room u + 1
  pub open_room : open_room t ≤ open_room u + 1

pub record BodyRoomsOf (o : Option ℕ) (t u : Table) : Type 0 where
  pub span_room : span_room t ≤ span_room u + bodies o t.node
  pub open_room : open_room t ≤ open_room u + bodies o t.node
  pub promised : u.promised ≡ t.promised
  pub taken_back : u.bodies ≡ t.bodies - bodies o t.node

-- What the item at place n is beside its statements comes.
pub record BodyStep (items : List Checked) (n : ℕ) (t u : Table) : Type 0 where
  pub node : u.node ≡ t.node
  pub rows : u.rows ≡ t.rows
  pub receipts : u.receipts ≡ t.receipts
  pub stands : (i : ℕ) → HasSpanAt u.spans.items i ↔ (HasSpanAt t.spans.items i ⊎ ((i ≡ n) × IsSegmentAt items t.node n))
  pub unanswered : (i : ℕ) → Contains u.unanswered.items i ↔ ((Contains t.unanswered.items i × (answers_at items i n ≡ false)) ⊎ ((i ≡ n) × IsOpenAt items t.node n))

-- The item at place n comes, whole.
pub record ItemStep (items : List Checked) (n k : ℕ) (t u : Table) : Type 0 where
  pub node : u.node ≡ t.node
  pub says : (a : Authenticator) → Says items u.rows.items a ↔ (Says items t.rows.items a ⊎ ((p : ℕ) × (p < k) × (position_of items n p ≡ Some a) × (a.node ≡ t.node)))
  pub stands : (i : ℕ) → HasSpanAt u.spans.items i ↔ (HasSpanAt t.spans.items i ⊎ ((i ≡ n) × IsSegmentAt items t.node n))
  pub unanswered : (i : ℕ) → Contains u.unanswered.items i ↔ ((Contains t.unanswered.items i × (answers_at items i n ≡ false)) ⊎ ((i ≡ n) × IsOpenAt items t.node n))
