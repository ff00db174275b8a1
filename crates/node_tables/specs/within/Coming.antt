-- What the coming of an item asks of one table, and what it leaves there. To all tables it comes one by one.
use Rattle.std.specs.Prelude.{◌≡◌, ℕ, Bool, true, List, Some, length, slice_get, ◌+◌, ◌≤◌}
use Rattle.evidence_item.specs.Checking.{Checked}
use Rattle.evidence_set.specs.Challenges.{is_against}
use Rattle.kept_evidence.specs.Telling.{is_answered}
use Rattle.kept_items.specs.Keeping.{subject}
use Rattle.kept_items.specs.Positions.{positions}
use Rattle.node_tables.specs.Indexed.{AreReceipts}
use Rattle.node_tables.specs.Hashed.{AreAsked}
use Rattle.node_tables.specs.Places.{HasBodyRoom, span_room}
use Rattle.node_tables.specs.Rooms.{HasRoomFor, ItemRooms, KeepsPromises}
use Rattle.node_tables.specs.Rows.{stated_at}
use Rattle.node_tables.specs.Tables.{IsTold}
use Rattle.node_tables.specs.declared.row.Row.{Row}
use Rattle.node_tables.specs.declared.table.Table.{Table}
use Rattle.node_tables.specs.within.Bringing.{OneTakenBack, SegmentStep, StatementStep, StatementsStep, TakenBack}
use Rattle.node_tables.specs.within.Placing.{AreAgainst, AreOtherReceipts, AreOthers, BodyRooms, BodyRoomsOf, BodyStep, IsNewAmong, ItemStep, subject_by}

-- The table of a node is right for the items, and its challenges stand in their orders. They need not yet take account of the segment at
-- place n.
pub record IsKept (items : List Checked) (n : ℕ) (t : Table) : Type 0 where
  pub told : IsTold items t
  pub asked : AreAsked items n t

-- ---- statements

-- The statement that a row names came, and its promise is taken back.
pub record StatementCame (items : List Checked) (row : Row) (t u : Table) : Type 0 where
  pub told : IsTold items u
  pub step : StatementStep items row t u
  pub back : OneTakenBack (stated_at items row) t u

-- The same of the first statements of the item at place n.
pub record StatementsCame (items : List Checked) (n k : ℕ) (t u : Table) : Type 0 where
  pub told : IsTold items u
  pub step : StatementsStep items n k t u
  pub back : TakenBack items n k t u

-- ---- what the item at place n is beside its statements

-- It is a segment, and came to the table of its node.
pub record SegmentCame (items : List Checked) (n : ℕ) (t u : Table) : Type 0 where
  pub told : IsTold items u
  pub step : SegmentStep items n t u
  pub room : span_room t ≤ span_room u + 1
  pub counts : KeepsPromises t u

-- The table is kept, and of segments and challenges it has those of the items at other places.
pub record IsOfOthers (items : List Checked) (n : ℕ) (t : Table) : Type 0 where
  pub kept : IsKept items n t
  pub spans : AreOthers items t.node n t.spans.items
  pub against : AreAgainst items t
  pub new : IsNewAmong items n t.unanswered.items

-- Such a table has room for the item, if it is the table of its subject.
pub record IsBodyDue (items : List Checked) (n : ℕ) (t : Table) : Type 0 where
  pub others : IsOfOthers items n t
  pub room : subject_by (slice_get items n) ≡ Some t.node → HasBodyRoom t

-- The table is that of the subject of x, the item at that place. If x challenges the node, b says whether something answers x.
pub record IsToPut (items : List Checked) (n : ℕ) (x : Checked) (b : Bool) (t : Table) : Type 0 where
  pub due : IsBodyDue items n t
  pub here : slice_get items n ≡ Some x
  pub own : subject x.item.fields ≡ Some t.node
  pub answered : is_against t.node x.item.fields ≡ true → b ≡ is_answered items x.item.fields

-- It came to the table of its subject; to any table, and its promise is taken back.
pub record BodyPut (items : List Checked) (n : ℕ) (t u : Table) : Type 0 where
  pub kept : IsKept items (length items) u
  pub step : BodyStep items n t u
  pub rooms : BodyRooms t u
  pub counts : KeepsPromises t u

pub record BodyCame (items : List Checked) (n : ℕ) (t u : Table) : Type 0 where
  pub kept : IsKept items (length items) u
  pub step : BodyStep items n t u
  pub rooms : BodyRoomsOf (subject_by (slice_get items n)) t u

-- ---- the whole item at place n

-- The table has what the items at other places say, and room for it.
pub record IsDue (items : List Checked) (n : ℕ) (t : Table) : Type 0 where
  pub others : IsOfOthers items n t
  pub receipts : AreOtherReceipts items n t
  pub room : (x : Checked) → slice_get items n ≡ Some x → HasRoomFor x t

-- It came, and its promise is taken back.
pub record ItemCame (items : List Checked) (n : ℕ) (t u : Table) : Type 0 where
  pub kept : IsKept items (length items) u
  pub receipts : AreReceipts items u
  pub step : (x : Checked) → slice_get items n ≡ Some x → ItemStep items n (positions x.item.fields) t u
  pub rooms : (x : Checked) → slice_get items n ≡ Some x → ItemRooms x t u
