-- How a store with an index is kept.
use Rattle.std.specs.List.{Contains}
use Rattle.std.specs.Prelude.{◌≡◌, ℕ, true, List, Some, None, ◌≢◌, ◌↔◌, [], ◌∷◌, ◌++◌, length}
use Rattle.authenticators.specs.Directory.{Listing, is_listed}
use Rattle.authenticators.specs.declared.authenticator.Authenticator.{Authenticator}
use Rattle.replay_verifier.specs.Meaning.{Meaning}
use Rattle.evidence_item.specs.Checking.{Checked}
use Rattle.evidence_set.specs.declared.indication.Indication.TheVariants.{Trusted, Suspected, Exposed}
use Rattle.evidence_set.specs.declared.indication.Indication.{Indication}
use Rattle.kept_evidence.specs.Kept.{Keeps, IsWhole}
use Rattle.node_tables.specs.Hashed.{AreAsked}
use Rattle.node_tables.specs.Places.{IsOpenAt, IsOrder}
use Rattle.node_tables.specs.Receipts.{IsReceived}
use Rattle.node_tables.specs.Rooms.{HasRoomFor}
use Rattle.node_tables.specs.Steps.{AllTables, AscendByNode, position_of}
use Rattle.node_tables.specs.Tables.{IsSegmentAt, HasSpanAt, Says, IsTold}
use Rattle.node_tables.specs.declared.exposure.ExposingPlaces.{ExposingPlaces}
use Rattle.node_tables.specs.declared.sending.Sending.{Sending}
use Rattle.node_tables.specs.declared.table.Table.{Table}

-- If receipts are kept, they are just the messages of the node of which segments have some.
abbrev pub AreReceipts : List Checked → Table → Type 0
AreReceipts items t = t.receipts.whole ≡ true → (s : Sending) → Contains t.receipts.sendings.items s ↔ (IsReceived items s × (s.from ≡ t.node))

-- The statement stands in some item.
abbrev pub IsSaid : List Checked → Authenticator → Type 0
IsSaid items a = (n k : ℕ) × (position_of items n k ≡ Some a)

-- The table of a node has just what the items say of it: their statements of it, its messages of which segments have receipts, and its
-- segments. It has the challenges against it that nothing answers, by their encodings and by hashes. It keeps what exposes the node, if
-- something does.
pub record IsTable (items : List Checked) (t : Table) : Type 0 where
  pub told : IsTold items t
  pub says : (a : Authenticator) → Says items t.rows.items a ↔ (IsSaid items a × (a.node ≡ t.node))
  pub receipts : AreReceipts items t
  pub stands : (i : ℕ) → HasSpanAt t.spans.items i ↔ IsSegmentAt items t.node i
  pub unanswered : (i : ℕ) → Contains t.unanswered.items i ↔ IsOpenAt items t.node i
  pub asked : AreAsked items (length items) t

-- Some table is of node j.
abbrev pub HasNode : List Table → ℕ → Type 0
HasNode tables j = (t : Table) × Contains tables t × (t.node ≡ j)

-- The items are checked, their order is that of their encodings, and each node that is listed has one table.
pub record IsIndexed {S : Type 0} (ds : Listing) (program : Meaning S) (items : List Checked) (order : List ℕ) (tables : List Table) : Type 0 where
  pub ordered : IsOrder items order
  pub whole : (c : Checked) → Contains items c → IsWhole ds program c
  pub ascending : AscendByNode tables
  pub listed : (j : ℕ) → is_listed ds j ≡ true → HasNode tables j
  pub each : AllTables (IsTable items) tables

-- The tables are those of all items but the last, whose encoding none of the others has. They have room for it.
pub record AreOfOthers (items : List Checked) (tables : List Table) : Type 0 where
  pub others : List Checked
  pub last : Checked
  pub split : items ≡ others ++ last ∷ []
  pub absent : Keeps others last.item → ⊥
  pub each : AllTables (IsTable others) tables
  pub room : AllTables (HasRoomFor last) tables

-- The indication of a node is what its table says.
abbrev pub Tells : Table → Indication → Type 0
Tells t Exposed = (e : ExposingPlaces) × (t.exposure ≡ Some e)
Tells t Suspected = (t.exposure ≡ None) × (t.unanswered.items ≢ [])
Tells t Trusted = (t.exposure ≡ None) × (t.unanswered.items ≡ [])
