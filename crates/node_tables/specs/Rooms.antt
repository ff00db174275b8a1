-- Room that is made before anything changes, and what was promised.
use Rattle.std.specs.Prelude.{◌≡◌, ℕ, List, Some, ◌+◌, ◌≤◌, ◌-◌, [], ◌∷◌}
use Rattle.evidence_item.specs.Checking.{Checked}
use Rattle.kept_items.specs.Keeping.{subject}
use Rattle.kept_items.specs.Positions.{stated, positions}
use Rattle.node_tables.specs.Hashed.{AreSame}
use Rattle.node_tables.specs.Places.{HasBodyRoom, bodies, open_room, span_room}
use Rattle.node_tables.specs.Receipts.{AreSameReceipts}
use Rattle.node_tables.specs.Steps.{room, wanted}
use Rattle.node_tables.specs.declared.table.Table.{Table}

-- The table has what it had, and no less room.
pub record IsRoomier (t u : Table) : Type 0 where
  pub node : u.node ≡ t.node
  pub rows : u.rows.items ≡ t.rows.items
  pub receipts : AreSameReceipts t.receipts u.receipts
  pub spans : u.spans.items ≡ t.spans.items
  pub unanswered : u.unanswered.items ≡ t.unanswered.items
  pub hashes : AreSame t.hashes u.hashes
  pub exposure : u.exposure ≡ t.exposure
  pub room : room t ≤ room u
  pub span_room : span_room t ≤ span_room u
  pub open_room : open_room t ≤ open_room u

-- As much was promised to the table as before.
pub record KeepsPromises (t u : Table) : Type 0 where
  pub promised : u.promised ≡ t.promised
  pub bodies : u.bodies ≡ t.bodies

-- So many statements and bodies of its node were promised to the table, beside all that was promised before.
pub record AreMany (w b : ℕ) (t u : Table) : Type 0 where
  pub roomier : IsRoomier t u
  pub statements : u.promised ≡ t.promised + w
  pub rows : 1 ≤ w → t.promised + w ≤ room u
  pub bodies : u.bodies ≡ t.bodies + b
  pub spans : 1 ≤ b → t.bodies + b ≤ span_room u
  pub unanswered : 1 ≤ b → t.bodies + b ≤ open_room u

-- The promises of so many are taken back. The table has what it had, and no less room.
pub record AreBack (w b : ℕ) (t u : Table) : Type 0 where
  pub roomier : IsRoomier t u
  pub promised : u.promised ≡ t.promised - w
  pub bodies : u.bodies ≡ t.bodies - b

-- So many statements and bodies were promised to the table as the two functions say of its node.
abbrev pub Promises : (ℕ → ℕ) → (ℕ → ℕ) → Table → Table → Type 0
Promises w b t u = AreMany (w t.node) (b t.node) t u

-- The promises of as many are taken back.
abbrev pub TakesBack : (ℕ → ℕ) → (ℕ → ℕ) → Table → Table → Type 0
TakesBack w b t u = AreBack (w t.node) (b t.node) t u

-- At how many positions an item has a statement of node j.
abbrev pub rows_of : Checked → ℕ → ℕ
rows_of x j = wanted (stated x) (positions x.item.fields) j

-- How many bodies an item brings to the table of node j: one if node j is its subject, and else none.
abbrev pub bodies_of : Checked → ℕ → ℕ
bodies_of x j = bodies (subject x.item.fields) j

-- How many the items of a list have together.
abbrev pub sum_of : (Checked → ℕ → ℕ) → List Checked → ℕ → ℕ
sum_of f [] j = 0
sum_of f (x ∷ xs) j = f x j + sum_of f xs j

-- All items of the list were promised.
abbrev pub AreReady : List Checked → Table → Table → Type 0
AreReady xs t u = Promises (sum_of rows_of xs) (sum_of bodies_of xs) t u

-- The table has room for all items of the list.
pub record HasRoomForAll (xs : List Checked) (u : Table) : Type 0 where
  pub rows : sum_of rows_of xs u.node ≤ room u
  pub spans : sum_of bodies_of xs u.node ≤ span_room u
  pub unanswered : sum_of bodies_of xs u.node ≤ open_room u

-- What was promised to the table and has not come yet is just what the items of the list need. If the list is empty, the table owes
-- nothing.
pub record Owes (xs : List Checked) (t : Table) : Type 0 where
  pub statements : t.promised ≡ sum_of rows_of xs t.node
  pub bodies : t.bodies ≡ sum_of bodies_of xs t.node

-- The item takes at most so much room of any table. What was promised of it is taken back.
pub record ItemRooms (x : Checked) (t u : Table) : Type 0 where
  pub node : u.node ≡ t.node
  pub rows : room t ≤ room u + rows_of x t.node
  pub spans : span_room t ≤ span_room u + bodies_of x t.node
  pub unanswered : open_room t ≤ open_room u + bodies_of x t.node
  pub promised : u.promised ≡ t.promised - rows_of x t.node
  pub bodies : u.bodies ≡ t.bodies - bodies_of x t.node

-- The table has room for the whole item.
pub record HasRoomFor (x : Checked) (u : Table) : Type 0 where
  pub statements : wanted (stated x) (positions x.item.fields) u.node ≤ room u
  pub body : subject x.item.fields ≡ Some u.node → HasBodyRoom u

-- The whole item was promised, and there is room for it.
pub record IsReady (x : Checked) (t u : Table) : Type 0 where
  pub many : Promises (rows_of x) (bodies_of x) t u
  pub enough : HasRoomFor x u

-- What was promised of the whole item is taken back.
abbrev pub IsReleased : Checked → Table → Table → Type 0
IsReleased x t u = TakesBack (rows_of x) (bodies_of x) t u

-- What was promised of all items of a list is taken back.
abbrev pub AreAllReleased : List Checked → Table → Table → Type 0
AreAllReleased xs t u = TakesBack (sum_of rows_of xs) (sum_of bodies_of xs) t u
