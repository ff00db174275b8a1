-- What happens to the tables of all nodes.
use Rattle.std.specs.List.Sorted.{IsStrictlySortedBy}
use Rattle.std.specs.Ordering.{nat_cmp}
use Rattle.std.specs.Prelude.{◌≡◌, ℕ, Bool, false, List, Option, Some, None, slice_get, ◌+◌, ◌==◌, if◌then◌else◌, zero, suc}
use Rattle.std.specs.declared.cmp.Ordering.{Ordering}
use Rattle.authenticators.specs.declared.authenticator.Authenticator.{Authenticator}
use Rattle.evidence_item.specs.Checking.{Checked}
use Rattle.node_tables.specs.Rows.{stated_by}
use Rattle.node_tables.specs.declared.table.Table.{Table}

-- At each place with a new table stood an old one, and the relation holds between them.
abbrev pub EachBecomes : (Table → Table → Type 0) → List Table → List Table → Type 0
EachBecomes R old new = (i : ℕ) (u : Table) → slice_get new i ≡ Some u → (t : Table) × (slice_get old i ≡ Some t) × R t u

-- Each table has the property.
abbrev pub AllTables : (Table → Type 0) → List Table → Type 0
AllTables P tables = (i : ℕ) (t : Table) → slice_get tables i ≡ Some t → P t

-- The order of tables: by their nodes.
abbrev pub by_node : Table → Table → Ordering
by_node t u = nat_cmp t.node u.node

-- The tables ascend by their nodes.
abbrev pub AscendByNode : List Table → Type 0
AscendByNode tables = IsStrictlySortedBy by_node tables

-- The room that a table has for statements.
abbrev pub room : Table → ℕ
room t = t.rows.room

-- ---- the statements of one item

-- The statement is of the node.
abbrev pub is_of : ℕ → Option Authenticator → Bool
is_of j None = false
is_of j (Some a) = a.node == j

-- How many of the first positions have a statement of the node.
abbrev pub wanted : (ℕ → Option Authenticator) → ℕ → ℕ → ℕ
wanted g zero j = 0
wanted g (suc k) j = if is_of j (g k) then wanted g k j + 1 else wanted g k j

-- The statement at a position of the item at a place.
abbrev pub position_of : List Checked → ℕ → ℕ → Option Authenticator
position_of items n k = stated_by (slice_get items n) k
