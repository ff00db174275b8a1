-- Statements by the places of their items.
use Rattle.std.specs.Prelude.{◌≡◌, ℕ, List, Option, Some, None, slice_get, map}
use Rattle.authenticators.specs.declared.authenticator.Authenticator.{Authenticator}
use Rattle.evidence_item.specs.Checking.{Checked}
use Rattle.kept_items.specs.Positions.{stated}
use Rattle.node_tables.specs.declared.row.Row.{Row}

-- The statement at a position of an item, if there is one.
abbrev pub stated_by : Option Checked → ℕ → Option Authenticator
stated_by None k = None
stated_by (Some c) k = stated c k

-- The statement that a row names.
abbrev pub stated_at : List Checked → Row → Option Authenticator
stated_at items r = stated_by (slice_get items r.item) r.position

-- The rows name just these statements, in this order.
abbrev pub AreRowsOf : List Checked → List Row → List Authenticator → Type 0
AreRowsOf items rows held = map (stated_at items) rows ≡ map Some held
