-- How many statements and bodies of each node the parts of an item have.
use Rattle.std.specs.Prelude.{ℕ, ◌==◌, if◌then◌else◌}
use Rattle.evidence_item.specs.Checking.{Checked}
use Rattle.kept_items.specs.Positions.{stated}
use Rattle.node_tables.specs.within.Bringing.{one_of}

-- Of no node any; of node j one.
abbrev pub nothing : ℕ → ℕ
nothing i = 0

abbrev pub one_for : ℕ → ℕ → ℕ
one_for j i = if j == i then 1 else 0

-- The statement at a position of the item, if one stands there.
abbrev pub one_at : Checked → ℕ → ℕ → ℕ
one_at x k i = one_of i (stated x k)
