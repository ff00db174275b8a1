-- What becomes of marks while a segment comes.
use Rattle.std.specs.Str.{bytes_eq}
use Rattle.std.specs.Prelude.{◌≡◌, ◌≢◌, ◌+◌, ◌<◌, ◌≤◌, ◌⊎◌, ℕ, Bool, false, List, Option, Some, None, nat_le, nat_lt}
use Rattle.log_chain.specs.Chain.{base}
use Rattle.evidence_item.specs.Checking.{Checked}
use Rattle.kept_items.specs.declared.link.Link.{Link}
use Rattle.node_tables.specs.declared.holding.Held.TheVariants.{Raised, Known, Lost}
use Rattle.node_tables.specs.declared.holding.Held.{Held}
use Rattle.node_tables.specs.declared.mark.Mark.{Mark}
use Rattle.node_tables.specs.Hashed.{AreHolders, front_of, link_at}
use Rattle.node_tables.specs.Tables.{IsSegmentAt}

-- The mark stands before those of a front; not behind them.
abbrev pub is_under : ℕ → Mark → Bool
is_under front m = nat_lt m.front front

abbrev pub is_within : ℕ → Mark → Bool
is_within front m = nat_le m.front front

-- The entry has the hash.
abbrev pub has_hash : Option Link → List ℕ → Bool
has_hash None h = false
has_hash (Some x) h = bytes_eq x.hash h

-- A segment of node j at another place than n has the entry, behind k others or more.
abbrev pub IsKnown : List Checked → (j n k : ℕ) → Link → Type 0
IsKnown items j n k x = (i l : ℕ) × IsSegmentAt items j i × (i ≢ n) × (link_at items i l ≡ Some x) × (k ≤ l)

-- The mark is that of an entry of a segment of node j; and the entry's hash is not that before a log's first entry.
pub record HasNext (items : List Checked) (j : ℕ) (m : Mark) (x : Link) : Type 0 where
  pub segment : IsSegmentAt items j m.item
  pub here : link_at items m.item m.position ≡ Some x
  pub front : m.front ≡ front_of x.hash

pub record IsNext (items : List Checked) (j : ℕ) (m : Mark) (x : Link) : Type 0 where
  pub has : HasNext items j m x
  pub based : x.hash ≢ base

-- A segment of node j at another place than n has the entry behind all others that the one at place n has before it, but the first r.
abbrev pub IsKnownBut : List Checked → (j n k : ℕ) → Link → ℕ → Type 0
IsKnownBut items j n k x r = (k < r) ⊎ ((q : ℕ) × (k ≤ r + q) × IsKnown items j n q x)

-- What holders are with the entry at one position more.
abbrev pub IsPut : List Checked → ℕ → Mark → Link → List Mark → Held → Type 0
IsPut items j m x new (Raised r) = AreHolders items j m.item (m.position + 1) new × IsKnownBut items j m.item m.position x r
IsPut items j m x new Known = AreHolders items j m.item (m.position + 1) new × IsKnown items j m.item m.position x
IsPut items j m x new Lost = Unit {0}
