-- Numbers and hashes of shared entries.
use Rattle.std.specs.Prelude.{ℕ, Bool, List, ◌&&◌, ◌==◌, ◌↔◌, map}
use Rattle.std.specs.Cmp.Lexicographic.{slice_cmp}
use Rattle.std.specs.List.{Contains}
use Rattle.std.specs.List.Sorted.{IsStrictlySortedBy}
use Rattle.std.specs.Ordering.{nat_cmp, ordering_then}
use Rattle.std.specs.Str.{bytes_eq}
use Rattle.std.specs.declared.cmp.Ordering.{Ordering}
use Rattle.kept_entries.specs.Shared.{SharedEntry}
use Rattle.kept_items.specs.declared.pair.Pair.{Pair}

abbrev pub pair_of : SharedEntry → Pair
pair_of x = record { seq = x.entry.seq; hash = x.hash }

-- The pair has this number and this hash.
abbrev pub is_pair : ℕ → List ℕ → Pair → Bool
is_pair seq hash p = (p.seq == seq) && bytes_eq p.hash hash

-- By number, then by hash.
abbrev pub by_pair : Pair → Pair → Ordering
by_pair a b = ordering_then (nat_cmp a.seq b.seq) (slice_cmp nat_cmp a.hash b.hash)

-- The pairs are those of the entries, in order.
pub record ArePairs (shared : List SharedEntry) (pairs : List Pair) : Type 0 where
  pub ascending : IsStrictlySortedBy by_pair pairs
  pub members : (p : Pair) → Contains pairs p ↔ Contains (map pair_of shared) p
