-- The numbers at which statements are in conflict, as a set of statements keeps them.
use Rattle.std.specs.Prelude.{◌≡◌, ◌≤◌, ◌⊎◌, ℕ, List}
use Rattle.std.specs.List.{Contains}
use Rattle.std.specs.List.Sorted.{IsStrictlySortedBy}
use Rattle.std.specs.declared.cmp.Ordering.{Ordering}
use Rattle.std.specs.Ordering.{nat_cmp}
use Rattle.authenticators.specs.declared.authenticator.Authenticator.{Authenticator}
use Rattle.authenticators.specs.declared.clash.Clash.{Clash}
use Rattle.authenticators.specs.StatementSet.{Conflict, IsAt}

abbrev pub by_node : Clash → Clash → Ordering
by_node p q = nat_cmp p.node q.node

-- The statement's node and number.
abbrev pub point_of : Authenticator → Clash
point_of a = record { node = a.node; seq = a.seq }

-- Two statements of the list are of this node and number, and in conflict.
pub record IsClash (held : List Authenticator) (p : Clash) : Type 0 where
  pub one : Authenticator
  pub other : Authenticator
  pub has_one : Contains held one
  pub has_other : Contains held other
  pub here : IsAt p.node p.seq one
  pub conflict : Conflict one other

-- One of these is of the node.
abbrev pub HasOf : List Clash → ℕ → Type 0
HasOf clashes node = (p : Clash) × Contains clashes p × (p.node ≡ node)

-- One of these is of the clash's node, at its number or below.
abbrev pub HasUpTo : List Clash → Clash → Type 0
HasUpTo clashes q = (p : Clash) × Contains clashes p × (p.node ≡ q.node) × (p.seq ≤ q.seq)

-- For each node with statements in conflict the least number at which two are, ascending by node.
pub record AreClashesOf (held : List Authenticator) (clashes : List Clash) : Type 0 where
  pub ascending : IsStrictlySortedBy by_node clashes
  pub each : (p : Clash) → Contains clashes p → IsClash held p
  pub all : (a b : Authenticator) → Contains held a → Contains held b → Conflict a b → HasUpTo clashes (point_of a)

-- Of the points at which statements are in conflict and of what was kept, the least of each node is kept.
pub record AreNoted (held : List Authenticator) (points old new : List Clash) : Type 0 where
  pub ascending : IsStrictlySortedBy by_node new
  pub kept : (p : Clash) → Contains old p → HasUpTo new p
  pub only : (p : Clash) → Contains new p → Contains old p ⊎ IsClash held p
  pub found : (p : Clash) → Contains points p → IsClash held p → HasUpTo new p
