use Rattle.std.proofs.Common.{◌≡◌, ◌+◌, ◌≤◌, ◌++◌, drop, reverse, take, vec_capacity, vec_len}
use Rattle.authenticators.proofs.joining.move_from.Given as goal

-- what is moved and what is still to be moved
abbrev pub invariant-loop-held : goal.invariant-loop-held
invariant-loop-held l = record {
  inside : l.place ≤ vec_len l.held;
  held : take l.place l.held.items ≡ take l.place l.initial.held.items;
  moved : l.moved.items ++ reverse (drop l.place l.held.items) ≡ l.initial.moved.items ++ reverse (drop l.place l.initial.held.items);
  len : vec_len l.held + vec_len l.moved ≡ vec_len l.initial.held + vec_len l.initial.moved;
  held_capacity : vec_capacity l.held ≡ vec_capacity l.initial.held;
  moved_capacity : vec_capacity l.moved ≡ vec_capacity l.initial.moved;
}

abbrev pub decreases-loop-held : goal.decreases-loop-held
decreases-loop-held l = vec_len l.held
