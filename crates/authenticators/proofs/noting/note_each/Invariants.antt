use Rattle.std.proofs.Common.{◌≡◌, ◌+◌, ◌≤◌, take, vec_capacity, vec_len}
use Rattle.authenticators.specs.within.Noted.{AreNoted}
use Rattle.authenticators.proofs.noting.note_each.Given as goal

abbrev pub invariant-loop-point : goal.invariant-loop-point
invariant-loop-point l = record {
  noted : AreNoted l.held (take l.point-index l.points) l.initial.clashes.items l.clashes.items;
  len : vec_len l.clashes ≤ vec_len l.initial.clashes + l.point-index;
  capacity : vec_capacity l.clashes ≡ vec_capacity l.initial.clashes;
}
