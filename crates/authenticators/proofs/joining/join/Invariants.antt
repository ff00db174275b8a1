use Rattle.std.proofs.Common.{◌+◌, ◌≤◌, vec_capacity, vec_len}
use Rattle.authenticators.proofs.StatementJoins.{IsJoining}
use Rattle.authenticators.proofs.joining.join.Given as goal

abbrev pub invariant-loop-statement : goal.invariant-loop-statement
invariant-loop-statement l = record {
  joining : IsJoining l.initial.held.items l.initial.statements.items l.held.items l.statements.items l.moved.items;
  room : vec_len l.held + vec_len l.moved + vec_len l.statements ≤ vec_capacity l.held;
  moving : vec_len l.held + vec_len l.moved + vec_len l.statements ≤ vec_capacity l.moved;
}

abbrev pub decreases-loop-statement : goal.decreases-loop-statement
decreases-loop-statement l = vec_len l.statements
