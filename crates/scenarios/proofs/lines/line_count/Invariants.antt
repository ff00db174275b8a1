use Rattle.std.proofs.Common.{◌≡◌, ◌+◌, ◌≤◌, length}
use Rattle.scenarios.specs.Scenarios.{lines_of}
use Rattle.scenarios.proofs.lines.line_count.Given as goal

abbrev pub decreases-loop-more : goal.decreases-loop-more
decreases-loop-more l = length l.rest

abbrev pub invariant-loop-more : goal.invariant-loop-more
invariant-loop-more l = record {
  counted : l.count + length (lines_of l.rest) ≡ length (lines_of l.fn.text);
  within : l.count + length l.rest ≤ length l.fn.text;
}
