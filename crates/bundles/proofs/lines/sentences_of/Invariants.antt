use Rattle.std.proofs.Common.{◌+◌, ◌≤◌, length}
use Rattle.bundles.specs.within.Cursors.{AreInFront}
use Rattle.bundles.proofs.lines.sentences_of.Given as goal

abbrev pub decreases-loop-more : goal.decreases-loop-more
decreases-loop-more l = length l.rest

abbrev pub invariant-loop-more : goal.invariant-loop-more
invariant-loop-more l = record {
  found : AreInFront l.fn.text l.rest l.count;
  within : l.count + length l.rest ≤ length l.fn.text;
}
