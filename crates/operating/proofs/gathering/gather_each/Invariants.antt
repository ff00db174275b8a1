use Rattle.std.proofs.Common.{◌≡◌}
use Rattle.operating.specs.GatheredFiles.{AreGathered, under}
use Rattle.operating.proofs.gathering.gather_each.Given as goal

abbrev pub invariant-loop-number : goal.invariant-loop-number
invariant-loop-number g l = record {
  gathered : AreGathered l.reading.limits.most_bytes (g.O.Opener.seen l.fn.opener).files l.number (under l.directory.items (g.S.Evidence.contents l.store));
  files : (g.O.Opener.seen l.opener).files ≡ (g.O.Opener.seen l.fn.opener).files;
  quiet : (g.O.Opener.seen l.opener).failures ≡ (g.O.Opener.seen l.fn.opener).failures;
}
