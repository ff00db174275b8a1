use Rattle.std.proofs.Common.{◌≡◌}
use Rattle.operating.specs.Splitting.{Have}
use Rattle.operating.proofs.split.read_items.Given as goal

abbrev pub invariant-loop-number : goal.invariant-loop-number
invariant-loop-number g l = record {
  have : Have l.limits.most_bytes (g.O.Opener.seen l.fn.opener).files l.first l.number l.items.items;
  files : (g.O.Opener.seen l.opener).files ≡ (g.O.Opener.seen l.fn.opener).files;
  quiet : (g.O.Opener.seen l.opener).failures ≡ (g.O.Opener.seen l.fn.opener).failures;
}
