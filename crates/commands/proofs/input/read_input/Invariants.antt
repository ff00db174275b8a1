use Rattle.std.proofs.Common.{◌≡◌, ◌+◌, ◌≤◌, vec_len}
use Rattle.std.specs.Io.KnownBytes.{Consumes}
use Rattle.commands.proofs.input.read_input.Given as goal

abbrev pub invariant-loop : goal.invariant-loop
invariant-loop g l = record {
  so_far : Consumes (g.R.Source.seen l.fn.reader).left (g.R.Source.seen l.reader).left l.all.items;
  within : vec_len l.all ≤ l.max_bytes;
  quiet : (g.R.Source.seen l.reader).failures ≡ (g.R.Source.seen l.fn.reader).failures;
  going_on : (g.R.Source.seen l.reader).ends ≡ (g.R.Source.seen l.fn.reader).ends;
  counted : (g.R.Source.seen l.reader).reads ≡ (g.R.Source.seen l.fn.reader).reads + l.counter;
}
