use Rattle.std.proofs.Common.{◌≡◌, ◌≤◌, ℕ}
use Rattle.evidence_set.specs.ItemSets.{insert_all, none}
use Rattle.operating.specs.Dealt.{AreFiled, part_lines}
use Rattle.operating.proofs.split.write_parts.Given as goal

abbrev pub invariant-loop-number : goal.invariant-loop-number
invariant-loop-number g l = record {
  written : AreFiled l.parting.dealing (insert_all none l.parting.items) l.number (g.F.PartFiles.seen l.fn.parts) (g.F.PartFiles.seen l.parts);
  rest : (k : ℕ) → l.number ≤ k → (g.F.PartFiles.seen l.parts).files k ≡ (g.F.PartFiles.seen l.fn.parts).files k;
  lines : l.lines.items ≡ part_lines l.parting.dealing (insert_all none l.parting.items) l.number;
  quiet : (g.F.PartFiles.seen l.parts).failures ≡ (g.F.PartFiles.seen l.fn.parts).failures;
}
