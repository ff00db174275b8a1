use Rattle.std.proofs.Common.{◌≡◌, ◌∙◌, ◌+◌, ◌++◌, ℕ, List, suc, ap, subst, arith}
use Rattle.std.proofs.lemmas.Result.{err_from_is_err_and}
use Rattle.evidence_set.specs.ItemSets.{count, insert_all, none}
use Rattle.shards.specs.Parts.{parts_of}
use Rattle.operating.specs.Dealt.{part_at, part_line, part_lines}
use Rattle.operating.proofs.Filing.{filed_on, later_writing, left_by, left_on, seen_same}
use Rattle.operating.proofs.split.write_parts.Goals as goal

pub loop-number-preserved : goal.loop-number-preserved
loop-number-preserved g c =
    let n = c.loop-number.number in
    let at : suc n ≡ n + 1 = omega arith in
    let d = c.args.parting.now.dealing in
    let X = insert_all none c.args.parting.now.items in
    let old = g.F.PartFiles.seen c.args.parts.now in
    let mid = g.F.PartFiles.seen c.loop-number.parts in
    let new = g.F.PartFiles.seen c.file_part.new.parts in
    let grown : c.file_part.new.lines.items ≡ part_lines d X (suc n) = c.in_ok-file_part.ensures.lines ∙ ap (λ (l : List ℕ). l ++ part_line (parts_of d) n (count (part_at d X n))) c.loop-number.invariant.lines in
    record {
      written = filed_on d X n old mid new c.loop-number.invariant.written c.loop-number.invariant.rest c.in_ok-file_part.ensures.written c.file_part.ensures.others;
      rest = left_on d X n old mid new c.loop-number.invariant.rest c.file_part.ensures.others;
      lines = subst (λ (m : ℕ). c.file_part.new.lines.items ≡ part_lines d X m) at grown;
      quiet = c.in_ok-file_part.ensures.quiet ∙ c.loop-number.invariant.quiet;
    }

pub returns-in_err-file_part-clause-left : goal.returns-in_err-file_part-clause-left
returns-in_err-file_part-clause-left g c =
    let p = err_from_is_err_and c.from_residual.result c.from_residual.ensures.1 in
    let f = c.in_err-file_part.field-0.0.fault in
    let same = seen_same g.F.PartFiles.seen c.file_part.new.parts c.loop-number.parts f c.in_err-file_part.ensures.unwritten in
    rw (p.1, p.2) (left_by c.args.parting.now.dealing (insert_all none c.args.parting.now.items) c.loop-number.number (g.F.PartFiles.seen c.args.parts.now) (g.F.PartFiles.seen c.loop-number.parts) (g.F.PartFiles.seen c.file_part.new.parts)
    c.loop-number.invariant.written c.loop-number.invariant.rest c.file_part.ensures.others f same)
