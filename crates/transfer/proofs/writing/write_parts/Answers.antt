use Rattle.std.proofs.Common.{◌∙◌, ◌+◌, ◌++◌, ap, arith, drop, List, ℕ, Option}
use Rattle.transfer.specs.within.Runs.{runs_text}
use Rattle.transfer.proofs.PartsOfRuns.{runs_are_parts}
use Rattle.transfer.proofs.PartsWritten.{all_written, next_kept}
use Rattle.transfer.proofs.writing.write_parts.Goals as goal

pub returns : goal.returns
returns c =
    all_written c.args.kept.now c.loop-bucket.bucket c.loop-bucket.writer _ c.loop-bucket.rest.now c.requires.size c.loop-bucket-test.false c.loop-bucket.invariant
    ∙ ap (λ (l : List ℕ). c.args.writer.now ++ l) (runs_are_parts (record { listed = c.args.listed.now; kept = c.args.kept.now }) c.requires)

pub loop-bucket-preserved : goal.loop-bucket-preserved
loop-bucket-preserved c =
    let b = c.loop-bucket.bucket in
    let kept = c.args.kept.now in
    let others : List (Option (List ℕ)) = drop (b + 1) kept in
    ap (λ (l : List (List ℕ)). c.write_part.new.writer ++ runs_text (b + 1) l others) c.split_at.ensures.back
    ∙ c.in_ok-count.ensures.written others
    ∙ ap (λ (ks : List (Option (List ℕ))). c.loop-bucket.writer ++ runs_text b c.loop-bucket.rest.now ks) (next_kept kept b c.from.result c.index-kept-from.result (omega (arith, c.loop-bucket-test.true, c.requires.size)) (omega (arith, c.from.ensures)) c.index-kept-from.is)
    ∙ c.loop-bucket.invariant
