use Rattle.std.proofs.Common.{◌≡◌, ◌∙◌, ap, drop, sym, Some}
use Rattle.std.proofs.lemmas.List.{take_rest}
use Rattle.byte_calls.specs.within.Blocks.{first_len}
use Rattle.byte_calls.proofs.Counted.{covers_more, next_block}
use Rattle.byte_calls.proofs.journals.end.Goals as goal

pub loop-len-preserved : goal.loop-len-preserved
loop-len-preserved c =
    let file = c.args.journal.now in
    let at = c.loop-len.end in
    let found : first_len (drop at file) ≡ Some c.in-Some.len = ap first_len (sym (take_rest file at)) ∙ sym c.first_len.ensures ∙ c.in-Some.is in
    let next = next_block file at c.in-Some.len c.loop-len.invariant.within found in
    record { within = next.long; covers = covers_more file at c.in-Some.len next c.loop-len.invariant.covers }
