use Rattle.std.proofs.Common.{rules, ◌≡◌, ◌∙◌, ◌+◌, ◌++◌, ℕ, List, Vec, ap, drop, take, sym, Some}
use Rattle.std.specs.declared.alloc.Global.{Global}
use Rattle.std.proofs.lemmas.List.{take_rest}
use Rattle.journal.specs.Journal.{recovered, texts_of}
use Rattle.byte_calls.specs.within.Blocks.{first_len}
use Rattle.byte_calls.proofs.Counted.{next_block, texts_more}
use Rattle.byte_calls.proofs.journals.recovered.Goals as goal

pub loop-len-preserved : goal.loop-len-preserved
loop-len-preserved c =
    let file = c.args.journal.now in
    let at = c.loop-len.at in
    let n = c.in-Some.len in
    let found : first_len (drop at file) ≡ Some n = ap first_len (sym (take_rest file at)) ∙ sym c.first_len.ensures ∙ c.in-Some.is in
    let next = next_block file at n c.loop-len.invariant.within found in
    let text : c.in_ok-to_vec.field-0.items ≡ take n (drop (at + 9) file) = search rules in
    let pushed = ap (λ (l : List (Vec ℕ Global)). texts_of l ++ recovered (drop (at + 9 + n) file)) (sym c.in_ok-push.ensures.items) in
    record { within = next.long; texts = texts_more file at n c.loop-len.texts.items c.in_ok-to_vec.field-0 next text c.loop-len.invariant.texts ∙ pushed }
