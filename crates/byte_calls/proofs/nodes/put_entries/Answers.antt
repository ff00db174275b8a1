use Rattle.std.proofs.Common.{◌≡◌, ◌++◌, ◌∷◌, [], ◌+◌, ◌∙◌, ap, sym, take}
use Rattle.std.proofs.lemmas.List.{take_more}
use Rattle.std.proofs.lemmas.Result.{err_from_is_err_and}
use Rattle.log_chain.specs.declared.entry.Entry.{Entry}
use Rattle.item_forms.specs.Spelling.{entry_spelling}
use Rattle.item_forms.proofs.Written.{one_part_more}
use Rattle.byte_calls.proofs.Logged.{not_written}
use Rattle.byte_calls.proofs.nodes.put_entries.Goals as goal

pub loop-entry-preserved : goal.loop-entry-preserved
loop-entry-preserved c =
    let i = c.loop-entry.entry-index in
    let es = c.args.entries.now in
    let e = c.entry-item.result in
    let more : take (i + 1) es ≡ take i es ++ e ∷ [] = take_more es i e c.loop-entry-test.true ∙ ap (λ (x : Entry). take i es ++ x ∷ []) (sym c.entry-item.is) in
    one_part_more entry_spelling es i e c.args.writer.now c.loop-entry.writer c.put_entry.new.writer more c.loop-entry.invariant c.in_ok-put_entry.ensures.written

pub returns-in_err-put_entry-clause-refused : goal.returns-in_err-put_entry-clause-refused
returns-in_err-put_entry-clause-refused c =
    let p = err_from_is_err_and c.from_residual.result c.from_residual.ensures.1 in
    rw (p.1, p.2) (not_written c.args.entries.now c.loop-entry.entry-index c.entry-item.result _ c.loop-entry-test.true c.entry-item.is c.in_err-put_entry.ensures.refused)
