use Rattle.std.proofs.Common.{◌≡◌, ◌++◌, ◌∷◌, [], ◌+◌, ◌∙◌, ap, sym, take}
use Rattle.std.proofs.lemmas.List.{take_more}
use Rattle.log_chain.specs.declared.entry.Entry.{Entry}
use Rattle.item_forms.specs.Spelling.{entry_spelling}
use Rattle.item_digests.proofs.Fed.{part_fed}
use Rattle.item_digests.proofs.feeding.feed_each.Goals as goal

pub loop-entry-preserved : goal.loop-entry-preserved
loop-entry-preserved c =
    let i = c.loop-entry.entry-index in
    let es = c.args.entries.now in
    let e = c.entry-item.result in
    let more : take (i + 1) es ≡ take i es ++ e ∷ [] = take_more es i e c.loop-entry-test.true ∙ ap (λ (x : Entry). take i es ++ x ∷ []) (sym c.entry-item.is) in
    part_fed entry_spelling es i e c.args.hasher.now c.loop-entry.hasher c.feed_entry.new.hasher more c.loop-entry.invariant c.feed_entry.ensures
