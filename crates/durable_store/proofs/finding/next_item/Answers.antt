use Rattle.std.proofs.Common.{⊎_elim, ◌∙◌}
use Rattle.durable_store.proofs.Found.{no_item, no_memory}
use Rattle.durable_store.proofs.finding.next_item.Goals as goal

pub returns-clause-shown : goal.returns-clause-shown
returns-clause-shown g c = λ ds basis.
    let text = rw c.in-Some.is at c.in_ok-text.ensures.text in
    ⊎_elim (λ memory. no_memory g.D.Device.found g.D.Device.seen ds basis c.next_text.new.reading c.in-Err.fault memory)
    (λ bad. no_item g.D.Device.found g.D.Device.seen ds basis _ c.next_text.new.reading c.in-Some.text.items c.args.place c.in-Err.fault text.1 c.requires.1 c.requires.2 bad.0
    (λ x is. bad.1 x (c.deref.ensures.value ∙ is)))
    c.in-Err.ensures.none
