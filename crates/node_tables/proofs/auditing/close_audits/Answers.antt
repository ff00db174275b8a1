use Rattle.std.proofs.Common.{not, subst, sym}
use Rattle.std.specs.Prelude.{slice_get}
use Rattle.node_tables.specs.Places.{AscendBySpelling}
use Rattle.node_tables.specs.within.Sendings.{audited_by}
use Rattle.node_tables.proofs.Asked.{asked_filtered}
use Rattle.node_tables.proofs.auditing.close_audits.Goals.{else-hashes-via-then-hashes+else-take_each, else-hashes-via-else-hashes}
use Rattle.node_tables.proofs.auditing.close_audits.Goals as goal

pub returns-clause-spelled : goal.returns-clause-spelled
returns-clause-spelled g c =
    let items = c.args.items.now in
    asked_filtered items (λ o. not (audited_by o (slice_get items c.args.answer))) c.else-hashes.places.items c.take_answered.new.places.items c.take_answered.ensures.items
    (elim c.else-hashes.branch [
      | else-hashes-via-then-hashes+else-take_each w ↦ subst (λ p. AscendBySpelling items p.items) (sym w.places-is) w.take_each.ensures.places.spelled
      | else-hashes-via-else-hashes w ↦ subst (λ p. AscendBySpelling items p.items) (sym w.places-is) c.requires.spelled
    ])
