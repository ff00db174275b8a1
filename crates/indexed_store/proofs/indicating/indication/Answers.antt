use Rattle.std.proofs.Common.{subst}
use Rattle.evidence_set.specs.Indications.{IsIndication}
use Rattle.evidence_set.specs.ItemSets.{set_of}
use Rattle.node_tables.proofs.Meant.{tells_is}
use Rattle.indexed_store.proofs.indicating.indication.Goals as goal

pub returns-in-None : goal.returns-in-None
returns-in-None g c = let (t, has, own) = c.requires.store.listed c.args.node c.requires.listed in absurd (c.in-None.ensures.none t has own)

pub returns-in-Some : goal.returns-in-Some
returns-in-Some g c =
    let store = c.requires.store in
    let t = c.in-Some.table.now in
    let (i, at, own) = c.in-Some.ensures.some in
    subst (λ j. IsIndication c.args.directory.now g.P.Program.means (set_of c.args.index.now.items.items) j c.indication_of.result) own
    (tells_is c.args.directory.now g.P.Program.means c.deviating_lists_do_not_conform.ensures c.args.index.now.items.items c.args.index.now.order.items store.ordered store.whole t (store.each i t at) c.indication_of.result c.indication_of.ensures)
