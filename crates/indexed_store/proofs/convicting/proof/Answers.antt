use Rattle.std.proofs.Common.{refl, sym, subst}
use Rattle.std.specs.Prelude.{IsSome, IfSome}
use Rattle.proofs.specs.Convicting.{Convicts}
use Rattle.evidence_set.specs.Indications.{IsExposed}
use Rattle.evidence_set.specs.ItemSets.{set_of}
use Rattle.node_tables.proofs.Meant.{exposed_by, made_convicts, signed_all, unexposed_by}
use Rattle.indexed_store.proofs.convicting.proof.Goals as goal

pub returns-in_default-clause-some : goal.returns-in_default-clause-some
returns-in_default-clause-some g c = let (t, has, own) = c.requires.store.listed c.args.node c.requires.listed in absurd (c.in_default.ensures.none t has own)

pub proof_by-requires : goal.proof_by-requires
proof_by-requires g c =
    let store = c.requires.store in
    rw c.deref.ensures.value (signed_all c.args.directory.now g.P.Program.means c.deviating_lists_do_not_conform.ensures c.args.index.now.items.items c.args.index.now.order.items store.ordered store.whole c.valid_items_are_signed.ensures)

pub returns-in_default-exposure-clause-some : goal.returns-in_default-exposure-clause-some
returns-in_default-exposure-clause-some g c =
    let items = c.args.index.now.items.items in
    let store = c.requires.store in
    let t = c.in-Some.table.now in
    let (i, at, own) = c.in-Some.ensures.some in (
      λ told. absurd cc,
      λ exposed. absurd (unexposed_by c.args.directory.now g.P.Program.means c.deviating_lists_do_not_conform.ensures items c.args.index.now.order.items store.ordered store.whole t (store.each i t at) c.in_default-exposure.is
          (subst (IsExposed c.args.directory.now g.P.Program.means (set_of items)) (sym own) exposed)),
    )

pub returns : goal.returns
returns g c =
    let items = c.args.index.now.items.items in
    let store = c.requires.store in
    let t = c.in-Some.table.now in
    let (i, at, own) = c.in-Some.ensures.some in
    let table = store.each i t at in
    let some = c.in-Some-exposure.is in
    let made = made_convicts c.args.directory.now g.P.Program.means c.deviating_lists_do_not_conform.ensures items c.args.index.now.order.items store.ordered store.whole t table c.valid_items_are_signed.ensures c.in-Some-exposure.exposure some c.in_ok-found.found
    (rw c.deref.ensures.value at c.in_ok-found.ensures) in
    record {
      some = (
        λ told. subst (IsExposed c.args.directory.now g.P.Program.means (set_of items)) own (exposed_by c.args.directory.now g.P.Program.means c.deviating_lists_do_not_conform.ensures items c.args.index.now.order.items store.ordered store.whole t table c.in-Some-exposure.exposure some),
        λ exposed. subst (λ o. IsSome o) (sym made.1) refl,
      );
      convicts = subst (λ o. IfSome o (λ q. Convicts c.args.directory.now g.P.Program.means c.args.node q.parts)) (sym made.1) (subst (λ j. Convicts c.args.directory.now g.P.Program.means j made.0.parts) own made.2);
    }
