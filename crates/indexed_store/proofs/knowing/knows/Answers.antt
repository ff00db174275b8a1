use Rattle.std.proofs.Common.{subst}
use Rattle.std.specs.Prelude.{◌↔◌, IsTrue}
use Rattle.evidence_set.specs.ItemSets.{set_of}
use Rattle.localities.specs.Known.{IsKnown}
use Rattle.indexed_store.proofs.Known.{any_is_known}
use Rattle.indexed_store.proofs.Listed.{all_valid}
use Rattle.indexed_store.proofs.knowing.knows.Goals as goal

pub returns-in-None : goal.returns-in-None
returns-in-None g c = (
  λ h. absurd cc,
  λ known.
      let ds = c.args.directory.now in
      let items = c.args.index.now.items.items in
      let listed = c.known_as_expected.ensures.of_listed ds (set_of items) c.args.node (all_valid ds g.P.Program.means items c.requires.whole) known in
      let (t, has, own) = c.requires.listed c.args.node listed in
      absurd (c.in-None.ensures.none t has own),
)

pub returns-in-Some : goal.returns-in-Some
returns-in-Some g c =
    let store = c.requires in
    let t = c.in-Some.table.now in
    let (i, at, own) = c.in-Some.ensures.some in
    subst (λ j. IsTrue c.has_any.result ↔ IsKnown c.args.directory.now (set_of c.args.index.now.items.items) j) own
    (any_is_known c.args.directory.now g.P.Program.means c.deviating_lists_do_not_conform.ensures c.known_as_expected.ensures c.args.index.now.items.items c.args.index.now.order.items store.ordered store.whole t (store.each i t at) c.has_any.result c.has_any.ensures)
