use Rattle.std.proofs.Common.{◌≡◌, ◌+◌, List, sym, subst, ◌∙◌}
use Rattle.std.specs.Prelude.{Some}
use Rattle.node_tables.specs.declared.mark.Mark.{Mark}
use Rattle.node_tables.specs.Hashed.{AreHolders, link_at}
use Rattle.node_tables.specs.within.Named.{AreLookedAt}
use Rattle.node_tables.proofs.Closed.{closed_more, looked_at}
use Rattle.node_tables.proofs.auditing.take_at.Goals as goal

pub returns-in-Raised-clause-closed : goal.returns-in-Raised-clause-closed
returns-in-Raised-clause-closed g c = λ told.
    let items = c.args.items.now in
    let n = c.args.answer in
    let x = c.in-Some.link in
    let took = c.take_new.ensures.struck in
    let h = c.take_new.new.hashes in
    let here : link_at items n c.args.position ≡ Some x = sym c.link_at.ensures ∙ c.in-Some.is in
    let holders = subst (λ (l : List Mark). AreHolders items c.args.node n (c.args.position + 1) l) (sym took.holders) c.in-Raised.ensures.0 in
    let looked = subst (λ front. AreLookedAt items n front c.in-Raised.entries h) c.front_of-front.ensures c.take_new.ensures.looked in
    closed_more items c.args.node n c.args.position x c.args.places.now.items c.take_new.new.places.items c.args.hashes.now h c.requires.closed here holders took.places.fewer took.lasts took.firsts
    (looked_at items c.args.node n c.args.position x c.args.places.now.items c.take_new.new.places.items c.args.hashes.now h c.requires.closed here holders took.places.fewer took.lasts took.firsts c.in-Raised.entries c.in-Raised.ensures.1 looked)
