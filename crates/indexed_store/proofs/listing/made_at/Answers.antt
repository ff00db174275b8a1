use Rattle.std.proofs.Common.{sym}
use Rattle.indexed_store.proofs.Digested.{made_is}
use Rattle.indexed_store.proofs.listing.made_at.Goals as goal

pub returns-in-Some : goal.returns-in-Some
returns-in-Some g c =
    made_is c.args.digests.now c.args.index.now.items.items c.args.index.now.order.items c.requires.order c.args.n c.in-Some.place.now c.ask.result c.requires.made (sym c.in-Some.ensures) c.ask.ensures
