use Rattle.std.proofs.Common.{sym}
use Rattle.indexed_store.proofs.Listed.{at_this}
use Rattle.indexed_store.proofs.listing.lend_at.Goals as goal

pub returns-in_default : goal.returns-in_default
returns-in_default g c = λ place at. absurd (cc (c.in_default.ensures, at))

pub returns : goal.returns
returns g c = at_this c.lend.result c.in-Some.place.now c.args.index.now.order.items c.args.n _ (sym c.in-Some.ensures) (rw c.deref.ensures.value at c.lend.ensures)
