use Rattle.std.proofs.Common.{◌∙◌}
use Rattle.log_chain.specs.within.Keeping.{seen}
use Rattle.log_chain.proofs.Finds.{hash_none, hash_some}
use Rattle.log_chain.proofs.secure_history.SecureHistory.hash_at.Goals as goal

pub returns-in_err-place : goal.returns-in_err-place
returns-in_err-place c =
    let has = rw c.deref.ensures.value at c.in_err-place.ensures.has in
    c.from_residual.ensures ∙ rw (← c.self.view_is) (hash_none (seen c.self.inside) c.args.seq has)

pub returns : goal.returns
returns c =
    let has = rw c.deref.ensures.value at c.in_ok-place.ensures.has in
    let stands = rw c.deref.ensures.value at c.in_ok-place.ensures.stands in
    rw (c.hash_before.ensures, ← c.self.view_is) (hash_some (seen c.self.inside) c.args.seq c.in_ok-place.place has c.self.invariant.rising stands)
