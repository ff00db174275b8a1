use Rattle.std.proofs.Common.{◌+◌, ◌*◌, arith, refl, sym, subst, ◌∙◌}
use Rattle.std.proofs.lemmas.Nat.{div-mul-add, mod-mul-add}
use Rattle.lms_sign.specs.Parameters.{chain_count}
use Rattle.lms_sign.specs.within.OpenChains.{HasRoom}
use Rattle.lms_sign.proofs.SeedChains.{stands_below}
use Rattle.lms_sign.proofs.seed_chains.OneTimeKeys.open_chains.Goals as goal

pub returns-clause-room : goal.returns-clause-room
returns-clause-room c k d lt = subst HasRoom (sym (c.loop-k.invariant.1 k d (omega (arith, c.loop-k.invariant.0, c.loop-k-test.false)))) (omega arith)

pub returns-clause-each : goal.returns-clause-each
returns-clause-each c j i d lt low =
    let below = stands_below j i c.args.leaves (chain_count c.args.self.now.ots_type) lt low in
    c.loop-k.invariant.1 (j * chain_count c.args.self.now.ots_type + i) d (omega (arith, below, c.requires.len, c.loop-k.invariant.0, c.loop-k-test.false))
    ∙ rw (div-mul-add j (chain_count c.args.self.now.ots_type) i low, mod-mul-add j (chain_count c.args.self.now.ots_type) i low) refl
