use Rattle.std.proofs.Common.{ℕ, [], ◌+◌, ◌*◌, ◌<◌, length, slice_index, slice_index_or, arith, ap, ◌∙◌}
use Rattle.lms_sign.specs.declared.open_chain.OpenChain.{OpenChain}
use Rattle.lms_sign.specs.Parameters.{chain_count}
use Rattle.lms_sign.specs.within.OpenChains.{leads_to}
use Rattle.lms_sign.proofs.SeedChains.{restarted_at, stands_below}
use Rattle.lms_sign.proofs.seed_chains.OneTimeKeys.write_chain_values.Goals as goal

pub returns-clause-each : goal.returns-clause-each
returns-clause-each c j i lt low =
    let none : OpenChain = record { place = []; step = 0; left = 0; value = [] } in
    let k : ℕ = j * chain_count c.args.self.now.ots_type + i in
    let below : j * chain_count c.args.self.now.ots_type + i < length c.args.steps.now = omega (arith, stands_below j i c.args.leaves (chain_count c.args.self.now.ots_type) lt low, c.requires.steps) in
    let opened : j * chain_count c.args.self.now.ots_type + i < length c.open_chains.new.chains = omega (arith, below, c.open_chains.ensures.len) in
    let run : j * chain_count c.args.self.now.ots_type + i < length c.run_all.new.chains = omega (arith, opened, c.run_all.ensures.len) in
    let restarted : j * chain_count c.args.self.now.ots_type + i < length c.restart.new.chains = omega (arith, run, c.restart.ensures.len) in
    let ended : j * chain_count c.args.self.now.ots_type + i < length c.run_all-2.new.chains = omega (arith, restarted, c.run_all-2.ensures.len) in
    c.write_values.ensures.each k none ended
    ∙ c.run_all-2.ensures.values k none restarted
    ∙ ap leads_to (c.restart.ensures.each k none run)
    ∙ restarted_at c.args.self.now.id c.args.self.now.seed (c.args.q + j) i (slice_index c.args.steps.now k) (slice_index_or c.open_chains.new.chains k none) (slice_index_or c.run_all.new.chains k none)
    (c.open_chains.ensures.each j i none lt low) (c.run_all.ensures.places k none opened) (c.run_all.ensures.values k none opened)
