use Rattle.std.proofs.Common.{◌≡◌, ℕ, slice_index_or, subst}
use Rattle.lms_sign.proofs.chain_runs.run_longest_first.Goals as goal

pub returns-clause-ended : goal.returns-clause-ended
returns-clause-ended c i d lt =
    let place = c.sort_chains.ensures.found i d lt in
    subst (λ (x : ℕ × ℕ). (slice_index_or c.run_in_order.new.chains x.1 d).left ≡ 0) place.2 (c.run_in_order.ensures.ended place.0 _ place.1 d)
