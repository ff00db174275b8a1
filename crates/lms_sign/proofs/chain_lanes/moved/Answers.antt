use Rattle.std.proofs.Common.{◌≡◌, ℕ, ◌+◌, ◌-◌, [], slice_index_or, arith, sym, ap, subst, ◌∙◌}
use Rattle.std.proofs.lemmas.List.{get_or_default, length-set}
use Rattle.lms_sign.specs.declared.open_chain.OpenChain.{OpenChain}
use Rattle.sha256_lanes.specs.HashChain.{chain}
use Rattle.lms_sign.specs.within.OpenChains.{IsAhead}
use Rattle.lms_sign.proofs.OpenChains.{after_set, steps_ahead}
use Rattle.lms_sign.proofs.chain_lanes.moved.Goals as goal

pub steps-requires : goal.steps-requires
steps-requires c l d lt = omega (arith, c.requires.some, c.requires.room l d lt, c.requires.count l d lt)

pub eight_chains-after-requires : goal.eight_chains-after-requires
eight_chains-after-requires c j lt =
    let none : OpenChain = record { place = []; step = 0; left = 0; value = [] } in
    omega (arith, c.steps.ensures j none lt, c.requires.room j none lt, c.requires.count j none lt)

pub loop-l-preserved : goal.loop-l-preserved
loop-l-preserved c =
    let none : OpenChain = record { place = []; step = 0; left = 0; value = [] } in
    let runs = c.args.runs.now in
    let n = c.args.count in
    let m = c.loop-l.l in
    let low = c.loop-l-test.true in
    let run : OpenChain = slice_index_or runs m none in
    let next : OpenChain = record { place = run.place; step = run.step + c.from.result; left = run.left - n; value = slice_index_or c.eight_chains-after.result m [] } in
    let value : slice_index_or c.eight_chains-after.result m [] ≡ chain run.place run.step n run.value =
    rw (c.places.ensures m none low, c.steps.ensures m none low, c.values.ensures m none low) at (c.eight_chains-after.ensures m low) in
    let same_count : n ≡ c.from.result = omega (arith, c.from.ensures) in
    let here = subst (λ (t : ℕ). IsAhead run (record { place = run.place; step = run.step + t; left = run.left - n; value = slice_index_or c.eight_chains-after.result m [] })) same_count
    (steps_ahead n run (slice_index_or c.eight_chains-after.result m []) (c.requires.count m none low) value) in
    let any = λ (d : OpenChain). get_or_default runs m none d (omega arith) in
    record {
      len = length-set c.loop-l.moved m _ ∙ c.loop-l.invariant.len;
      ahead = λ k d lt. after_set (λ x. IsAhead (slice_index_or runs k d) x) c.loop-l.moved m k next d (omega (arith, c.loop-l.invariant.len))
          (λ same. subst (λ t. IsAhead (slice_index_or runs t d) next) (sym same) (subst (λ r. IsAhead r next) (any d) here))
          (λ other. c.loop-l.invariant.ahead k d (omega (arith, other)));
      left = λ k d lt. after_set (λ x. x.left ≡ (slice_index_or runs k d).left - n) c.loop-l.moved m k next d (omega (arith, c.loop-l.invariant.len))
          (λ same. subst (λ t. run.left - n ≡ (slice_index_or runs t d).left - n) (sym same) (ap (λ (r : OpenChain). r.left - n) (any d)))
          (λ other. c.loop-l.invariant.left k d (omega (arith, other)));
    }
