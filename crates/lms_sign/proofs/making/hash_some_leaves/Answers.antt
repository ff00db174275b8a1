use Rattle.std.proofs.Common.{◌≡◌, ◌≢◌, ℕ, ◌+◌, ◌-◌, ◌*◌, ◌^◌, ◌<◌, ◌≤◌, [], arith, inl, inr, ap, length-set, get_or-set_other, get_or-set_same, ◌∙◌}
use Rattle.std.proofs.lemmas.Bool.{cases_lt}
use Rattle.lms_sign.specs.MerkleTree.{leaf_hash}
use Rattle.lms_sign.specs.Parameters.{chain_count, width}
use Rattle.lms_sign.specs.Signing.{chain_at, one_time_key}
use Rattle.lms_sign.proofs.SeedChains.{same_steps, stands_below}
use Rattle.lms_sign.proofs.making.hash_some_leaves.Goals as goal

pub loop-j-preserved : goal.loop-j-preserved
loop-j-preserved c =
    let ots = c.args.keys.now.ots_type in
    let id = c.args.keys.now.id in
    let seed = c.args.keys.now.seed in
    let j = c.loop-j.j in
    let nodes = c.loop-j.nodes in
    let node : ℕ = c.args.leaves + (c.args.q + j) in
    let hash = c.leaf_hash.result in
    let chains : c.from-chains.result ≡ chain_count c.args.keys.now.ots_type = omega (arith, c.from-chains.ensures, c.chain_count.ensures) in
    let most : c.args.count * c.from-chains.result ≤ 272 = rw chains c.requires.most in
    let key : c.key_of_ends-key.result ≡ one_time_key c.args.keys.now.ots_type c.args.keys.now.id c.args.keys.now.seed (c.args.q + c.loop-j.j) =
    c.key_of_ends-key.ensures (λ i. chain_at id seed (c.args.q + j) i (2 ^ width ots - 1)) (λ i low.
    let below : j * chain_count c.args.keys.now.ots_type + i < c.args.count * c.from-chains.result = rw chains (stands_below j i c.args.count (chain_count c.args.keys.now.ots_type) c.loop-j-test.true low) in
    rw chains (c.write_chain_values.ensures.each j i c.loop-j-test.true low
    ∙ ap (chain_at id seed (c.args.q + j) i) (same_steps c.last_step-steps.result (j * chain_count c.args.keys.now.ots_type + i) (c.args.count * c.from-chains.result) 272 most below ∙ c.last_step-steps.ensures))) in
    record {
      len = length-set nodes node hash ∙ c.loop-j.invariant.len;
      before = λ r lt. let other : r ≢ node = omega arith in get_or-set_other nodes node r hash [] other ∙ c.loop-j.invariant.before r lt;
      each = λ k lt. elim (cases_lt k j) [
        | inl less ↦ let other : c.args.leaves + (c.args.q + k) ≢ node = omega arith in get_or-set_other nodes node (c.args.leaves + (c.args.q + k)) hash [] other ∙ c.loop-j.invariant.each k less
        | inr most ↦
            let same : k ≡ j = omega arith in
            rw same (get_or-set_same nodes node hash [] (omega (arith, c.loop-j.invariant.len)) ∙ c.leaf_hash.ensures ∙ ap (leaf_hash id node) key)
      ];
    }
