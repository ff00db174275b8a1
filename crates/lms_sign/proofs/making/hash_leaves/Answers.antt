use Rattle.std.proofs.Common.{◌≡◌, ◌+◌, ◌-◌, arith, inl, inr, ◌∙◌}
use Rattle.std.proofs.lemmas.Bool.{cases_lt}
use Rattle.lms_sign.proofs.making.hash_leaves.Goals as goal

pub loop-q-preserved : goal.loop-q-preserved
loop-q-preserved c =
    let q = c.loop-q.q in
    record {
      within = omega (arith, c.min-count.ensures);
      len = c.hash_some_leaves.ensures.len;
      each = λ k lt. elim (cases_lt k q) [
        | inl less ↦ c.hash_some_leaves.ensures.before (c.args.leaves + k) (omega arith) ∙ c.loop-q.invariant.each k less
        | inr most ↦
            let is : c.loop-q.q + (k - c.loop-q.q) ≡ k = omega arith in
            rw is at (c.hash_some_leaves.ensures.each (k - c.loop-q.q) (omega arith))
      ];
    }
