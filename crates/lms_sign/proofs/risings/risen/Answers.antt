use Rattle.std.proofs.Common.{◌≡◌, ◌+◌, ◌<◌, ◌∙◌, [], ℕ, ap, arith, min, slice_index_or}
use Rattle.std.proofs.lemmas.List.{length-set}
use Rattle.lms_sign.specs.declared.signed.Signed.{Signed}
use Rattle.lms_sign.specs.Parameters.{height}
use Rattle.lms_sign.specs.within.Eights.{hash_above}
use Rattle.lms_sign.proofs.SideBySide.{at_any, no_signed, one_more}
use Rattle.lms_sign.proofs.risings.risen.Goals as goal
use Rattle.lms_sign.proofs.risings.risen.Goals.{then-goes_on, else-goes_on}

pub loop-j-preserved : goal.loop-j-preserved
loop-j-preserved c =
    let group = c.args.group.now in
    let k = c.args.k in
    let j = c.loop-j.j in
    let low = c.loop-j-test.true in
    let s : Signed = slice_index_or group j no_signed in
    let h : ℕ = height s.key.now.lms_type in
    let hash = c.if-goes_on.risen in
    let here : hash ≡ hash_above s (min (k + 1) h) = elim c.if-goes_on.branch [
      | then-goes_on w ↦
          let lower : k < h = omega (arith, w.if-goes_on.true, c.height.ensures) in
          let level : k + 1 ≡ min (k + 1) h = omega arith in
          w.risen-is ∙ c.eight_digests-digests.ensures j low ∙ c.texts_above.ensures j no_signed low lower ∙ ap (hash_above s) level
      | else-goes_on w ↦
          let level : min k h ≡ min (k + 1) h = omega (arith, w.if-goes_on.false, c.height.ensures) in
          w.risen-is ∙ c.requires.hashes j no_signed low ∙ ap (hash_above s) level
    ] in
    record {
      len = length-set c.loop-j.risen j hash ∙ c.loop-j.invariant.len;
      each = one_more (λ i t. (d : Signed) → t ≡ hash_above (slice_index_or group i d) (min (k + 1) (height (slice_index_or group i d).key.now.lms_type))) [] c.loop-j.risen j hash (omega (arith, c.loop-j.invariant.len)) c.loop-j.invariant.each
          (λ d. at_any (λ x. hash ≡ hash_above x (min (k + 1) (height x.key.now.lms_type))) group j d (omega arith) here);
    }

pub returns : goal.returns
returns c j d lt = c.loop-j.invariant.each j (omega arith) d
