use Rattle.std.proofs.Common.{◌≡◌, ◌+◌, ◌<◌, ◌∙◌, [], List, ℕ, ap, arith, below_more, slice_index_or, take, take_all}
use Rattle.std.proofs.lemmas.List.{length-set}
use Rattle.sha2.specs.Sha256.{sha256}
use Rattle.lms_sign.specs.declared.signed.Signed.{Signed}
use Rattle.lms_sign.specs.Parameters.{height}
use Rattle.lms_sign.specs.within.Eights.{hash_above}
use Rattle.lms_sign.proofs.SideBySide.{at_any, no_signed, one_more}
use Rattle.lms_sign.proofs.risings.texts_above.Goals as goal
use Rattle.lms_sign.proofs.risings.texts_above.Goals.{then-k-height, else-k-height}

pub loop-j-preserved : goal.loop-j-preserved
loop-j-preserved c =
    let group = c.args.group.now in
    let k = c.args.k in
    let j = c.loop-j.j in
    let s : Signed = slice_index_or group j no_signed in
    let P : ℕ → List ℕ → Type 0 = λ i t. (d : Signed) → k < height (slice_index_or group i d).key.now.lms_type → sha256 (take 86 t) ≡ hash_above (slice_index_or group i d) (k + 1) in
    elim c.if-k-height.branch [
      | then-k-height w ↦
          let text = w.text_above.result in
          let whole : take 86 text ≡ text = take_all 86 text (omega (arith, w.text_above.ensures.len)) in
          rw w.texts-is (record {
            len = length-set c.loop-j.texts j text ∙ c.loop-j.invariant.len;
            each = one_more P [] c.loop-j.texts j text (omega (arith, c.loop-j.invariant.len)) c.loop-j.invariant.each
                (λ d. at_any (λ x. k < height x.key.now.lms_type → sha256 (take 86 text) ≡ hash_above x (k + 1)) group j d (omega arith) (λ _. ap sha256 whole ∙ w.text_above.ensures.hash));
          })
      | else-k-height w ↦
          rw w.texts-is (record {
            len = c.loop-j.invariant.len;
            each = below_more (λ i. P i (slice_index_or c.loop-j.texts i [])) j c.loop-j.invariant.each
                (λ d. at_any (λ x. k < height x.key.now.lms_type → sha256 (take 86 (slice_index_or c.loop-j.texts j [])) ≡ hash_above x (k + 1)) group j d (omega arith)
                (λ lower. absurd (omega (arith, w.if-k-height.false, c.height.ensures))));
          })
    ]

pub returns : goal.returns
returns c j d lt = c.loop-j.invariant.each j (omega arith) d
