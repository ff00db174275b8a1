use Rattle.std.proofs.Common.{◌≡◌, ◌∙◌, [], ap, arith, slice_index_or, take, take_all}
use Rattle.std.proofs.lemmas.List.{length-set}
use Rattle.sha2.specs.Sha256.{sha256}
use Rattle.lms_sign.specs.declared.signed.Signed.{Signed}
use Rattle.lms_sign.specs.within.Eights.{hash_above}
use Rattle.lms_sign.proofs.SideBySide.{at_any, leaf_above, no_signed, one_more}
use Rattle.lms_sign.proofs.risings.leaf_hashes.Goals as goal

pub loop-j-preserved : goal.loop-j-preserved
loop-j-preserved c =
    let group = c.args.group.now in
    let j = c.loop-j.j in
    let s : Signed = slice_index_or group j no_signed in
    let text = c.leaf_text.result in
    let whole : take 54 text ≡ text = take_all 54 text (omega (arith, c.leaf_text.ensures.len)) in
    let here : sha256 (take 54 text) ≡ hash_above s 0 =
    ap sha256 whole ∙ c.leaf_text.ensures.hash ∙ rw (c.node_of.ensures.value, c.requires.keys j no_signed c.loop-j-test.true) (leaf_above s) in
    record {
      len = length-set c.loop-j.texts j text ∙ c.loop-j.invariant.len;
      each = one_more (λ k t. (d : Signed) → sha256 (take 54 t) ≡ hash_above (slice_index_or group k d) 0) [] c.loop-j.texts j text (omega (arith, c.loop-j.invariant.len)) c.loop-j.invariant.each
          (λ d. at_any (λ x. sha256 (take 54 text) ≡ hash_above x 0) group j d (omega arith) here);
    }

pub returns : goal.returns
returns c j d lt = c.eight_digests.ensures j lt ∙ c.loop-j.invariant.each j (omega arith) d
