use Rattle.std.proofs.Common.{◌≡◌, ◌+◌, ◌∙◌, [], arith, length, slice_index_or, take}
use Rattle.std.proofs.lemmas.List.{length-set}
use Rattle.sha2.specs.Sha256.{sha256}
use Rattle.lms_sign.specs.declared.signed.Signed.{Signed}
use Rattle.lms_sign.specs.within.Eights.{digest_of}
use Rattle.lms_sign.proofs.SideBySide.{at_any, no_signed, one_more}
use Rattle.lms_sign.proofs.side_by_side.message_digests.Goals as goal

pub loop-j-preserved : goal.loop-j-preserved
loop-j-preserved c =
    let group = c.args.group.now in
    let j = c.loop-j.j in
    let s : Signed = slice_index_or group j no_signed in
    let text = c.put_message.new.out in
    let n : length s.message.now ≡ c.args.len = c.requires.group.1.len j no_signed c.loop-j-test.true in
    let here : sha256 (take (54 + c.args.len) text) ≡ digest_of s = rw n at c.put_message.ensures in
    record {
      len = length-set c.loop-j.room j text ∙ c.loop-j.invariant.len;
      each = one_more (λ k t. (d : Signed) → sha256 (take (54 + c.args.len) t) ≡ digest_of (slice_index_or group k d)) [] c.loop-j.room j text (omega (arith, c.loop-j.invariant.len)) c.loop-j.invariant.each
          (λ d. at_any (λ x. sha256 (take (54 + c.args.len) text) ≡ digest_of x) group j d (omega arith) here);
    }

pub returns : goal.returns
returns c j d lt = c.eight_digests.ensures j lt ∙ c.loop-j.invariant.each j (omega arith) d
