use Rattle.std.proofs.Common.{◌≡◌, ◌+◌, ◌*◌, ◌∙◌, [], ap, arith, slice_index_or, sym, take}
use Rattle.std.proofs.lemmas.List.{length-set}
use Rattle.sha2.specs.Sha256.{sha256}
use Rattle.lms_sign.specs.declared.signed.Signed.{Signed}
use Rattle.lms_sign.specs.Parameters.{chain_count}
use Rattle.lms_sign.specs.within.Eights.{key_of}
use Rattle.lms_sign.proofs.SideBySide.{at_any, no_signed, one_more}
use Rattle.lms_sign.proofs.side_by_side.one_time_keys.Goals as goal

pub loop-j-preserved : goal.loop-j-preserved
loop-j-preserved c =
    let group = c.args.group.now in
    let j = c.loop-j.j in
    let s : Signed = slice_index_or group j no_signed in
    let text = c.put_key.new.out in
    let n = 22 + 32 * chain_count c.args.ots in
    let ots = c.requires.group.1.ots_type j no_signed c.loop-j-test.true in
    let here : sha256 (take n text) ≡ key_of s = ap (λ t. sha256 (take (22 + 32 * chain_count t) text)) (sym ots) ∙ c.put_key.ensures in
    record {
      len = length-set c.loop-j.room j text ∙ c.loop-j.invariant.len;
      each = one_more (λ k t. (d : Signed) → sha256 (take n t) ≡ key_of (slice_index_or group k d)) [] c.loop-j.room j text (omega (arith, c.loop-j.invariant.len)) c.loop-j.invariant.each
          (λ d. at_any (λ x. sha256 (take n text) ≡ key_of x) group j d (omega arith) here);
    }

pub returns : goal.returns
returns c j d lt =
    let n : c.from.result ≡ chain_count c.args.ots = c.from.ensures ∙ c.chain_count.ensures in
    rw n at (c.eight_digests.ensures j lt) ∙ c.loop-j.invariant.each j (omega arith) d
