use Rattle.std.proofs.Common.{◌≡◌, ◌∙◌, arith, false, slice_index_or}
use Rattle.std.proofs.lemmas.List.{length-set}
use Rattle.lms_sign.specs.declared.signed.Signed.{Signed}
use Rattle.lms_sign.specs.SignedMessages.{is_signed}
use Rattle.lms_sign.proofs.SideBySide.{at_any, formed_signed, no_signed, one_more}
use Rattle.lms_sign.proofs.many.have_roots.Goals as goal

pub loop-j-preserved : goal.loop-j-preserved
loop-j-preserved c =
    let group = c.args.group.now in
    let j = c.loop-j.j in
    let low = c.loop-j-test.true in
    let s : Signed = slice_index_or group j no_signed in
    let answer = c.is_same_hash.result in
    let here : answer ≡ is_signed s = formed_signed s answer (c.requires.group.1.1.form j no_signed low) (rw (c.requires.roots j no_signed low) at c.is_same_hash.ensures) in
    record {
      len = length-set c.loop-j.answers j answer ∙ c.loop-j.invariant.len;
      each = one_more (λ k a. (d : Signed) → a ≡ is_signed (slice_index_or group k d)) false c.loop-j.answers j answer (omega (arith, c.loop-j.invariant.len)) c.loop-j.invariant.each
          (λ d. at_any (λ x. answer ≡ is_signed x) group j d (omega arith) here);
    }

pub returns : goal.returns
returns c j d lt = c.loop-j.invariant.each j (omega arith) d
