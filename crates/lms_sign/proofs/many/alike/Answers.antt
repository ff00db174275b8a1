use Rattle.std.proofs.Common.{arith, below_more, refl, slice_index_or, subst}
use Rattle.std.proofs.lemmas.List.{get_or_default}
use Rattle.lms_sign.specs.declared.signed.Signed.{Signed}
use Rattle.lms_sign.specs.within.Eights.{IsLike}
use Rattle.lms_sign.proofs.SideBySide.{no_signed}
use Rattle.lms_sign.proofs.many.alike.Goals as goal

pub loop-j-preserved : goal.loop-j-preserved
loop-j-preserved c =
    let signed = c.args.signed.now in
    let j = c.loop-j.j in
    let here : IsLike (slice_index_or signed 0 no_signed) (slice_index_or signed j no_signed) = c.if-not-is_like.ensures.0 refl in
    below_more (λ k. (d : Signed) → IsLike (slice_index_or signed 0 d) (slice_index_or signed k d)) j c.loop-j.invariant
    (λ d. subst (λ f. IsLike f (slice_index_or signed j d)) (get_or_default signed 0 no_signed d (omega (arith, c.min-j-end.ensures)))
    (subst (λ x. IsLike (slice_index_or signed 0 no_signed) x) (get_or_default signed j no_signed d (omega (arith, c.min-j-end.ensures))) here))
