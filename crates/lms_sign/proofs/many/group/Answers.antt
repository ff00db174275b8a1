use Rattle.std.proofs.Common.{◌≡◌, ◌≢◌, ◌∙◌, arith, refl, slice_index_or}
use Rattle.std.proofs.lemmas.List.{get_or_default, get_or-set_other, length-set}
use Rattle.lms_sign.specs.declared.signed.Signed.{Signed}
use Rattle.lms_sign.proofs.SideBySide.{no_signed, one_more}
use Rattle.lms_sign.proofs.many.group.Goals as goal

pub loop-j-preserved : goal.loop-j-preserved
loop-j-preserved c =
    let group = c.loop-j.group in
    let signed = c.args.signed.now in
    let j = c.loop-j.j in
    let s : Signed = slice_index_or signed j no_signed in
    record {
      len = length-set group j s ∙ c.loop-j.invariant.len;
      own = one_more (λ k x. x ≡ slice_index_or signed k no_signed) no_signed group j s (omega (arith, c.loop-j.invariant.len, c.min-j-end.ensures)) c.loop-j.invariant.own refl;
      others = λ k low le. let other : k ≢ j = omega arith in get_or-set_other group j k s no_signed other ∙ c.loop-j.invariant.others k low (omega arith);
    }

pub returns-clause-own : goal.returns-clause-own
returns-clause-own c j d low less =
    get_or_default c.loop-j.group j d no_signed (omega (arith, c.loop-j.invariant.len))
    ∙ c.loop-j.invariant.own j (omega (arith, c.min-j-end.ensures))
    ∙ get_or_default c.args.signed.now j no_signed d (omega arith)

pub returns-clause-others : goal.returns-clause-others
returns-clause-others c j d low le =
    get_or_default c.loop-j.group j d no_signed (omega (arith, c.loop-j.invariant.len))
    ∙ c.loop-j.invariant.others j low (omega (arith, c.min-j-end.ensures))
    ∙ get_or_default c.args.signed.now 0 no_signed d (omega arith)
