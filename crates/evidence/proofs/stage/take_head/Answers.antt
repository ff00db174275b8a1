use Rattle.std.proofs.Common.{◌≡◌, ◌++◌, List, ℕ, Result, ap, subst, sym, ◌∙◌, arith}
use Rattle.std.specs.Prelude.{IfOk}
use Rattle.containers.specs.declared.fault.ImportFault.{ImportFault}
use Rattle.evidence.specs.within.Stages.{IsBegun, IsOpen, fed_of}
use Rattle.evidence.specs.Importing.{fed_by}
use Rattle.evidence.proofs.Importing.{begun_alike, begun_joined}
use Rattle.evidence.proofs.stage.take_head.Goals as goal

pub fill-rest-requires : goal.fill-rest-requires
fill-rest-requires g c = subst IsOpen c.in-Head.is c.requires

pub returns-then-len-eq8-clause-stage : goal.returns-then-len-eq8-clause-stage
returns-then-len-eq8-clause-stage g c = λ ds is. c.begun.ensures.stage ds

pub returns-then-len-eq8-clause-alike : goal.returns-then-len-eq8-clause-alike
returns-then-len-eq8-clause-alike g c = λ ds is reads.
    let begun : IsBegun c.fill-rest.new.head.items c.begun.result = subst (λ (t : List ℕ). IsBegun t c.begun.result) c.as_slice.ensures.value c.begun.ensures.behind in
    ap (fed_by reads c.args.piece.now) (ap fed_of c.in-Head.is)
    ∙ begun_alike c.in-Head.head.items c.args.piece.now c.fill-rest.new.head.items c.fill-rest.result.now (omega (arith, c.if-len-eq8.true)) c.fill-rest.ensures.moved c.begun.result reads begun

pub returns-then-len-eq8-clause-joined : goal.returns-then-len-eq8-clause-joined
returns-then-len-eq8-clause-joined g c =
    let begun : IsBegun c.fill-rest.new.head.items c.begun.result = subst (λ (t : List ℕ). IsBegun t c.begun.result) c.as_slice.ensures.value c.begun.ensures.behind in
    subst (λ (x : Result (List ℕ) ImportFault). IfOk x (λ (text : List ℕ). IfOk (fed_of c.begun.result) (λ (more : List ℕ). more ++ c.fill-rest.result.now ≡ text ++ c.args.piece.now))) (sym (ap fed_of c.in-Head.is))
    (begun_joined c.in-Head.head.items c.args.piece.now c.fill-rest.new.head.items c.fill-rest.result.now (omega (arith, c.if-len-eq8.true)) c.fill-rest.ensures.moved c.begun.result begun)
