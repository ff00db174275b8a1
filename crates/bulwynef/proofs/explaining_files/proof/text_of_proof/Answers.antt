use Rattle.std.proofs.Common.{◌∙◌, ap}
use Rattle.sha2.specs.Sha256.{sha256}
use Rattle.std.proofs.lemmas.Result.{err_from_is_err_and}
use Rattle.commands.proofs.Refused.{proof_own, reading_own}
use Rattle.bulwynef.proofs.explaining_files.proof.text_of_proof.Goals as goal

pub returns : goal.returns
returns g c =
    let (node, convicts, explains) = c.in_ok-told.ensures in
    let basis = c.in_ok-basis.ensures in
    record {
      told = (
        node,
        c.in_ok-proof.proof.parts,
        c.in_ok-basis.basis,
        c.in_ok-proof.ensures.exact,
        convicts,
        record { program = basis.program; directory = basis.directory ∙ ap sha256 c.deref.ensures.value; input = basis.input; evidence = basis.evidence },
        explains,
      );
      own = tt;
    }

pub returns-in_err-proof-clause-own : goal.returns-in_err-proof-clause-own
returns-in_err-proof-clause-own g c =
    let p = err_from_is_err_and c.from_residual.result c.from_residual.ensures.1 in
    rw (p.1, p.2) (reading_own c.in_err-proof.field-0.0)
