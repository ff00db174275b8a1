use Rattle.std.proofs.lemmas.Result.{err_from_is_err_and}
use Rattle.commands.specs.Output.{IsFound}
use Rattle.commands.proofs.Refused.{asking_own}
use Rattle.operating.proofs.Steps.{listed}
use Rattle.operating.proofs.prove.ProvingQuestion.answer.Goals as goal

pub returns-in_err-found-clause-own : goal.returns-in_err-found-clause-own
returns-in_err-found-clause-own g c =
    let p = err_from_is_err_and c.from_residual.result c.from_residual.ensures.1 in
    rw (p.1, p.2) (asking_own c.in_err-found.field-0.0)

pub returns-clause-told : goal.returns-clause-told
returns-clause-told g c =
    let s = g.S.Evidence.contents c.args.read.now.store in
    let found : IsFound g.P.Program.means s c.args.self.now.node c.in_ok-found.found = record {
      listed = listed s c.args.self.now.node c.in_ok-found.found c.in_ok-found.ensures.unknown;
      exposed = c.in_ok-found.ensures.some;
      convicts = c.in_ok-found.ensures.convicts;
    } in
    (c.in_ok-found.found, found, c.in_ok-answer.ensures)
