use Rattle.std.proofs.Common.{subst}
use Rattle.std.proofs.lemmas.Result.{err_from_is_err_and}
use Rattle.std.specs.Prelude.{List, ℕ}
use Rattle.outcome.specs.Outcome.{Fails}
use Rattle.journal.specs.Journal.{texts_of}
use Rattle.node_journals.specs.declared.fault.RebuildFault.TheVariants.{Memory}
use Rattle.node_journals.specs.Rebuilding.{replayed}
use Rattle.node_journals.proofs.Rebuilt.{not_rebuilt}
use Rattle.node_journals.proofs.rebuilding.rebuild.Goals as goal

pub returns-in_err-replay-clause-exact : goal.returns-in_err-replay-clause-exact
returns-in_err-replay-clause-exact g c =
    let p = err_from_is_err_and c.from_residual-in_err-replay.result c.from_residual-in_err-replay.ensures.1 in
    let e = c.in_err-replay.field-0.0 in
    let fails = subst (λ (texts : List (List ℕ)). Fails Memory e (replayed g.P.Program.means c.args.secrets.now c.in_ok-node.node texts)) c.behind_first.ensures c.in_err-replay.ensures.refused in
    rw (p.1, p.2) (not_rebuilt (record { program = g.P.Program.means; name = c.args.name.now; directory = c.args.directory; secrets = c.args.secrets.now }) (texts_of c.args.texts.now)
    c.in_ok-beginning.beginning c.in_ok-node.node e c.in_ok-beginning.ensures.gives c.in_ok-node.ensures fails)
