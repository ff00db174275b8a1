use Rattle.std.proofs.Common.{◌≡◌, List, Vec, ℕ, subst, take}
use Rattle.std.specs.declared.alloc.Global.{Global}
use Rattle.std.proofs.lemmas.List.{take_all}
use Rattle.std.proofs.lemmas.Result.{err_from_is_err_and}
use Rattle.journal.specs.Journal.{texts_of}
use Rattle.node_journals.specs.within.Replaying.{HasReplayed}
use Rattle.node_journals.proofs.Replaying.{all_replayed, none_replayed, not_replayed, one_replayed}
use Rattle.node_journals.proofs.rebuilding.replay.Goals as goal

pub loop-text-init : goal.loop-text-init
loop-text-init g c = none_replayed g.P.Program.means c.args.secrets.now c.args.node.now

pub loop-text-preserved : goal.loop-text-preserved
loop-text-preserved g c =
    let x = c.in_ok-replay_one.ensures.given in
    one_replayed g.P.Program.means c.args.secrets.now c.runs_only_add.ensures c.args.texts.now c.loop-text.text-index c.text-item.result c.deref.result.now
    c.args.node.now c.loop-text.node c.replay_one.new.node x.0 c.loop-text-test.true c.text-item.is c.deref.ensures.value c.loop-text.invariant x.1 x.2

pub returns-clause-given : goal.returns-clause-given
returns-clause-given g c =
    let whole : take c.loop-text.text-index c.args.texts.now ≡ c.args.texts.now = take_all c.loop-text.text-index c.args.texts.now c.loop-text-test.false in
    let all = subst (λ (vectors : List (Vec ℕ Global)). HasReplayed g.P.Program.means c.args.secrets.now (texts_of vectors) c.args.node.now c.loop-text.node) whole c.loop-text.invariant in
    all_replayed g.P.Program.means c.args.secrets.now (texts_of c.args.texts.now) c.args.node.now c.loop-text.node all

pub returns-in_err-replay_one-clause-refused : goal.returns-in_err-replay_one-clause-refused
returns-in_err-replay_one-clause-refused g c =
    let p = err_from_is_err_and c.from_residual.result c.from_residual.ensures.1 in
    rw (p.1, p.2) (not_replayed g.P.Program.means c.args.secrets.now c.args.texts.now c.loop-text.text-index c.text-item.result c.deref.result.now c.args.node.now c.loop-text.node
    c.in_err-replay_one.field-0.0 c.loop-text-test.true c.text-item.is c.deref.ensures.value c.loop-text.invariant c.in_err-replay_one.ensures.refused)
