use Rattle.std.proofs.Common.{ap, ◌∙◌, List, subst}
use Rattle.authenticators.specs.Directory.{Listing}
use Rattle.evidence_set.specs.ItemSets.{insert_all}
use Rattle.evidence.specs.Contents.{with_items}
use Rattle.item_forms.specs.Pieces.{Piece}
use Rattle.parallel_checking.specs.Checks.{AreAnswers}
use Rattle.durable_store.proofs.checking.take_items.Goals as goal

pub take_each-requires-clause-checked : goal.take_each-requires-clause-checked
take_each-requires-clause-checked g c =
    let answers = subst (λ (ds : Listing). AreAnswers ds g.P.Program.means c.args.items.now c.in-Ok.answers.items) c.directory.ensures.kept c.in-Ok.ensures.answers in
    (c.in_ok-valid.ensures.valid (g.S.Evidence.contents c.args.store.now).directory c.args.items.now answers).1

pub returns-clause-taken : goal.returns-clause-taken
returns-clause-taken g c =
    let answers = subst (λ (ds : Listing). AreAnswers ds g.P.Program.means c.args.items.now c.in-Ok.answers.items) c.directory.ensures.kept c.in-Ok.ensures.answers in
    let same = (c.in_ok-valid.ensures.valid (g.S.Evidence.contents c.args.store.now).directory c.args.items.now answers).0 in
    let old = g.S.Evidence.contents c.args.store.now in
    c.in_ok-take_each.ensures.taken ∙ ap (λ (l : List Piece). with_items old (insert_all old.items l)) same
