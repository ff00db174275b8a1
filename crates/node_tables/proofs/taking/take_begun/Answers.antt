use Rattle.std.proofs.Common.{◌≡◌, sym, subst, ◌∙◌}
use Rattle.std.proofs.lemmas.Option.{same_Some}
use Rattle.node_tables.specs.Hashed.{front_of}
use Rattle.node_tables.specs.within.Named.{AreBothAnswered, beside}
use Rattle.kept_items.specs.declared.link.Link.{Link}
use Rattle.node_tables.proofs.Closed.{none_struck}
use Rattle.node_tables.proofs.taking.take_begun.Goals as goal

pub returns-in-Some-clause-done : goal.returns-in-Some-clause-done
returns-in-Some-clause-done g c = λ b at.
    let same : c.in-Some.link ≡ b = same_Some c.in-Some.link b (sym c.in-Some.is ∙ c.link_at.ensures ∙ at) in
    subst (λ (l : Link). AreBothAnswered c.args.items.now c.args.mark.item (beside c.args.mark.front (front_of l.prev)) c.take_both.new.hashes) same
    (subst (λ o. AreBothAnswered c.args.items.now c.args.mark.item (beside c.args.mark.front o) c.take_both.new.hashes) c.front_of.ensures c.take_both.ensures.done)

pub returns-in_default-clause-struck : goal.returns-in_default-clause-struck
returns-in_default-clause-struck g c = none_struck c.args.items.now c.args.mark.item c.args.places.now.items c.args.hashes.now c.requires.spelled c.requires.lasts c.requires.firsts

pub returns-in_default-clause-done : goal.returns-in_default-clause-done
returns-in_default-clause-done g c = λ b at. let none = c.link_at.ensures in let is = c.in_default.is in absurd (cc (at, none, is))
