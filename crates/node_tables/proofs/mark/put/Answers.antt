use Rattle.std.proofs.Common.{List, subst, sym}
use Rattle.std.specs.Prelude.{◌↔◌, ◌≡◌, ◌⊎◌}
use Rattle.std.specs.List.{Contains}
use Rattle.authenticators.proofs.AscendingLists.{members-insert}
use Rattle.node_tables.specs.declared.mark.Mark.{Mark}
use Rattle.node_tables.specs.Hashed.{DoNotFall}
use Rattle.node_tables.proofs.Marked.{put_rises}
use Rattle.node_tables.proofs.mark.put.Goals as goal

pub returns-clause-order : goal.returns-clause-order
returns-clause-order c = subst DoNotFall (sym c.insert.ensures.items) (put_rises c.args.marks.now.items c.behind-place.result c.args.mark c.requires.order c.behind-place.ensures.inside c.behind-place.ensures.edge)

pub returns-clause-members : goal.returns-clause-members
returns-clause-members c = λ m.
    subst (λ (l : List Mark). Contains l m ↔ (Contains c.args.marks.now.items m ⊎ (m ≡ c.args.mark))) (sym c.insert.ensures.items)
    (members-insert c.args.marks.now.items c.behind-place.result c.args.mark m)
