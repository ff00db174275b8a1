use Rattle.std.proofs.Common.{List, subst, sym}
use Rattle.std.specs.Prelude.{◌↔◌, ◌≡◌, ◌⊎◌}
use Rattle.std.specs.List.{Contains}
use Rattle.authenticators.proofs.AscendingLists.{members-insert}
use Rattle.node_tables.specs.declared.naming.Naming.{Naming}
use Rattle.node_tables.specs.Hashed.{StandByPairs}
use Rattle.node_tables.proofs.Namings.{put_stands}
use Rattle.node_tables.proofs.naming.put.Goals as goal

pub returns-clause-order : goal.returns-clause-order
returns-clause-order c = subst StandByPairs (sym c.insert.ensures.items) (put_stands c.args.namings.now.items c.behind-place.result c.args.naming c.requires.order c.behind-place.ensures.inside c.behind-place.ensures.edge)

pub returns-clause-members : goal.returns-clause-members
returns-clause-members c = λ m.
    subst (λ (l : List Naming). Contains l m ↔ (Contains c.args.namings.now.items m ⊎ (m ≡ c.args.naming))) (sym c.insert.ensures.items)
    (members-insert c.args.namings.now.items c.behind-place.result c.args.naming m)
