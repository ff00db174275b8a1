use Rattle.std.proofs.Common.{List, subst, sym}
use Rattle.std.specs.Prelude.{◌≡◌, ◌⊎◌, slice_index_or}
use Rattle.std.specs.List.{Contains}
use Rattle.node_tables.specs.declared.naming.Naming.{Naming}
use Rattle.node_tables.specs.Hashed.{StandByPairs}
use Rattle.node_tables.proofs.Marked.{removed_fewer, removed_others}
use Rattle.node_tables.proofs.Namings.{removed_stand}
use Rattle.node_tables.proofs.naming.take_away.Goals as goal

pub returns-clause-order : goal.returns-clause-order
returns-clause-order c = subst StandByPairs (sym c.remove.ensures.items) (removed_stand c.args.namings.now.items c.args.place c.requires.inside c.requires.order)

pub returns-clause-fewer : goal.returns-clause-fewer
returns-clause-fewer c = λ m has. removed_fewer c.args.namings.now.items c.args.place c.requires.inside m (subst (λ (l : List Naming). Contains l m) c.remove.ensures.items has)

pub returns-clause-others : goal.returns-clause-others
returns-clause-others c = λ m d has.
    subst (λ (l : List Naming). Contains l m ⊎ (m ≡ slice_index_or c.args.namings.now.items c.args.place d)) (sym c.remove.ensures.items)
    (removed_others c.args.namings.now.items c.args.place c.requires.inside m d has)
