use Rattle.std.proofs.Common.{get_or, ap, ◌∙◌, ⊎_elim}
use Rattle.std.specs.Prelude.{◌≡◌}
use Rattle.node_tables.specs.declared.naming.Naming.{Naming}
use Rattle.node_tables.proofs.Namings.{same_item}
use Rattle.node_tables.proofs.naming.unname.Goals as goal

pub returns-clause-others : goal.returns-clause-others
returns-clause-others c = λ m has other. ⊎_elim
    (λ still. still)
    (λ (same : m ≡ get_or c.args.namings.now.items c.in-Ok.place m). absurd (other (ap (λ (k : Naming). k.item) same ∙ same_item (get_or c.args.namings.now.items c.in-Ok.place m) c.args.naming (c.in-Ok.ensures.position m))))
    (c.take_away.ensures.others m m has)
