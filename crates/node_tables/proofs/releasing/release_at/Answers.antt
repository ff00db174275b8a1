use Rattle.std.proofs.Common.{Option, ap, refl, subst, sym, ◌∙◌}
use Rattle.std.specs.Option.{option_map}
use Rattle.authenticators.specs.declared.authenticator.Authenticator.{Authenticator}
use Rattle.kept_items.specs.Positions.{shown}
use Rattle.node_tables.specs.Rooms.{TakesBack}
use Rattle.node_tables.specs.Steps.{EachBecomes}
use Rattle.node_tables.specs.within.Bringing.{one_of}
use Rattle.node_tables.specs.within.Promising.{nothing, one_at}
use Rattle.node_tables.proofs.Reserved.{back_still}
use Rattle.node_tables.proofs.releasing.release_at.Goals as goal

pub returns-in_default : goal.returns-in_default
returns-in_default g c = λ i t at. (t, at, back_still (one_at c.args.kept.now c.args.position) nothing t (ap (one_of t.node) (sym c.statement.ensures ∙ ap (option_map shown) c.in_default.is)) refl)

pub returns-in-Some : goal.returns-in-Some
returns-in-Some g c =
    let is = sym c.statement.ensures ∙ ap (option_map shown) c.in-Some.is in
    subst (λ (o : Option Authenticator). EachBecomes (TakesBack (λ i. one_of i o) nothing) c.args.tables.now c.release.new.tables) (sym is) c.release.ensures
