use Rattle.std.proofs.Common.{Option, ap, refl, subst, sym, ◌∙◌}
use Rattle.std.specs.Prelude.{OnOk}
use Rattle.std.specs.Option.{option_map}
use Rattle.authenticators.specs.declared.authenticator.Authenticator.{Authenticator}
use Rattle.kept_items.specs.Positions.{shown}
use Rattle.node_tables.specs.Rooms.{Promises}
use Rattle.node_tables.specs.Steps.{EachBecomes}
use Rattle.node_tables.specs.within.Bringing.{one_of}
use Rattle.node_tables.specs.within.Promising.{nothing, one_at}
use Rattle.node_tables.proofs.Reserved.{promises_still}
use Rattle.node_tables.proofs.reserving.promise_at.Goals as goal

pub returns-in-None-clause-ok : goal.returns-in-None-clause-ok
returns-in-None-clause-ok g c = λ i t at. (t, at, promises_still (one_at c.args.kept.now c.args.position) nothing t (ap (one_of t.node) (sym c.statement.ensures ∙ ap (option_map shown) c.in-None.is)) refl)

pub returns-in-Some-clause-ok : goal.returns-in-Some-clause-ok
returns-in-Some-clause-ok g c =
    let is = sym c.statement.ensures ∙ ap (option_map shown) c.in-Some.is in
    subst (λ (o : Option Authenticator). OnOk c.promise.result (EachBecomes (Promises (λ i. one_of i o) nothing) c.args.tables.now c.promise.new.tables)) (sym is) c.promise.ensures.ok
