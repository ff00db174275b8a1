use Rattle.std.proofs.Common.{Contains, List, reverse, sym, subst}
use Rattle.authenticators.specs.declared.authenticator.Authenticator.{Authenticator}
use Rattle.authenticators.specs.StatementSet.{IsAscending}
use Rattle.authenticators.specs.within.Joins.{IsPlaceOf, IsPut}
use Rattle.authenticators.proofs.StatementJoins.{held_ascends, put_held, put_new}
use Rattle.authenticators.proofs.joining.put.Goals.{After-push_reserved}
use Rattle.authenticators.proofs.joining.put.Goals as goal

pub place_of-requires : goal.place_of-requires
place_of-requires c = subst IsAscending (sym c.deref.ensures.value) (held_ascends c.args.held.now.items (reverse c.args.moved.now.items) c.requires.ascending)

pub returns-in_default-clause-put : goal.returns-in_default-clause-put
returns-in_default-clause-put c =
    let there = subst (λ (l : List Authenticator). Contains l c.args.statement) c.deref.ensures.value c.in_default.ensures.there in
    put_held c.args.held.now.items c.args.moved.now.items c.args.statement c.requires.ascending c.requires.below there

-- the statement was put in its place
new : (c : After-push_reserved) → IsPut c.args.held.now.items c.args.moved.now.items c.args.statement c.move_from.new.held.items c.push_reserved.new.self.items
new c =
    let place = subst (λ (l : List Authenticator). IsPlaceOf c.args.statement l c.in-Err.place) c.deref.ensures.value c.in-Err.ensures.place in
    put_new c.args.held.now.items c.args.moved.now.items c.args.statement c.in-Err.place _ _ _ c.requires.ascending c.requires.below place c.move_from.ensures.held c.move_from.ensures.moved c.push_reserved.ensures.items

pub returns-clause-put : goal.returns-clause-put
returns-clause-put c = new c
