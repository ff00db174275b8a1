use Rattle.std.proofs.Common.{[], ◌∷◌, arith, refl}
use Rattle.tiered_vec.proofs.Widened.{fits, moves_all, moves_none, moves_one, moves_room, none_left}
use Rattle.tiered_vec.proofs.widening.append.Goals as goal

pub loop-x-init : goal.loop-x-init
loop-x-init g c = moves_none _ _ _ refl c.requires.room

pub insert-requires-clause-room : goal.insert-requires-clause-room
insert-requires-clause-room g c = fits _ _ _ _ (c.in-Some.x ∷ []) _ c.loop-x.invariant c.in-Some.ensures.items

pub loop-x-preserved : goal.loop-x-preserved
loop-x-preserved g c = moves_one _ _ _ _ _ _ _ _ c.loop-x.invariant c.in-Some.ensures.items c.len-end.ensures c.insert.ensures.items c.insert.ensures.room

pub returns-clause-items : goal.returns-clause-items
returns-clause-items g c = moves_all _ _ _ _ c.loop-x.invariant (none_left c.loop-x.left.items (omega (arith, c.loop-x.left.ok, c.in_default.ensures.cases)))

pub returns-clause-room : goal.returns-clause-room
returns-clause-room g c = moves_room _ _ _ _ c.loop-x.invariant (none_left c.loop-x.left.items (omega (arith, c.loop-x.left.ok, c.in_default.ensures.cases)))
