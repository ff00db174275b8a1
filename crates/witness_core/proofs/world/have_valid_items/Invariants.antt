use Rattle.std.proofs.Common.{All, take}
use Rattle.witness_core.specs.within.ValidStores.{HasValidItems}
use Rattle.witness_core.proofs.world.have_valid_items.Given as goal

-- The stores before this one have valid items.
abbrev pub invariant-loop-store : goal.invariant-loop-store
invariant-loop-store g l = All (λ s. HasValidItems (g.S.Evidence.contents s)) (take l.store-index l.stores)
