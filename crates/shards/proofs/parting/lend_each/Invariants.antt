use Rattle.std.proofs.Common.{◌≡◌, map, take}
use Rattle.std.specs.List.{filter}
use Rattle.shards.specs.within.Deals.{goes_to}
use Rattle.shards.proofs.parting.lend_each.Given as goal

abbrev pub invariant-loop-one : goal.invariant-loop-one
invariant-loop-one l = map (λ x. x.item.now) l.lent.items ≡ map (λ d. d.0) (filter (goes_to l.k) (map (λ d. (d.item.now, d.parts.items)) (take l.one-index l.dealt)))
