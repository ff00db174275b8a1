use Rattle.std.proofs.Common.{◌≡◌, map, take}
use Rattle.shards.specs.within.Deals.{deal_of}
use Rattle.shards.proofs.parting.deal_each.Given as goal

abbrev pub invariant-loop-item : goal.invariant-loop-item
invariant-loop-item l = map (λ d. (d.item.now, d.parts.items)) l.dealt.items ≡ map (deal_of l.dealing) (take l.item-index l.items)
