use Rattle.std.proofs.Common.{◌≡◌, ◌+◌, ◌-◌, ◌≤◌, length, take}
use Rattle.std.specs.List.{All, flat_map}
use Rattle.parallel_checking.proofs.blocks.blocks_of.Given as goal

abbrev pub invariant-loop-start : goal.invariant-loop-start
invariant-loop-start l =
    (l.start ≤ length l.items) × (flat_map (λ b. b.items.now) l.all.items ≡ take l.start l.items) × All (λ b. b.start + length b.items.now ≤ l.start) l.all.items

abbrev pub decreases-loop-start : goal.decreases-loop-start
decreases-loop-start l = length l.initial.items - l.start
