use Rattle.tiered_vec.proofs.Grown.{Grows}
use Rattle.tiered_vec.proofs.growing.grow_tiers.Given as goal

abbrev pub invariant-loop-tier : goal.invariant-loop-tier
invariant-loop-tier g l = Grows l.size l.initial.tiers l.tiers l.tier l.most
