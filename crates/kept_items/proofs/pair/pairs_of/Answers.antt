use Rattle.std.proofs.Common.{List, subst}
use Rattle.std.specs.Prelude.{◌↔◌}
use Rattle.std.specs.List.{Contains}
use Rattle.kept_items.specs.declared.pair.Pair.{Pair}
use Rattle.kept_items.proofs.pair.pairs_of.Goals as goal

pub returns : goal.returns
returns c = λ falls. record {
  ascending = c.ascending.ensures.ascending;
  members = λ p. subst (λ (l : List Pair). Contains c.ascending.result.items p ↔ Contains l p) c.in_ok-pairs.ensures (c.ascending.ensures.members p);
}
