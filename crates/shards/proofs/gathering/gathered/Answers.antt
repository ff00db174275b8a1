use Rattle.std.proofs.Common.{rules}
use Rattle.std.specs.Cmp.Rules.{comparing}
use Rattle.std.proofs.lemmas.List.Filters.{dedup_is}
use Rattle.std.proofs.lemmas.List.Kept.{IsStrictlySortedBy-dedup}
use Rattle.evidence_set.specs.ItemSets.{none}
use Rattle.item_forms.proofs.ItemOrders.{by_bytes_total}
use Rattle.shards.proofs.Listed.{members_once}
use Rattle.shards.proofs.gathering.gathered.Goals as goal

pub returns-clause-ascending : goal.returns-clause-ascending
returns-clause-ascending c =
    let is = dedup_is _ _ _ c.dedup.ensures.filtered in
    rw is (IsStrictlySortedBy-dedup by_bytes_total (λ x y. search (comparing, rules)) _ c.sort_unstable.ensures.sorted)

pub returns-clause-same : goal.returns-clause-same
returns-clause-same c =
    let is = dedup_is _ _ _ c.dedup.ensures.filtered in
    c.sets_are_lists.ensures.any_order none _ _ (rw is (members_once _ (λ x y. search (comparing, rules)) _ _ c.sort_unstable.ensures.permutation))
