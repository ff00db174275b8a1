use Rattle.std.proofs.Common.{rules}
use Rattle.std.proofs.lemmas.List.Sorted.{IsPartitionPoint-from_clause}
use Rattle.authenticators.proofs.AscendingLists.{sorted-part}
use Rattle.item_forms.specs.Groups.{shown_group}
use Rattle.item_forms.proofs.GroupOrders.{groups_ascend, groups_hold}
use Rattle.kept_evidence.specs.Kept.{by_item}
use Rattle.kept_evidence.proofs.Grouped.{before, before_parted, part_is_group, up_to, up_to_parted}
use Rattle.plain_store.proofs.grouping.group_of.Goals as goal

pub returns-clause-members : goal.returns-clause-members
returns-clause-members g c =
    let kept = c.args.kept.now in
    let group = shown_group c.args.group.now in
    let from = IsPartitionPoint-from_clause (before group) kept c.partition_point-start.result c.partition_point-start.ensures.partitioned (before_parted group groups_ascend kept c.requires) (λ a r f k. search rules) in
    let to = IsPartitionPoint-from_clause (up_to group) kept c.partition_point-end.result c.partition_point-end.ensures.partitioned (up_to_parted group groups_ascend kept c.requires) (λ a r f k. search rules) in
    part_is_group group groups_hold kept c.partition_point-start.result c.partition_point-end.result c.max.result from to c.max.ensures

pub returns-clause-ascending : goal.returns-clause-ascending
returns-clause-ascending g c = sorted-part by_item c.partition_point-start.result c.max.result c.args.kept.now c.requires
