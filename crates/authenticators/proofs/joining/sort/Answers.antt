use Rattle.std.proofs.Common.{rules}
use Rattle.std.specs.Cmp.Rules.{comparing}
use Rattle.std.proofs.lemmas.List.Filters.{dedup_is}
use Rattle.std.proofs.lemmas.List.Kept.{IsStrictlySortedBy-dedup}
use Rattle.authenticators.proofs.StatementSets.{by_fields_total}
use Rattle.authenticators.proofs.StatementUnions.{same_sorted}
use Rattle.authenticators.proofs.joining.sort.Goals as goal

pub returns-clause-same : goal.returns-clause-same
returns-clause-same c =
    let is = dedup_is _ _ _ c.dedup.ensures.filtered in
    rw is (same_sorted _ (λ x y. search (comparing, rules)) _ _ c.sort_unstable.ensures.permutation)

pub returns-clause-ascending : goal.returns-clause-ascending
returns-clause-ascending c =
    let is = dedup_is _ _ _ c.dedup.ensures.filtered in
    rw is (IsStrictlySortedBy-dedup by_fields_total (λ x y. search (comparing, rules)) _ c.sort_unstable.ensures.sorted)
