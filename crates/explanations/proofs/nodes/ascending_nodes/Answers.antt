use Rattle.std.proofs.Common.{◌∙◌}
use Rattle.std.proofs.lemmas.List.Sorted.{IsNonDecreasingBy-from_sort}
use Rattle.explanations.proofs.Listings.{rises, there}
use Rattle.explanations.proofs.nodes.ascending_nodes.Goals as goal

pub returns-clause-ascending : goal.returns-clause-ascending
returns-clause-ascending c = rises c.args.directory.now _ _ c.nodes.ensures.directory.nodes (c.in_ok-nodes.ensures.items ∙ c.nodes.ensures.numbers) c.in_ok-sort.ensures.permutation (IsNonDecreasingBy-from_sort (λ n. n) _ c.in_ok-sort.ensures.sorted)

pub returns-clause-complete : goal.returns-clause-complete
returns-clause-complete c = λ node. there c.args.directory.now _ _ node (c.in_ok-nodes.ensures.items ∙ c.nodes.ensures.numbers) c.in_ok-sort.ensures.permutation
