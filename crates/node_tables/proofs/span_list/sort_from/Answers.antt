use Rattle.std.proofs.Common.{◌-◌, length}
use Rattle.std.proofs.lemmas.List.Sorted.{IsPermutation-put_mid}
use Rattle.node_tables.proofs.span_list.sort_from.Goals as goal

pub returns-clause-same : goal.returns-clause-same
returns-clause-same c = IsPermutation-put_mid c.args.start (length c.args.spans.now - c.args.start) c.args.spans.now c.sort_unstable_by_key.new.self c.sort_unstable_by_key.ensures.permutation
