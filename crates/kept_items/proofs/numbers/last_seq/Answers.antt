use Rattle.std.proofs.Common.{ap, ◌∙◌}
use Rattle.kept_entries.specs.Shared.{SharedEntry}
use Rattle.kept_items.proofs.Entries.{last_seq_is}
use Rattle.kept_items.proofs.numbers.last_seq.Goals as goal

pub returns-in-len1-up : goal.returns-in-len1-up
returns-in-len1-up c = c.seq.ensures ∙ ap (λ (x : SharedEntry). x.entry.seq) c.get.ensures ∙ last_seq_is c.args.handles.now c.last-item.result c.in-len1-up.len_at_least c.last-item.is
