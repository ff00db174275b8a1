use Rattle.std.proofs.Common.{ap, ◌∙◌}
use Rattle.kept_entries.specs.Shared.{SharedEntry}
use Rattle.kept_items.proofs.Entries.{rising_all}
use Rattle.kept_items.proofs.numbers.are_rising.Goals as goal

pub returns-in-len1-up : goal.returns-in-len1-up
returns-in-len1-up c = c.rise_from.ensures ∙ rising_all c.args.handles.now c.first-item.result c.seq.result c.in-len1-up.len_at_least c.first-item.is (c.seq.ensures ∙ ap (λ (x : SharedEntry). x.entry.seq) c.get.ensures)
