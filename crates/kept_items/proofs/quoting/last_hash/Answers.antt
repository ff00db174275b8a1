use Rattle.std.proofs.Common.{ap, ◌∙◌}
use Rattle.kept_entries.specs.Shared.{SharedEntry}
use Rattle.kept_items.proofs.Entries.{last_hash_is}
use Rattle.kept_items.proofs.quoting.last_hash.Goals as goal

pub returns-in-len1-up : goal.returns-in-len1-up
returns-in-len1-up c = c.hash.ensures ∙ ap (λ (x : SharedEntry). x.hash) c.get.ensures ∙ last_hash_is c.args.prev c.args.handles.now c.last-item.result c.in-len1-up.len_at_least c.last-item.is
