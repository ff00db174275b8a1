use Rattle.kept_items.proofs.Spelled.{entry_written}
use Rattle.kept_items.proofs.writing.write_entry.Goals as goal

pub returns : goal.returns
returns c = entry_written c.args.writer.now _ _ _ c.args.shared.now.entry _ _ _ c.in_ok-u64.ensures c.in_ok-u8.ensures c.in_ok-bytes.ensures c.seq.ensures c.kind.ensures c.content.ensures
