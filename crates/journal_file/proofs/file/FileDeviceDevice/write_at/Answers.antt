use Rattle.std.proofs.Common.{length}
use Rattle.journal.specs.Device.{Torn}
use Rattle.journal_file.proofs.Steps.{after_write, after_no_write, noted}
use Rattle.journal_file.proofs.file.FileDeviceDevice.write_at.Goals as goal

pub returns-in-Ok-clause-crash : goal.returns-in-Ok-clause-crash
returns-in-Ok-clause-crash c =
    let events = c.args.self.now.record.events in
    let bytes = c.args.bytes.now in
    noted (Torn c.args.at (length bytes)) events c.note-in-Ok.new.self.events (1, c.args.at, bytes) c.note-in-Ok.ensures (after_write events c.args.at bytes c.requires)

pub returns-in-Err-clause-crash : goal.returns-in-Err-clause-crash
returns-in-Err-clause-crash c =
    let events = c.args.self.now.record.events in
    let bytes = c.args.bytes.now in
    noted (Torn c.args.at (length bytes)) events c.note-in-Err.new.self.events (4, c.args.at, bytes) c.note-in-Err.ensures (after_no_write events c.args.at bytes)
