use Rattle.std.proofs.Common.{[]}
use Rattle.journal.specs.Device.{Cut}
use Rattle.journal_file.proofs.Steps.{after_cut, after_no_cut, noted}
use Rattle.journal_file.proofs.file.FileDeviceDevice.cut.Goals as goal

pub returns-then-not-may_cut-clause-crash : goal.returns-then-not-may_cut-clause-crash
returns-then-not-may_cut-clause-crash c =
    let events = c.args.self.now.record.events in
    noted (Cut c.args.len) events c.note.new.self.events (5, c.args.len, []) c.note.ensures (after_no_cut events c.args.len [])

pub returns-in-Ok-clause-crash : goal.returns-in-Ok-clause-crash
returns-in-Ok-clause-crash c =
    let events = c.args.self.now.record.events in
    noted (Cut c.args.len) events c.note-in-Ok.new.self.events (2, c.args.len, []) c.note-in-Ok.ensures (after_cut events c.args.len [] c.requires)

pub returns-in-Err-clause-crash : goal.returns-in-Err-clause-crash
returns-in-Err-clause-crash c =
    let events = c.args.self.now.record.events in
    noted (Cut c.args.len) events c.note-in-Err.new.self.events (5, c.args.len, []) c.note-in-Err.ensures (after_no_cut events c.args.len [])
