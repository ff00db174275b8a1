use Rattle.journal.specs.Reading.{IsReading}
use Rattle.recovery_tests.proofs.nodes.files.texts_in.Given as goal

abbrev pub invariant-texts : goal.invariant-texts
invariant-texts g l = IsReading g.D.Device.found l.reading
