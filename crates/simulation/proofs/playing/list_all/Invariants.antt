use Rattle.std.proofs.Common.{◌≡◌, take}
use Rattle.simulation.specs.Fixtures.{directory_of}
use Rattle.simulation.proofs.playing.list_all.Given as goal

abbrev pub invariant-loop-member : goal.invariant-loop-member
invariant-loop-member l = l.directory ≡ directory_of (take l.member-index l.members)
