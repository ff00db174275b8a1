use Rattle.std.proofs.Common.{◌≡◌, ◌+◌, take}
use Rattle.journal.specs.Journal.{size_of, texts_of}
use Rattle.journal.specs.declared.blocks.TheConstants.{MOST_GROUP}
use Rattle.journal.proofs.blocks.fits.Given as goal

abbrev pub invariant-loop-text : goal.invariant-loop-text
invariant-loop-text l = size_of (texts_of (take l.text-index l.texts)) + l.room ≡ MOST_GROUP
