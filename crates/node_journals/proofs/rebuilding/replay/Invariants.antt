use Rattle.std.proofs.Common.{take}
use Rattle.journal.specs.Journal.{texts_of}
use Rattle.node_journals.specs.within.Replaying.{HasReplayed}
use Rattle.node_journals.proofs.rebuilding.replay.Given as goal

abbrev pub invariant-loop-text : goal.invariant-loop-text
invariant-loop-text g l = HasReplayed g.P.Program.means l.secrets (texts_of (take l.text-index l.texts)) l.fn.node l.node
