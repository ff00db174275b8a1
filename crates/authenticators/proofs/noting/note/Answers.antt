use Rattle.authenticators.proofs.ClashNotes.{clash_there, nothing_there}
use Rattle.authenticators.proofs.noting.note.Goals as goal

pub returns-then-is_clash-clause-noted : goal.returns-then-is_clash-clause-noted
returns-then-is_clash-clause-noted c =
    clash_there c.args.held.now c.args.clashes.now.items _ c.args.clash c.keep.ensures.ascending c.keep.ensures.kept c.keep.ensures.only c.keep.ensures.has (c.is_clash.ensures.yes c.if-is_clash.true)

pub returns-else-is_clash-clause-noted : goal.returns-else-is_clash-clause-noted
returns-else-is_clash-clause-noted c = nothing_there c.args.held.now c.args.clashes.now.items c.args.clash c.requires.ascending (c.is_clash.ensures.no c.if-is_clash.false)
