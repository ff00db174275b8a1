use Rattle.std.proofs.Common.{◌≡◌, take}
use Rattle.page_text.specs.Pages.{behind_all}
use Rattle.page_text.proofs.places.behind_all.Given as goal

abbrev pub invariant-loop-piece : goal.invariant-loop-piece
invariant-loop-piece l = l.here ≡ behind_all l.fn.place (take l.piece-index l.pieces)
