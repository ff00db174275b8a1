use Rattle.std.proofs.Common.{◌≡◌, ◌++◌, take}
use Rattle.std.specs.List.{flat_map}
use Rattle.page_text.specs.Pages.{written}
use Rattle.page_text.proofs.page.put_all.Given as goal

abbrev pub invariant-loop-piece : goal.invariant-loop-piece
invariant-loop-piece l = l.page.items ≡ l.initial.page.items ++ flat_map written (take l.piece-index l.pieces)
