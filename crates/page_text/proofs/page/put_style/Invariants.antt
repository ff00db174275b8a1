use Rattle.std.proofs.Common.{◌≡◌, ◌++◌, map, take}
use Rattle.page_text.specs.Pages.{in_style}
use Rattle.page_text.proofs.page.put_style.Given as goal

abbrev pub invariant-loop-byte : goal.invariant-loop-byte
invariant-loop-byte l = l.page.items ≡ l.initial.page.items ++ map in_style (take l.byte-index l.style)
