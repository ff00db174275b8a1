use Rattle.std.proofs.Common.{◌≡◌, ◌++◌, take}
use Rattle.std.specs.List.{flat_map}
use Rattle.explanation_pages.specs.Shown.{entry_text}
use Rattle.explanation_pages.proofs.index.write_entries.Given as goal

abbrev pub invariant-loop-told : goal.invariant-loop-told
invariant-loop-told l = l.page ≡ l.initial.page ++ flat_map entry_text (take l.told-index l.nodes)
