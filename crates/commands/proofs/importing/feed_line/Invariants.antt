use Rattle.std.proofs.Common.{◌≡◌, ◌≤◌, ◌-◌, List, Ok, drop, take, ℕ}
use Rattle.hex.specs.Hex.{decode_of}
use Rattle.commands.specs.within.Feeding.{IsFedUpTo}
use Rattle.commands.proofs.importing.feed_line.Given as goal

abbrev pub invariant-loop-left : goal.invariant-loop-left
invariant-loop-left g l = record {
  directory : l.importer.directory ≡ l.initial.importer.directory;
  few : l.left ≤ l.count;
  rest : l.lines ≡ drop (l.count - l.left) l.initial.lines;
  fed : (text : List ℕ) → decode_of (take l.count l.initial.lines) ≡ Ok text → IsFedUpTo l.initial.importer.fed l.importer.fed (take l.left l.lines) text;
}

abbrev pub decreases-loop-left : goal.decreases-loop-left
decreases-loop-left g l = l.left
