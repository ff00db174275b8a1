use Rattle.std.proofs.Common.{◌≡◌, ◌≤◌, length, take}
use Rattle.shared_stores.specs.Closing.{calls_of}
use Rattle.shared_stores.proofs.comparing.agrees.Given as goal

abbrev pub invariant-loop-call : goal.invariant-loop-call
invariant-loop-call l = record {
  bound : l.next ≤ length l.calls;
  same : calls_of l.pass.number (take l.call-index l.history) ≡ take l.next l.calls;
}
