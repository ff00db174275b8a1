-- What is left to run leads where the whole run does.
use Rattle.std.proofs.Common.{◌≡◌}
use Rattle.riscv.specs.Running.{run_of}
use Rattle.riscv.specs.declared.trap.Next.TheVariants.{At}
use Rattle.riscv.proofs.running.run.Given as goal

abbrev pub invariant-loop-left : goal.invariant-loop-left
invariant-loop-left l = run_of l.code l.left l.next l.registers l.memory ≡ run_of l.code l.fuel (At l.pc) l.initial.registers l.initial.memory

abbrev pub decreases-loop-left : goal.decreases-loop-left
decreases-loop-left l = l.left
