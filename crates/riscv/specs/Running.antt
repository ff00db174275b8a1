-- What code does from one instruction to the next, with so much fuel: a unit for each instruction.
use Rattle.std.specs.Prelude.{ℕ, zero, suc, ◌/◌, ◌%◌, ◌==◌, List, slice_get, Option, Some, None, if◌then◌else◌}
use Rattle.riscv.specs.declared.trap.Trap.TheVariants.{InstructionAddressMisaligned, InstructionAccessFault}
use Rattle.riscv.specs.declared.trap.Next.{Next}
use Rattle.riscv.specs.declared.trap.Next.TheVariants.{At, Ended, Trapped}
use Rattle.riscv.specs.declared.instruction.Instruction.{Instruction}
use Rattle.riscv.specs.Executing.{Core, core_after, trapped}

-- One instruction. The code is as it was decoded: what the run stores does not change it.
abbrev pub after_fetch : Option Instruction → ℕ → List ℕ → List ℕ → Core
after_fetch (Some instruction) pc x m = core_after instruction pc x m
after_fetch None pc x m = trapped InstructionAccessFault pc x m

abbrev pub after_step : List Instruction → ℕ → List ℕ → List ℕ → Core
after_step code pc x m =
    if pc % 4 == 0 then after_fetch (slice_get code (pc / 4)) pc x m else trapped InstructionAddressMisaligned pc x m

-- Where a run is, its registers and memory, and the fuel that is left.
pub record State : Type 0 where
  pub next : Next
  pub registers : List ℕ
  pub memory : List ℕ
  pub left : ℕ

-- The state when the run has ended, has trapped, or has no fuel left.
unfoldable pub run_of : List Instruction → ℕ → Next → List ℕ → List ℕ → State
run_of code zero next x m = record { next = next; registers = x; memory = m; left = 0 }
run_of code (suc fuel) (At pc) x m = let core = after_step code pc x m in run_of code fuel core.next core.registers core.memory
run_of code (suc fuel) Ended x m = record { next = Ended; registers = x; memory = m; left = suc fuel }
run_of code (suc fuel) (Trapped trap pc) x m = record { next = Trapped trap pc; registers = x; memory = m; left = suc fuel }
