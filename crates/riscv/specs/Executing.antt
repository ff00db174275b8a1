-- What each instruction does (chapters 2 and 7 of the standard): where the run goes on, with which registers x and which memory m.
use Rattle.std.specs.Prelude.{ℕ, ◌+◌, ◌*◌, ◌/◌, ◌%◌, ◌^◌, ◌==◌, List, if◌then◌else◌}
use Rattle.riscv.specs.declared.trap.Trap.{Trap}
use Rattle.riscv.specs.declared.trap.Trap.TheVariants.{InstructionAddressMisaligned, IllegalInstruction, Breakpoint, LoadAccessFault, StoreAccessFault}
use Rattle.riscv.specs.declared.trap.Next.{Next}
use Rattle.riscv.specs.declared.trap.Next.TheVariants.{At, Ended, Trapped}
use Rattle.riscv.specs.declared.instruction.Load.{Load as LoadKind}
use Rattle.riscv.specs.declared.instruction.Store.{Store as StoreKind}
use Rattle.riscv.specs.declared.instruction.Instruction.{Instruction}
use Rattle.riscv.specs.declared.instruction.Instruction.TheVariants.{Register, Immediate, Lui, Auipc, Load, Store, Branch, Jal, Jalr, Fence, Ecall, Ebreak, Illegal}
use Rattle.riscv.specs.Arithmetic.{value_of, is_taken}
use Rattle.riscv.specs.Memory.{register, with_register, has_bytes, load_size, loaded, store_size, stored}

-- Where the run goes on, and the registers and the memory there.
pub record Core : Type 0 where
  pub next : Next
  pub registers : List ℕ
  pub memory : List ℕ

-- Addresses and places of the code wrap.
abbrev pub sum_of : ℕ → ℕ → ℕ
sum_of a b = (a + b) % 2 ^ 32

-- The run goes on behind the instruction.
abbrev pub on : ℕ → List ℕ → List ℕ → Core
on pc x m = record { next = At (sum_of pc 4); registers = x; memory = m }

-- A trap leaves registers and memory as they were.
abbrev pub trapped : Trap → ℕ → List ℕ → List ℕ → Core
trapped trap pc x m = record { next = Trapped trap pc; registers = x; memory = m }

-- The run goes on at a target, and the register rd keeps the place behind the instruction. A branch keeps none: it has register 0.
abbrev pub jumped : ℕ → ℕ → ℕ → List ℕ → List ℕ → Core
jumped target rd pc x m =
    if target % 4 == 0 then record { next = At target; registers = with_register x rd (sum_of pc 4); memory = m }
    else trapped InstructionAddressMisaligned pc x m

abbrev pub after_load : LoadKind → ℕ → ℕ → ℕ → List ℕ → List ℕ → Core
after_load op rd at pc x m =
    if has_bytes m at (load_size op) then on pc (with_register x rd (loaded op m at)) m else trapped LoadAccessFault pc x m

abbrev pub after_store : StoreKind → ℕ → ℕ → ℕ → List ℕ → List ℕ → Core
after_store op at value pc x m =
    if has_bytes m at (store_size op) then on pc x (stored op m at value) else trapped StoreAccessFault pc x m

abbrev pub core_after : Instruction → ℕ → List ℕ → List ℕ → Core
core_after (Register op rd rs1 rs2) pc x m = on pc (with_register x rd (value_of op (register x rs1) (register x rs2))) m
core_after (Immediate op rd rs1 imm) pc x m = on pc (with_register x rd (value_of op (register x rs1) imm)) m
core_after (Lui rd imm) pc x m = on pc (with_register x rd imm) m
core_after (Auipc rd imm) pc x m = on pc (with_register x rd (sum_of pc imm)) m
core_after (Load op rd rs1 imm) pc x m = after_load op rd (sum_of (register x rs1) imm) pc x m
core_after (Store op rs1 rs2 imm) pc x m = after_store op (sum_of (register x rs1) imm) (register x rs2) pc x m
core_after (Branch op rs1 rs2 imm) pc x m = if is_taken op (register x rs1) (register x rs2) then jumped (sum_of pc imm) 0 pc x m else on pc x m
core_after (Jal rd imm) pc x m = jumped (sum_of pc imm) rd pc x m
core_after (Jalr rd rs1 imm) pc x m = jumped (sum_of (register x rs1) imm / 2 * 2) rd pc x m
core_after Fence pc x m = on pc x m
core_after Ecall pc x m = record { next = Ended; registers = x; memory = m }
core_after Ebreak pc x m = trapped Breakpoint pc x m
core_after Illegal pc x m = trapped IllegalInstruction pc x m
