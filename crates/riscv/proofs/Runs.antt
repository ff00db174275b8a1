-- Runs that have stopped, and one instruction more.
use Rattle.std.proofs.Common.{◌≡◌, ℕ, zero, suc, ◌-◌, ◌<◌, ◌≤◌, List, refl, ap, ◌∙◌, arith}
use Rattle.riscv.specs.declared.trap.Trap.{Trap}
use Rattle.riscv.specs.declared.trap.Next.{Next}
use Rattle.riscv.specs.declared.trap.Next.TheVariants.{At, Ended, Trapped}
use Rattle.riscv.specs.declared.instruction.Instruction.{Instruction}
use Rattle.riscv.specs.Executing.{Core}
use Rattle.riscv.specs.Running.{after_step, run_of}

pub run-ended : (code : List Instruction) (n : ℕ) (next : Next) (x m : List ℕ) → next ≡ Ended
    → run_of code n next x m ≡ record { next = next; registers = x; memory = m; left = n }
unfolding run_of
run-ended code zero next x m e = refl
run-ended code (suc n) next x m e = rw e refl

pub run-trapped : (code : List Instruction) (n : ℕ) (next : Next) (trap : Trap) (pc : ℕ) (x m : List ℕ) → next ≡ Trapped trap pc
    → run_of code n next x m ≡ record { next = next; registers = x; memory = m; left = n }
unfolding run_of
run-trapped code zero next trap pc x m e = refl
run-trapped code (suc n) next trap pc x m e = rw e refl

pub run-none : (code : List Instruction) (n : ℕ) (next : Next) (x m : List ℕ) → n ≤ 0
    → run_of code n next x m ≡ record { next = next; registers = x; memory = m; left = n }
unfolding run_of
run-none code zero next x m h = refl
run-none code (suc n) next x m h = let no : ⊥ = omega (arith, h) in absurd no

pub run-more : (code : List Instruction) (n pc : ℕ) (next : Next) (x m : List ℕ) (core : Core) → 0 < n → next ≡ At pc
    → after_step code pc x m ≡ core → run_of code n next x m ≡ run_of code (n - 1) core.next core.registers core.memory
unfolding run_of
run-more code zero pc next x m core h at e = let no : ⊥ = omega (arith, h) in absurd no
run-more code (suc n) pc next x m core h at e =
    let count : suc n - 1 ≡ n = omega arith in
    let moved : run_of code (suc n) next x m ≡ run_of code (suc n) (At pc) x m = ap (λ k. run_of code (suc n) k x m) at in
    rw count (moved ∙ ap (λ (c : Core). run_of code n c.next c.registers c.memory) e)
