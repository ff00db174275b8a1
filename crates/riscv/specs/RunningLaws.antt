-- Laws of what instructions do, and of runs. `laws` proves each.
use Rattle.std.specs.Prelude.{◌≡◌, ℕ, ◌+◌, ◌%◌, List, length, slice_index}
use Rattle.riscv.specs.declared.trap.Trap.{Trap}
use Rattle.riscv.specs.declared.trap.Next.{Next}
use Rattle.riscv.specs.declared.trap.Next.TheVariants.{At, Ended, Trapped}
use Rattle.riscv.specs.declared.instruction.Instruction.{Instruction}
use Rattle.riscv.specs.Running.{after_step, run_of}

-- A run keeps register 0 at 0.
abbrev pub RegisterZeroStays : Type 0
RegisterZeroStays = (code : List Instruction) (fuel : ℕ) (next : Next) (x m : List ℕ)
    → slice_index x 0 ≡ 0 → slice_index (run_of code fuel next x m).registers 0 ≡ 0

-- A run keeps the number of registers and the size of the memory.
abbrev pub SizesStay : Type 0
SizesStay = (code : List Instruction) (fuel : ℕ) (next : Next) (x m : List ℕ)
    → (length (run_of code fuel next x m).registers ≡ length x) × (length (run_of code fuel next x m).memory ≡ length m)

-- An instruction that traps or ends the run changes nothing, and a trap names its own place.
abbrev pub StopsChangeNothing : Type 0
StopsChangeNothing = (code : List Instruction) (pc : ℕ) (x m : List ℕ)
    → ((after_step code pc x m).next ≡ Ended → ((after_step code pc x m).registers ≡ x) × ((after_step code pc x m).memory ≡ m))
    × ((trap : Trap) (at : ℕ) → (after_step code pc x m).next ≡ Trapped trap at
    → (at ≡ pc) × ((after_step code pc x m).registers ≡ x) × ((after_step code pc x m).memory ≡ m))

-- An instruction leads to a place that is a word, and a multiple of 4.
abbrev pub PlacesAreAligned : Type 0
PlacesAreAligned = (code : List Instruction) (pc place : ℕ) (x m : List ℕ) → (after_step code pc x m).next ≡ At place → place % 4 ≡ 0

-- A run that is cut in two at any fuel goes on where it was: so more fuel changes nothing of a run that has stopped.
abbrev pub RunsGoOn : Type 0
RunsGoOn = (code : List Instruction) (fuel more : ℕ) (next : Next) (x m : List ℕ)
    → run_of code (fuel + more) next x m
    ≡ (let state = run_of code fuel next x m in run_of code (state.left + more) state.next state.registers state.memory)

-- A run that has fuel left has stopped by itself.
abbrev pub FuelIsUsed : Type 0
FuelIsUsed = (code : List Instruction) (fuel place : ℕ) (next : Next) (x m : List ℕ)
    → (run_of code fuel next x m).next ≡ At place → (run_of code fuel next x m).left ≡ 0
