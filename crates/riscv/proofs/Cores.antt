-- What runs keep, by induction over their fuel.
use Rattle.std.proofs.Common.{◌≡◌, ℕ, zero, suc, ◌+◌, List, length, refl, ap, ◌∙◌, arith, rules}
use Rattle.std.specs.Prelude.{slice_index}
use Rattle.riscv.specs.declared.trap.Next.{Next}
use Rattle.riscv.specs.declared.trap.Next.TheVariants.{At, Ended, Trapped}
use Rattle.riscv.specs.declared.instruction.Instruction.{Instruction}
use Rattle.riscv.specs.Running.{after_step, run_of}

-- ---- one instruction

step-zero : (code : List Instruction) (pc : ℕ) (x m : List ℕ) → slice_index x 0 ≡ 0 → slice_index (after_step code pc x m).registers 0 ≡ 0
step-zero code pc x m h = search rules

step-registers : (code : List Instruction) (pc : ℕ) (x m : List ℕ) → length (after_step code pc x m).registers ≡ length x
step-registers code pc x m = search rules

step-memory : (code : List Instruction) (pc : ℕ) (x m : List ℕ) → length (after_step code pc x m).memory ≡ length m
step-memory code pc x m = search rules

-- ---- runs

pub run-zero : (code : List Instruction) (fuel : ℕ) (next : Next) (x m : List ℕ) → slice_index x 0 ≡ 0 → slice_index (run_of code fuel next x m).registers 0 ≡ 0
unfolding run_of
run-zero code zero next x m h = h
run-zero code (suc fuel) (At pc) x m h = run-zero code fuel _ _ _ (step-zero code pc x m h)
run-zero code (suc fuel) Ended x m h = h
run-zero code (suc fuel) (Trapped trap pc) x m h = h

pub run-registers : (code : List Instruction) (fuel : ℕ) (next : Next) (x m : List ℕ) → length (run_of code fuel next x m).registers ≡ length x
unfolding run_of
run-registers code zero next x m = refl
run-registers code (suc fuel) (At pc) x m = run-registers code fuel _ _ _ ∙ step-registers code pc x m
run-registers code (suc fuel) Ended x m = refl
run-registers code (suc fuel) (Trapped trap pc) x m = refl

pub run-memory : (code : List Instruction) (fuel : ℕ) (next : Next) (x m : List ℕ) → length (run_of code fuel next x m).memory ≡ length m
unfolding run_of
run-memory code zero next x m = refl
run-memory code (suc fuel) (At pc) x m = run-memory code fuel _ _ _ ∙ step-memory code pc x m
run-memory code (suc fuel) Ended x m = refl
run-memory code (suc fuel) (Trapped trap pc) x m = refl

pub run-left : (code : List Instruction) (fuel place : ℕ) (next : Next) (x m : List ℕ)
    → (run_of code fuel next x m).next ≡ At place → (run_of code fuel next x m).left ≡ 0
unfolding run_of
run-left code zero place next x m h = refl
run-left code (suc fuel) place (At pc) x m h = run-left code fuel place _ _ _ h
run-left code (suc fuel) place Ended x m h = absurd (let differ : ⊥ = cc h in differ)
run-left code (suc fuel) place (Trapped trap pc) x m h = absurd (let differ : ⊥ = cc h in differ)

pub run-cut : (code : List Instruction) (fuel more : ℕ) (next : Next) (x m : List ℕ)
    → run_of code (fuel + more) next x m
    ≡ run_of code ((run_of code fuel next x m).left + more) (run_of code fuel next x m).next (run_of code fuel next x m).registers (run_of code fuel next x m).memory
unfolding run_of
run-cut code zero more next x m = refl
run-cut code (suc fuel) more (At pc) x m =
    let count : suc fuel + more ≡ suc (fuel + more) = omega arith in
    ap (λ n. run_of code n (At pc) x m) count ∙ run-cut code fuel more _ _ _
run-cut code (suc fuel) more Ended x m = refl
run-cut code (suc fuel) more (Trapped trap pc) x m = refl
