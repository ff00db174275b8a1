-- Laws of what instructions compute, over the integers. `laws` proves each. All words are below 2^32.
use Rattle.std.specs.Prelude.{◌≡◌, ◌↔◌, ℕ, ◌-◌, ◌<◌, ◌≤◌, ◌%◌, ◌^◌, pos, ◌+ℤ◌, ◌*ℤ◌, ◌<ℤ◌, ◌≤ℤ◌, unsigned_abs, IsTrue}
use Rattle.riscv.specs.declared.operation.Operation.TheVariants.{Slt, Sra, Mul, Mulh, Mulhsu, Mulhu, Div, Divu, Rem, Remu}
use Rattle.riscv.specs.declared.operation.Comparison.TheVariants.{Blt, Bge}
use Rattle.riscv.specs.Arithmetic.{signed, value_of, is_taken}

-- A word stands for itself below 2^31, and from there on for itself less 2^32.
abbrev pub SignedIsTwosComplement : Type 0
SignedIsTwosComplement = (a : ℕ) → a < 2 ^ 32 → (a < 2 ^ 31 → signed a ≡ pos a) × (2 ^ 31 ≤ a → signed a +ℤ pos (2 ^ 32) ≡ pos a)

-- `blt`, `bge` and `slt` compare the integers.
abbrev pub SignedOrder : Type 0
SignedOrder = (a b : ℕ) → a < 2 ^ 32 → b < 2 ^ 32
    → (IsTrue (is_taken Blt a b) ↔ (signed a <ℤ signed b))
    × (IsTrue (is_taken Bge a b) ↔ (signed b ≤ℤ signed a))
    × ((value_of Slt a b ≡ 1) ↔ (signed a <ℤ signed b))

-- `sra` divides by the power of two, and rounds down.
abbrev pub ShiftsRoundDown : Type 0
ShiftsRoundDown = (a b : ℕ) → a < 2 ^ 32
    → ((signed (value_of Sra a b) *ℤ pos (2 ^ (b % 32))) ≤ℤ signed a)
    × (signed a <ℤ ((signed (value_of Sra a b) +ℤ pos 1) *ℤ pos (2 ^ (b % 32))))

-- The upper and the lower word are the product.
abbrev pub ProductsAreWhole : Type 0
ProductsAreWhole = (a b : ℕ) → a < 2 ^ 32 → b < 2 ^ 32
    → (signed a *ℤ signed b ≡ signed (value_of Mulh a b) *ℤ pos (2 ^ 32) +ℤ pos (value_of Mul a b))
    × (signed a *ℤ pos b ≡ signed (value_of Mulhsu a b) *ℤ pos (2 ^ 32) +ℤ pos (value_of Mul a b))
    × (pos a *ℤ pos b ≡ pos (value_of Mulhu a b) *ℤ pos (2 ^ 32) +ℤ pos (value_of Mul a b))

-- The quotient times the divisor, and the remainder, are the dividend. The remainder is nearer to 0 than the divisor.
-- Only the quotient of -2^31 by -1 does not fit.
abbrev pub QuotientAndRemainder : ℕ → ℕ → Type 0
QuotientAndRemainder a b = ((a ≡ 2 ^ 31 → b ≡ 2 ^ 32 - 1 → ⊥) → signed (value_of Div a b) *ℤ signed b +ℤ signed (value_of Rem a b) ≡ signed a)
    × (unsigned_abs (signed (value_of Rem a b)) < unsigned_abs (signed b))
    × (pos (value_of Divu a b) *ℤ pos b +ℤ pos (value_of Remu a b) ≡ pos a)
    × (value_of Remu a b < b)

-- This holds of each divisor that is not 0.
abbrev pub QuotientsAndRemainders : Type 0
QuotientsAndRemainders = (a b : ℕ) → a < 2 ^ 32 → b < 2 ^ 32 → 0 < b → QuotientAndRemainder a b

-- Table 7.1 of the standard: division by zero, and the one quotient that does not fit, of -2^31 by -1.
abbrev pub DivisionByTheTable : Type 0
DivisionByTheTable = ((a : ℕ) → (value_of Divu a 0 ≡ 2 ^ 32 - 1) × (value_of Remu a 0 ≡ a) × (value_of Div a 0 ≡ 2 ^ 32 - 1) × (value_of Rem a 0 ≡ a))
    × (value_of Div (2 ^ 31) (2 ^ 32 - 1) ≡ 2 ^ 31)
    × (value_of Rem (2 ^ 31) (2 ^ 32 - 1) ≡ 0)
