-- What the instructions compute of two words (2.4 and chapter 7 of the standard), and when branches are taken (2.5).
-- A word is a number below 2^32. As a signed number it is `signed` of it, in two's complement.
use Rattle.std.specs.Prelude.{ℕ, ◌+◌, ◌-◌, ◌*◌, ◌/◌, ◌%◌, ◌^◌, ◌==◌, nat_lt, not, Bool, ℤ, pos, ◌*ℤ◌, int_lt, int_div, int_rem, bit_and, bit_or, bit_xor, if◌then◌else◌}
use Rattle.std.specs.Int.{w32, cast_signed, cast_unsigned, int_shr}
use Rattle.riscv.specs.declared.operation.Operation.{Operation}
use Rattle.riscv.specs.declared.operation.Operation.TheVariants.{Add, Sub, Sll, Slt, Sltu, Xor, Srl, Sra, Or, And, Mul, Mulh, Mulhsu, Mulhu, Div, Divu, Rem, Remu}
use Rattle.riscv.specs.declared.operation.Comparison.{Comparison}
use Rattle.riscv.specs.declared.operation.Comparison.TheVariants.{Beq, Bne, Blt, Bge, Bltu, Bgeu}

-- The integer that a word stands for where it has a sign, and the word that stands for an integer from -2^31 to 2^32 - 1.
abbrev pub signed : ℕ → ℤ
signed a = cast_signed w32 a

abbrev pub word : ℤ → ℕ
word z = cast_unsigned w32 z

abbrev pub flag : Bool → ℕ
flag b = if b then 1 else 0

-- A shift takes the lowest five bits of its second operand. `int_shr` divides by that power of two, and rounds down.
-- `mulh`, `mulhsu` and `mulhu` give the upper word of the product. `int_div` and `int_rem` round toward zero.
-- By 0, `div` and `divu` give all ones, and `rem` and `remu` the dividend.
abbrev pub value_of : Operation → ℕ → ℕ → ℕ
value_of Add a b = (a + b) % 2 ^ 32
value_of Sub a b = (a + (2 ^ 32 - b)) % 2 ^ 32
value_of Sll a b = a * 2 ^ (b % 32) % 2 ^ 32
value_of Slt a b = flag (int_lt (signed a) (signed b))
value_of Sltu a b = flag (nat_lt a b)
value_of Xor a b = bit_xor a b
value_of Srl a b = a / 2 ^ (b % 32)
value_of Sra a b = word (int_shr (signed a) (b % 32))
value_of Or a b = bit_or a b
value_of And a b = bit_and a b
value_of Mul a b = a * b % 2 ^ 32
value_of Mulh a b = word (int_shr (signed a *ℤ signed b) 32)
value_of Mulhsu a b = word (int_shr (signed a *ℤ pos b) 32)
value_of Mulhu a b = a * b / 2 ^ 32
value_of Div a b = if b == 0 then 2 ^ 32 - 1 else word (int_div (signed a) (signed b))
value_of Divu a b = if b == 0 then 2 ^ 32 - 1 else a / b
value_of Rem a b = if b == 0 then a else word (int_rem (signed a) (signed b))
value_of Remu a b = if b == 0 then a else a % b

-- Whether a branch is taken.
abbrev pub is_taken : Comparison → ℕ → ℕ → Bool
is_taken Beq a b = a == b
is_taken Bne a b = not (a == b)
is_taken Blt a b = int_lt (signed a) (signed b)
is_taken Bge a b = not (int_lt (signed a) (signed b))
is_taken Bltu a b = nat_lt a b
is_taken Bgeu a b = not (nat_lt a b)
