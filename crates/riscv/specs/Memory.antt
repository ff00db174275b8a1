-- The registers and the memory: what is read of them, and what they are after a write.
use Rattle.std.specs.Prelude.{ℕ, ◌+◌, ◌%◌, ◌^◌, ◌==◌, nat_le, Bool, List, [], ◌∷◌, length, take, drop, slice_index, slice_set, if◌then◌else◌}
use Rattle.std.specs.Int.{w16, w32, from_le_bytes, to_le_bytes}
use Rattle.riscv.specs.declared.instruction.Load.{Load}
use Rattle.riscv.specs.declared.instruction.Load.TheVariants.{Lb, Lh, Lw, Lbu, Lhu}
use Rattle.riscv.specs.declared.instruction.Store.{Store}
use Rattle.riscv.specs.declared.instruction.Store.TheVariants.{Sb, Sh, Sw}
use Rattle.riscv.specs.Encoding.{sign_extended}

-- ---- registers: what is written to register 0 is lost

abbrev pub register : List ℕ → ℕ → ℕ
register registers n = slice_index registers (n % 32)

abbrev pub with_register : List ℕ → ℕ → ℕ → List ℕ
with_register registers n value = if n % 32 == 0 then registers else slice_set registers (n % 32) value

-- ---- memory: bytes from place 0 on, the lowest byte of a number first

abbrev pub bytes_at : List ℕ → ℕ → ℕ → List ℕ
bytes_at memory at count = take count (drop at memory)

-- Whether the memory has so many bytes from this place on.
abbrev pub has_bytes : List ℕ → ℕ → ℕ → Bool
has_bytes memory at count = nat_le (at + count) (length memory)

abbrev pub with_bytes : List ℕ → ℕ → List ℕ → List ℕ
with_bytes memory at [] = memory
with_bytes memory at (byte ∷ bytes) = with_bytes (slice_set memory at byte) (at + 1) bytes

-- How many bytes a load reads, and the word that they give (2.6 of the standard).
abbrev pub load_size : Load → ℕ
load_size Lb = 1
load_size Lh = 2
load_size Lw = 4
load_size Lbu = 1
load_size Lhu = 2

abbrev pub loaded : Load → List ℕ → ℕ → ℕ
loaded Lb memory at = sign_extended 8 (slice_index memory at)
loaded Lh memory at = sign_extended 16 (from_le_bytes w16 (bytes_at memory at 2))
loaded Lw memory at = from_le_bytes w32 (bytes_at memory at 4)
loaded Lbu memory at = slice_index memory at
loaded Lhu memory at = from_le_bytes w16 (bytes_at memory at 2)

-- How many bytes a store writes, and the memory after it.
abbrev pub store_size : Store → ℕ
store_size Sb = 1
store_size Sh = 2
store_size Sw = 4

abbrev pub stored : Store → List ℕ → ℕ → ℕ → List ℕ
stored Sb memory at value = slice_set memory at (value % 2 ^ 8)
stored Sh memory at value = with_bytes memory at (to_le_bytes w16 (value % 2 ^ 16))
stored Sw memory at value = with_bytes memory at (to_le_bytes w32 value)
