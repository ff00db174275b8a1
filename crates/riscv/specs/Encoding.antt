-- The fields of an instruction's word, by the formats R, I, S, B, U and J (2.2 and 2.3 of the standard). Bit 0 is the lowest.
use Rattle.std.specs.Prelude.{ℕ, ◌+◌, ◌-◌, ◌*◌, ◌/◌, ◌%◌, ◌^◌, nat_lt, if◌then◌else◌}

-- So many bits of the word, from this one on.
abbrev pub bits_at : ℕ → ℕ → ℕ → ℕ
bits_at word from count = word / 2 ^ from % 2 ^ count

abbrev pub opcode : ℕ → ℕ
opcode word = word % 2 ^ 7

abbrev pub rd : ℕ → ℕ
rd word = bits_at word 7 5

abbrev pub funct3 : ℕ → ℕ
funct3 word = bits_at word 12 3

abbrev pub rs1 : ℕ → ℕ
rs1 word = bits_at word 15 5

abbrev pub rs2 : ℕ → ℕ
rs2 word = bits_at word 20 5

abbrev pub funct7 : ℕ → ℕ
funct7 word = word / 2 ^ 25

-- A number of so many bits as a word: all bits above it are as its highest.
abbrev pub sign_extended : ℕ → ℕ → ℕ
sign_extended count n = if nat_lt n (2 ^ (count - 1)) then n else n + (2 ^ 32 - 2 ^ count)

-- imm[11:0] is in the bits 31 to 20.
abbrev pub immediate_i : ℕ → ℕ
immediate_i word = sign_extended 12 (word / 2 ^ 20)

-- imm[11:5] is in the bits 31 to 25, imm[4:0] in 11 to 7.
abbrev pub immediate_s : ℕ → ℕ
immediate_s word = sign_extended 12 (word / 2 ^ 25 * 2 ^ 5 + bits_at word 7 5)

-- imm[12] is the bit 31, imm[11] the bit 7, imm[10:5] in 30 to 25, imm[4:1] in 11 to 8.
abbrev pub immediate_b : ℕ → ℕ
immediate_b word = sign_extended 13 (word / 2 ^ 31 * 2 ^ 12 + bits_at word 7 1 * 2 ^ 11 + bits_at word 25 6 * 2 ^ 5 + bits_at word 8 4 * 2)

-- imm[31:12] is in the bits 31 to 12.
abbrev pub immediate_u : ℕ → ℕ
immediate_u word = word / 2 ^ 12 * 2 ^ 12

-- imm[20] is the bit 31, imm[19:12] in 19 to 12, imm[11] the bit 20, imm[10:1] in 30 to 21.
abbrev pub immediate_j : ℕ → ℕ
immediate_j word = sign_extended 21 (word / 2 ^ 31 * 2 ^ 20 + bits_at word 12 8 * 2 ^ 12 + bits_at word 20 1 * 2 ^ 11 + bits_at word 21 10 * 2)
