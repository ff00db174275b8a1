-- The word of an instruction, by the formats of the standard (2.2, 2.3 and chapter 24). It is what an assembler writes: a second reading of
-- the tables, beside that of `Decoding`.
use Rattle.std.specs.Prelude.{ℕ, ◌+◌, ◌-◌, ◌*◌, ◌/◌, ◌%◌, ◌^◌, ◌<◌, ◌≤◌, ◌≡◌, ◌⊎◌}
use Rattle.riscv.specs.declared.operation.Operation.{Operation}
use Rattle.riscv.specs.declared.operation.Operation.TheVariants.{Add, Sub, Sll, Slt, Sltu, Xor, Srl, Sra, Or, And, Mul, Mulh, Mulhsu, Mulhu, Div, Divu, Rem, Remu}
use Rattle.riscv.specs.declared.operation.Comparison.{Comparison}
use Rattle.riscv.specs.declared.operation.Comparison.TheVariants.{Beq, Bne, Blt, Bge, Bltu, Bgeu}
use Rattle.riscv.specs.declared.instruction.Load.{Load as LoadKind}
use Rattle.riscv.specs.declared.instruction.Load.TheVariants.{Lb, Lh, Lw, Lbu, Lhu}
use Rattle.riscv.specs.declared.instruction.Store.{Store as StoreKind}
use Rattle.riscv.specs.declared.instruction.Store.TheVariants.{Sb, Sh, Sw}
use Rattle.riscv.specs.declared.instruction.Instruction.{Instruction}
use Rattle.riscv.specs.declared.instruction.Instruction.TheVariants.{Register, Immediate, Lui, Auipc, Load, Store, Branch, Jal, Jalr, Fence, Ecall, Ebreak, Illegal}

-- ---- what funct7 and funct3 tell apart

abbrev pub funct7_of : Operation → ℕ
funct7_of Sub = 0b0100000
funct7_of Sra = 0b0100000
funct7_of Mul = 0b0000001
funct7_of Mulh = 0b0000001
funct7_of Mulhsu = 0b0000001
funct7_of Mulhu = 0b0000001
funct7_of Div = 0b0000001
funct7_of Divu = 0b0000001
funct7_of Rem = 0b0000001
funct7_of Remu = 0b0000001
funct7_of _ = 0b0000000

abbrev pub funct3_of : Operation → ℕ
funct3_of Add = 0b000
funct3_of Sub = 0b000
funct3_of Sll = 0b001
funct3_of Slt = 0b010
funct3_of Sltu = 0b011
funct3_of Xor = 0b100
funct3_of Srl = 0b101
funct3_of Sra = 0b101
funct3_of Or = 0b110
funct3_of And = 0b111
funct3_of Mul = 0b000
funct3_of Mulh = 0b001
funct3_of Mulhsu = 0b010
funct3_of Mulhu = 0b011
funct3_of Div = 0b100
funct3_of Divu = 0b101
funct3_of Rem = 0b110
funct3_of Remu = 0b111

abbrev pub load_funct3 : LoadKind → ℕ
load_funct3 Lb = 0b000
load_funct3 Lh = 0b001
load_funct3 Lw = 0b010
load_funct3 Lbu = 0b100
load_funct3 Lhu = 0b101

abbrev pub store_funct3 : StoreKind → ℕ
store_funct3 Sb = 0b000
store_funct3 Sh = 0b001
store_funct3 Sw = 0b010

abbrev pub branch_funct3 : Comparison → ℕ
branch_funct3 Beq = 0b000
branch_funct3 Bne = 0b001
branch_funct3 Blt = 0b100
branch_funct3 Bge = 0b101
branch_funct3 Bltu = 0b110
branch_funct3 Bgeu = 0b111

-- ---- the formats: fields from the highest bit down

abbrev pub r_word : ℕ → ℕ → ℕ → ℕ → ℕ → ℕ → ℕ
r_word f7 rs2 rs1 f3 rd op = f7 * 2 ^ 25 + rs2 * 2 ^ 20 + rs1 * 2 ^ 15 + f3 * 2 ^ 12 + rd * 2 ^ 7 + op

abbrev pub i_word : ℕ → ℕ → ℕ → ℕ → ℕ → ℕ
i_word imm rs1 f3 rd op = imm % 2 ^ 12 * 2 ^ 20 + rs1 * 2 ^ 15 + f3 * 2 ^ 12 + rd * 2 ^ 7 + op

abbrev pub s_word : ℕ → ℕ → ℕ → ℕ → ℕ → ℕ
s_word imm rs2 rs1 f3 op = imm / 2 ^ 5 % 2 ^ 7 * 2 ^ 25 + rs2 * 2 ^ 20 + rs1 * 2 ^ 15 + f3 * 2 ^ 12 + imm % 2 ^ 5 * 2 ^ 7 + op

abbrev pub b_word : ℕ → ℕ → ℕ → ℕ → ℕ → ℕ
b_word imm rs2 rs1 f3 op =
    imm / 2 ^ 12 % 2 * 2 ^ 31 + imm / 2 ^ 5 % 2 ^ 6 * 2 ^ 25 + rs2 * 2 ^ 20 + rs1 * 2 ^ 15 + f3 * 2 ^ 12
    + imm / 2 % 2 ^ 4 * 2 ^ 8 + imm / 2 ^ 11 % 2 * 2 ^ 7 + op

abbrev pub u_word : ℕ → ℕ → ℕ → ℕ
u_word imm rd op = imm + rd * 2 ^ 7 + op

abbrev pub j_word : ℕ → ℕ → ℕ → ℕ
j_word imm rd op =
    imm / 2 ^ 20 % 2 * 2 ^ 31 + imm / 2 % 2 ^ 10 * 2 ^ 21 + imm / 2 ^ 11 % 2 * 2 ^ 20 + imm / 2 ^ 12 % 2 ^ 8 * 2 ^ 12 + rd * 2 ^ 7 + op

-- ---- instructions that have a word

-- A number of so many bits with its sign extended.
abbrev pub IsExtended : ℕ → ℕ → Type 0
IsExtended count imm = (imm < 2 ^ (count - 1)) ⊎ ((2 ^ 32 - 2 ^ (count - 1) ≤ imm) × (imm < 2 ^ 32))

abbrev pub IsImmediate : Operation → ℕ → Type 0
IsImmediate Add imm = IsExtended 12 imm
IsImmediate Slt imm = IsExtended 12 imm
IsImmediate Sltu imm = IsExtended 12 imm
IsImmediate Xor imm = IsExtended 12 imm
IsImmediate Or imm = IsExtended 12 imm
IsImmediate And imm = IsExtended 12 imm
IsImmediate Sll imm = imm < 32
IsImmediate Srl imm = imm < 32
IsImmediate Sra imm = imm < 32
IsImmediate _ imm = ⊥

abbrev pub HasWord : Instruction → Type 0
HasWord (Register op rd rs1 rs2) = (rd < 32) × (rs1 < 32) × (rs2 < 32)
HasWord (Immediate op rd rs1 imm) = (rd < 32) × (rs1 < 32) × IsImmediate op imm
HasWord (Lui rd imm) = (rd < 32) × (imm < 2 ^ 32) × (imm % 2 ^ 12 ≡ 0)
HasWord (Auipc rd imm) = (rd < 32) × (imm < 2 ^ 32) × (imm % 2 ^ 12 ≡ 0)
HasWord (Load op rd rs1 imm) = (rd < 32) × (rs1 < 32) × IsExtended 12 imm
HasWord (Store op rs1 rs2 imm) = (rs1 < 32) × (rs2 < 32) × IsExtended 12 imm
HasWord (Branch op rs1 rs2 imm) = (rs1 < 32) × (rs2 < 32) × IsExtended 13 imm × (imm % 2 ≡ 0)
HasWord (Jal rd imm) = (rd < 32) × IsExtended 21 imm × (imm % 2 ≡ 0)
HasWord (Jalr rd rs1 imm) = (rd < 32) × (rs1 < 32) × IsExtended 12 imm
HasWord Fence = Unit {0}
HasWord Ecall = Unit {0}
HasWord Ebreak = Unit {0}
HasWord Illegal = ⊥

abbrev pub immediate_word : Operation → ℕ → ℕ → ℕ → ℕ
immediate_word Sll rd rs1 imm = r_word 0b0000000 imm rs1 0b001 rd 0b0010011
immediate_word Srl rd rs1 imm = r_word 0b0000000 imm rs1 0b101 rd 0b0010011
immediate_word Sra rd rs1 imm = r_word 0b0100000 imm rs1 0b101 rd 0b0010011
immediate_word op rd rs1 imm = i_word imm rs1 (funct3_of op) rd 0b0010011

abbrev pub word_of : Instruction → ℕ
word_of (Register op rd rs1 rs2) = r_word (funct7_of op) rs2 rs1 (funct3_of op) rd 0b0110011
word_of (Immediate op rd rs1 imm) = immediate_word op rd rs1 imm
word_of (Lui rd imm) = u_word imm rd 0b0110111
word_of (Auipc rd imm) = u_word imm rd 0b0010111
word_of (Load op rd rs1 imm) = i_word imm rs1 (load_funct3 op) rd 0b0000011
word_of (Store op rs1 rs2 imm) = s_word imm rs2 rs1 (store_funct3 op) 0b0100011
word_of (Branch op rs1 rs2 imm) = b_word imm rs2 rs1 (branch_funct3 op) 0b1100011
word_of (Jal rd imm) = j_word imm rd 0b1101111
word_of (Jalr rd rs1 imm) = i_word imm rs1 0b000 rd 0b1100111
word_of Fence = 0x0ff0000f
word_of Ecall = 0x00000073
word_of Ebreak = 0x00100073
word_of Illegal = 0
