-- Which instruction a word is, by the tables of RV32I and RV32M (chapter 24 of the standard). What is not in these tables is illegal.
use Rattle.std.specs.Prelude.{ℕ, ◌==◌, ◌&&◌, ◌||◌, List, [], ◌∷◌, Option, Some, None, if◌then◌else◌}
use Rattle.std.specs.Int.{w32, from_le_bytes}
use Rattle.riscv.specs.declared.operation.Operation.{Operation}
use Rattle.riscv.specs.declared.operation.Operation.TheVariants.{Add, Sub, Sll, Slt, Sltu, Xor, Srl, Sra, Or, And, Mul, Mulh, Mulhsu, Mulhu, Div, Divu, Rem, Remu}
use Rattle.riscv.specs.declared.operation.Comparison.{Comparison}
use Rattle.riscv.specs.declared.operation.Comparison.TheVariants.{Beq, Bne, Blt, Bge, Bltu, Bgeu}
use Rattle.riscv.specs.declared.instruction.Load.{Load as LoadKind}
use Rattle.riscv.specs.declared.instruction.Load.TheVariants.{Lb, Lh, Lw, Lbu, Lhu}
use Rattle.riscv.specs.declared.instruction.Store.{Store as StoreKind}
use Rattle.riscv.specs.declared.instruction.Store.TheVariants.{Sb, Sh, Sw}
use Rattle.riscv.specs.declared.instruction.Instruction.{Instruction}
use Rattle.riscv.specs.declared.instruction.Instruction.TheVariants.{Register, Immediate, Lui, Auipc, Load, Store, Branch, Jal, Jalr, Fence, Ecall, Ebreak, Illegal}
use Rattle.riscv.specs.Encoding.{opcode, rd, funct3, rs1, rs2, funct7, immediate_i, immediate_s, immediate_b, immediate_u, immediate_j}

-- ---- OP, 0110011: by funct7 and funct3

abbrev pub base_operation : ℕ → Operation
base_operation f3 =
    if f3 == 0b000 then Add else (if f3 == 0b001 then Sll else (if f3 == 0b010 then Slt else (if f3 == 0b011 then Sltu else
    (if f3 == 0b100 then Xor else (if f3 == 0b101 then Srl else (if f3 == 0b110 then Or else And))))))

abbrev pub multiplication : ℕ → Operation
multiplication f3 =
    if f3 == 0b000 then Mul else (if f3 == 0b001 then Mulh else (if f3 == 0b010 then Mulhsu else (if f3 == 0b011 then Mulhu else
    (if f3 == 0b100 then Div else (if f3 == 0b101 then Divu else (if f3 == 0b110 then Rem else Remu))))))

abbrev pub other_operation : ℕ → Option Operation
other_operation f3 = if f3 == 0b000 then Some Sub else (if f3 == 0b101 then Some Sra else None)

abbrev pub register_operation : ℕ → ℕ → Option Operation
register_operation f7 f3 =
    if f7 == 0b0000000 then Some (base_operation f3)
    else (if f7 == 0b0000001 then Some (multiplication f3)
    else (if f7 == 0b0100000 then other_operation f3 else None))

abbrev pub register_of : ℕ → Option Operation → Instruction
register_of word (Some op) = Register op (rd word) (rs1 word) (rs2 word)
register_of word None = Illegal

-- ---- OP-IMM, 0010011: a shift takes five bits, the shamt where rs2 is elsewhere, and has funct7 above them

abbrev pub shift_operation : ℕ → ℕ → Option Operation
shift_operation f7 f3 =
    if f7 == 0b0000000 then Some (base_operation f3) else (if (f7 == 0b0100000) && (f3 == 0b101) then Some Sra else None)

abbrev pub shift_of : ℕ → Option Operation → Instruction
shift_of word (Some op) = Immediate op (rd word) (rs1 word) (rs2 word)
shift_of word None = Illegal

abbrev pub immediate_of : ℕ → ℕ → Instruction
immediate_of word f3 =
    if (f3 == 0b001) || (f3 == 0b101) then shift_of word (shift_operation (funct7 word) f3)
    else Immediate (base_operation f3) (rd word) (rs1 word) (immediate_i word)

-- ---- LOAD, 0000011, and STORE, 0100011

abbrev pub load_at : ℕ → Option LoadKind
load_at f3 =
    if f3 == 0b000 then Some Lb else (if f3 == 0b001 then Some Lh else (if f3 == 0b010 then Some Lw else
    (if f3 == 0b100 then Some Lbu else (if f3 == 0b101 then Some Lhu else None))))

abbrev pub load_of : ℕ → Option LoadKind → Instruction
load_of word (Some op) = Load op (rd word) (rs1 word) (immediate_i word)
load_of word None = Illegal

abbrev pub store_at : ℕ → Option StoreKind
store_at f3 = if f3 == 0b000 then Some Sb else (if f3 == 0b001 then Some Sh else (if f3 == 0b010 then Some Sw else None))

abbrev pub store_of : ℕ → Option StoreKind → Instruction
store_of word (Some op) = Store op (rs1 word) (rs2 word) (immediate_s word)
store_of word None = Illegal

-- ---- BRANCH, 1100011

abbrev pub comparison_at : ℕ → Option Comparison
comparison_at f3 =
    if f3 == 0b000 then Some Beq else (if f3 == 0b001 then Some Bne else (if f3 == 0b100 then Some Blt else
    (if f3 == 0b101 then Some Bge else (if f3 == 0b110 then Some Bltu else (if f3 == 0b111 then Some Bgeu else None)))))

abbrev pub branch_of : ℕ → Option Comparison → Instruction
branch_of word (Some op) = Branch op (rs1 word) (rs2 word) (immediate_b word)
branch_of word None = Illegal

-- ---- SYSTEM, 1110011

abbrev pub system_of : ℕ → Instruction
system_of word = if word == 0x00000073 then Ecall else (if word == 0x00100073 then Ebreak else Illegal)

-- ---- all opcodes

-- The instruction that a word is. Of `fence` all fields but funct3 are ignored, as the standard demands.
abbrev pub instruction_of : ℕ → Instruction
instruction_of word =
    let op = opcode word in
    if op == 0b0110011 then register_of word (register_operation (funct7 word) (funct3 word))
    else (if op == 0b0010011 then immediate_of word (funct3 word)
    else (if op == 0b0000011 then load_of word (load_at (funct3 word))
    else (if op == 0b0100011 then store_of word (store_at (funct3 word))
    else (if op == 0b1100011 then branch_of word (comparison_at (funct3 word))
    else (if op == 0b0110111 then Lui (rd word) (immediate_u word)
    else (if op == 0b0010111 then Auipc (rd word) (immediate_u word)
    else (if op == 0b1101111 then Jal (rd word) (immediate_j word)
    else (if (op == 0b1100111) && (funct3 word == 0) then Jalr (rd word) (rs1 word) (immediate_i word)
    else (if (op == 0b0001111) && (funct3 word == 0) then Fence
    else (if op == 0b1110011 then system_of word
    else Illegal))))))))))

-- The instructions of an image, a word each, the lowest byte of a word first. What is left of a word behind the last is none.
abbrev pub instructions_of : List ℕ → List Instruction
instructions_of (a ∷ b ∷ c ∷ d ∷ rest) = instruction_of (from_le_bytes w32 (a ∷ b ∷ c ∷ d ∷ [])) ∷ instructions_of rest
instructions_of _ = []
