-- Laws of decoding. `laws` proves each.
use Rattle.std.specs.Prelude.{◌≡◌, ◌-◌, ◌^◌}
use Rattle.riscv.specs.declared.operation.Operation.TheVariants.{Add, Sub, Sll, Slt, Sltu, Xor, Srl, Sra, Or, And, Mul, Mulh, Mulhsu, Mulhu, Div, Divu, Rem, Remu}
use Rattle.riscv.specs.declared.operation.Comparison.TheVariants.{Beq, Bne, Blt, Bge, Bltu, Bgeu}
use Rattle.riscv.specs.declared.instruction.Load.TheVariants.{Lb, Lh, Lw, Lbu, Lhu}
use Rattle.riscv.specs.declared.instruction.Store.TheVariants.{Sb, Sh, Sw}
use Rattle.riscv.specs.declared.instruction.Instruction.{Instruction}
use Rattle.riscv.specs.declared.instruction.Instruction.TheVariants.{Register, Immediate, Lui, Auipc, Load, Store, Branch, Jal, Jalr, Fence, Ecall, Ebreak, Illegal}
use Rattle.riscv.specs.Decoding.{instruction_of}
use Rattle.riscv.specs.Words.{HasWord, word_of}

-- Words that LLVM's assembler makes of each instruction: every register, and immediates at their bounds.
abbrev pub RegisterWords : Type 0
RegisterWords =
    (instruction_of 0x003100b3 ≡ Register Add 1 2 3)  -- add x1, x2, x3
    × (instruction_of 0x40628233 ≡ Register Sub 4 5 6)  -- sub x4, x5, x6
    × (instruction_of 0x009413b3 ≡ Register Sll 7 8 9)  -- sll x7, x8, x9
    × (instruction_of 0x00c5a533 ≡ Register Slt 10 11 12)  -- slt x10, x11, x12
    × (instruction_of 0x00f736b3 ≡ Register Sltu 13 14 15)  -- sltu x13, x14, x15
    × (instruction_of 0x0128c833 ≡ Register Xor 16 17 18)  -- xor x16, x17, x18
    × (instruction_of 0x015a59b3 ≡ Register Srl 19 20 21)  -- srl x19, x20, x21
    × (instruction_of 0x418bdb33 ≡ Register Sra 22 23 24)  -- sra x22, x23, x24
    × (instruction_of 0x01bd6cb3 ≡ Register Or 25 26 27)  -- or x25, x26, x27
    × (instruction_of 0x01eefe33 ≡ Register And 28 29 30)  -- and x28, x29, x30
    × (instruction_of 0x02208fb3 ≡ Register Mul 31 1 2)  -- mul x31, x1, x2
    × (instruction_of 0x025211b3 ≡ Register Mulh 3 4 5)  -- mulh x3, x4, x5
    × (instruction_of 0x0283a333 ≡ Register Mulhsu 6 7 8)  -- mulhsu x6, x7, x8
    × (instruction_of 0x02b534b3 ≡ Register Mulhu 9 10 11)  -- mulhu x9, x10, x11
    × (instruction_of 0x02e6c633 ≡ Register Div 12 13 14)  -- div x12, x13, x14
    × (instruction_of 0x031857b3 ≡ Register Divu 15 16 17)  -- divu x15, x16, x17
    × (instruction_of 0x0349e933 ≡ Register Rem 18 19 20)  -- rem x18, x19, x20
    × (instruction_of 0x037b7ab3 ≡ Register Remu 21 22 23)  -- remu x21, x22, x23

abbrev pub ImmediateWords : Type 0
ImmediateWords =
    (instruction_of 0x00000013 ≡ Immediate Add 0 0 0)  -- nop
    × (instruction_of 0xfff10093 ≡ Immediate Add 1 2 (2 ^ 32 - 1))  -- addi x1, x2, -1
    × (instruction_of 0x7ff22193 ≡ Immediate Slt 3 4 2047)  -- slti x3, x4, 2047
    × (instruction_of 0x80033293 ≡ Immediate Sltu 5 6 (2 ^ 32 - 2048))  -- sltiu x5, x6, -2048
    × (instruction_of 0x05544393 ≡ Immediate Xor 7 8 85)  -- xori x7, x8, 85
    × (instruction_of 0x10056493 ≡ Immediate Or 9 10 256)  -- ori x9, x10, 256
    × (instruction_of 0xf0067593 ≡ Immediate And 11 12 (2 ^ 32 - 256))  -- andi x11, x12, -256
    × (instruction_of 0x01f71693 ≡ Immediate Sll 13 14 31)  -- slli x13, x14, 31
    × (instruction_of 0x00185793 ≡ Immediate Srl 15 16 1)  -- srli x15, x16, 1
    × (instruction_of 0x41095893 ≡ Immediate Sra 17 18 16)  -- srai x17, x18, 16
    × (instruction_of 0xfffffc37 ≡ Lui 24 (2 ^ 32 - 4096))  -- lui x24, 0xfffff
    × (instruction_of 0x12345c97 ≡ Auipc 25 0x12345000)  -- auipc x25, 0x12345

abbrev pub MemoryWords : Type 0
MemoryWords =
    (instruction_of 0x800d8d03 ≡ Load Lb 26 27 (2 ^ 32 - 2048))  -- lb x26, -2048(x27)
    × (instruction_of 0x7ffe9e03 ≡ Load Lh 28 29 2047)  -- lh x28, 2047(x29)
    × (instruction_of 0xffcfaf03 ≡ Load Lw 30 31 (2 ^ 32 - 4))  -- lw x30, -4(x31)
    × (instruction_of 0x00114083 ≡ Load Lbu 1 2 1)  -- lbu x1, 1(x2)
    × (instruction_of 0x00225183 ≡ Load Lhu 3 4 2)  -- lhu x3, 2(x4)
    × (instruction_of 0x80530023 ≡ Store Sb 6 5 (2 ^ 32 - 2048))  -- sb x5, -2048(x6)
    × (instruction_of 0x7e741fa3 ≡ Store Sh 8 7 2047)  -- sh x7, 2047(x8)
    × (instruction_of 0xfe952e23 ≡ Store Sw 10 9 (2 ^ 32 - 4))  -- sw x9, -4(x10)

abbrev pub JumpWords : Type 0
JumpWords =
    (instruction_of 0x7ec58fe3 ≡ Branch Beq 11 12 4094)  -- beq x11, x12, 4094
    × (instruction_of 0x80e69063 ≡ Branch Bne 13 14 (2 ^ 32 - 4096))  -- bne x13, x14, -4096
    × (instruction_of 0x0107c463 ≡ Branch Blt 15 16 8)  -- blt x15, x16, 8
    × (instruction_of 0xff28dfe3 ≡ Branch Bge 17 18 (2 ^ 32 - 2))  -- bge x17, x18, -2
    × (instruction_of 0x0149e0e3 ≡ Branch Bltu 19 20 2048)  -- bltu x19, x20, 2048
    × (instruction_of 0x816af0e3 ≡ Branch Bgeu 21 22 (2 ^ 32 - 2048))  -- bgeu x21, x22, -2048
    × (instruction_of 0x7ffffbef ≡ Jal 23 1048574)  -- jal x23, 1048574
    × (instruction_of 0x80000c6f ≡ Jal 24 (2 ^ 32 - 1048576))  -- jal x24, -1048576
    × (instruction_of 0x00100cef ≡ Jal 25 2048)  -- jal x25, 2048
    × (instruction_of 0x800d8d67 ≡ Jalr 26 27 (2 ^ 32 - 2048))  -- jalr x26, -2048(x27)

abbrev pub OtherWords : Type 0
OtherWords =
    (instruction_of 0x0ff0000f ≡ Fence)  -- fence
    × (instruction_of 0x00000073 ≡ Ecall)  -- ecall
    × (instruction_of 0x00100073 ≡ Ebreak)  -- ebreak
    × (instruction_of 0x00000000 ≡ Illegal)  -- zeros
    × (instruction_of 0xffffffff ≡ Illegal)  -- ones
    × (instruction_of 0x00000001 ≡ Illegal)  -- a compressed instruction
    × (instruction_of 0x0000100f ≡ Illegal)  -- fence.i
    × (instruction_of 0x30001073 ≡ Illegal)  -- csrrw x0, mstatus, x0
    × (instruction_of 0x02009093 ≡ Illegal)  -- slli x1, x1, 32, of 64 bits
    × (instruction_of 0x0000b083 ≡ Illegal)  -- ld x1, 0(x1), of 64 bits
    × (instruction_of 0x0000e083 ≡ Illegal)  -- lwu
    × (instruction_of 0x0000b023 ≡ Illegal)  -- sd
    × (instruction_of 0x00002063 ≡ Illegal)  -- a branch with funct3 2
    × (instruction_of 0x00001067 ≡ Illegal)  -- jalr with funct3 1
    × (instruction_of 0x40001033 ≡ Illegal)  -- sll with the funct7 of sub
    × (instruction_of 0x04000033 ≡ Illegal)  -- funct7 2
    × (instruction_of 0x00200073 ≡ Illegal)  -- uret
    × (instruction_of 0x00000f73 ≡ Illegal)  -- ecall with a field set

-- All these words are read as what the assembler was given.
abbrev pub WordsAreRead : Type 0
WordsAreRead = RegisterWords × ImmediateWords × MemoryWords × JumpWords × OtherWords

-- Each instruction whose registers and immediates fit its format has a word, and that word is read as this instruction.
abbrev pub WordsReadBack : Type 0
WordsReadBack = (instruction : Instruction) → HasWord instruction → instruction_of (word_of instruction) ≡ instruction
