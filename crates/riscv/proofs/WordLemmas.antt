-- The fields of words that formats make, and what they are read as.
use Rattle.std.proofs.Common.{◌≡◌, ℕ, ◌+◌, ◌*◌, ◌/◌, ◌%◌, ◌^◌, ◌<◌, inl, inr, refl, ap, ◌∙◌, arith}
use Rattle.std.specs.Prelude.{Some}
use Rattle.std.proofs.lemmas.Bool.Decides.{nat_tests}
use Rattle.riscv.specs.declared.operation.Operation.{Operation}
use Rattle.riscv.specs.declared.operation.Operation.TheVariants.{Add, Sub, Sll, Slt, Sltu, Xor, Srl, Sra, Or, And, Mul, Mulh, Mulhsu, Mulhu, Div, Divu, Rem, Remu}
use Rattle.riscv.specs.declared.operation.Comparison.{Comparison}
use Rattle.riscv.specs.declared.operation.Comparison.TheVariants.{Beq, Bne, Blt, Bge, Bltu, Bgeu}
use Rattle.riscv.specs.declared.instruction.Load.{Load as LoadKind}
use Rattle.riscv.specs.declared.instruction.Load.TheVariants.{Lb, Lh, Lw, Lbu, Lhu}
use Rattle.riscv.specs.declared.instruction.Store.{Store as StoreKind}
use Rattle.riscv.specs.declared.instruction.Store.TheVariants.{Sb, Sh, Sw}
use Rattle.riscv.specs.declared.instruction.Instruction.{Instruction}
use Rattle.riscv.specs.declared.instruction.Instruction.TheVariants.{Register, Immediate, Lui, Auipc, Load, Store, Branch, Jal, Jalr, Fence, Ecall, Ebreak, Illegal}
use Rattle.riscv.specs.Encoding.{sign_extended, immediate_i, immediate_s, immediate_b, immediate_j}
use Rattle.riscv.specs.Decoding.{register_operation, instruction_of, load_at, store_at, comparison_at}
use Rattle.riscv.specs.Words.{funct7_of, funct3_of, load_funct3, store_funct3, branch_funct3, r_word, i_word, s_word, b_word, u_word, j_word, IsExtended, IsImmediate, HasWord, immediate_word, word_of}

-- What a word's fields are.
pub record Fields (w op d f3 s1 s2 f7 : ℕ) : Type 0 where
  pub op_is : w % 2 ^ 7 ≡ op
  pub rd_is : w / 2 ^ 7 % 2 ^ 5 ≡ d
  pub funct3_is : w / 2 ^ 12 % 2 ^ 3 ≡ f3
  pub rs1_is : w / 2 ^ 15 % 2 ^ 5 ≡ s1
  pub rs2_is : w / 2 ^ 20 % 2 ^ 5 ≡ s2
  pub funct7_is : w / 2 ^ 25 ≡ f7

pub r-fields : (f7 s2 s1 f3 d op : ℕ) → s2 < 32 → s1 < 32 → f3 < 8 → d < 32 → op < 128 → Fields (r_word f7 s2 s1 f3 d op) op d f3 s1 s2 f7
r-fields f7 s2 s1 f3 d op h2 h1 h3 hd ho = record {
  op_is = omega arith;
  rd_is = omega arith;
  funct3_is = omega arith;
  rs1_is = omega arith;
  rs2_is = omega arith;
  funct7_is = omega arith;
}

register-read : (w d s1 s2 f3 f7 : ℕ) (op : Operation) → Fields w 0b0110011 d f3 s1 s2 f7 → register_operation f7 f3 ≡ Some op → instruction_of w ≡ Register op d s1 s2
register-read w d s1 s2 f3 f7 op f e = rw (f.op_is, f.funct7_is, f.funct3_is, e, f.rd_is, f.rs1_is, f.rs2_is) refl

operation-read : (op : Operation) → register_operation (funct7_of op) (funct3_of op) ≡ Some op
operation-read Add = refl
operation-read Sub = refl
operation-read Sll = refl
operation-read Slt = refl
operation-read Sltu = refl
operation-read Xor = refl
operation-read Srl = refl
operation-read Sra = refl
operation-read Or = refl
operation-read And = refl
operation-read Mul = refl
operation-read Mulh = refl
operation-read Mulhsu = refl
operation-read Mulhu = refl
operation-read Div = refl
operation-read Divu = refl
operation-read Rem = refl
operation-read Remu = refl

funct3-small : (op : Operation) → funct3_of op < 8
funct3-small Add = omega arith
funct3-small Sub = omega arith
funct3-small Sll = omega arith
funct3-small Slt = omega arith
funct3-small Sltu = omega arith
funct3-small Xor = omega arith
funct3-small Srl = omega arith
funct3-small Sra = omega arith
funct3-small Or = omega arith
funct3-small And = omega arith
funct3-small Mul = omega arith
funct3-small Mulh = omega arith
funct3-small Mulhsu = omega arith
funct3-small Mulhu = omega arith
funct3-small Div = omega arith
funct3-small Divu = omega arith
funct3-small Rem = omega arith
funct3-small Remu = omega arith

pub read-register : (op : Operation) (d s1 s2 : ℕ) → d < 32 → s1 < 32 → s2 < 32 → instruction_of (r_word (funct7_of op) s2 s1 (funct3_of op) d 0b0110011) ≡ Register op d s1 s2
read-register op d s1 s2 hd h1 h2 =
    let small : 51 < 128 = omega arith in
    register-read _ d s1 s2 (funct3_of op) (funct7_of op) op (r-fields (funct7_of op) s2 s1 (funct3_of op) d 0b0110011 h2 h1 (funct3-small op) hd small) (operation-read op)

-- ---- loads, and what else has an immediate of the format I

-- What a word's fields are that has such an immediate.
pub record ImmediateFields (w op d f3 s1 imm : ℕ) : Type 0 where
  pub op_is : w % 2 ^ 7 ≡ op
  pub rd_is : w / 2 ^ 7 % 2 ^ 5 ≡ d
  pub funct3_is : w / 2 ^ 12 % 2 ^ 3 ≡ f3
  pub rs1_is : w / 2 ^ 15 % 2 ^ 5 ≡ s1
  pub imm_is : immediate_i w ≡ imm

extended-12 : (imm : ℕ) → IsExtended 12 imm → sign_extended 12 (imm % 2 ^ 12) ≡ imm
extended-12 imm e = elim e [ inl low ↦ grind (arith, nat_tests) | inr high ↦ grind (arith, nat_tests) ]

pub i-fields : (imm s1 f3 d op : ℕ) → s1 < 32 → f3 < 8 → d < 32 → op < 128 → IsExtended 12 imm → ImmediateFields (i_word imm s1 f3 d op) op d f3 s1 imm
i-fields imm s1 f3 d op h1 h3 hd ho e =
    let field : i_word imm s1 f3 d op / 2 ^ 20 ≡ imm % 2 ^ 12 = omega arith in
    record { op_is = omega arith; rd_is = omega arith; funct3_is = omega arith; rs1_is = omega arith; imm_is = ap (sign_extended 12) field ∙ extended-12 imm e }

load-read : (w d f3 s1 imm : ℕ) (op : LoadKind) → ImmediateFields w 0b0000011 d f3 s1 imm → load_at f3 ≡ Some op → instruction_of w ≡ Load op d s1 imm
load-read w d f3 s1 imm op f e = rw (f.op_is, f.funct3_is, e, f.rd_is, f.rs1_is, f.imm_is) refl

pub read-load : (op : LoadKind) (d s1 imm : ℕ) → d < 32 → s1 < 32 → IsExtended 12 imm → instruction_of (i_word imm s1 (load_funct3 op) d 0b0000011) ≡ Load op d s1 imm
read-load Lb d s1 imm hd h1 e = load-read _ d 0 s1 imm Lb (i-fields imm s1 0 d 0b0000011 h1 (omega arith) hd (omega arith) e) refl
read-load Lh d s1 imm hd h1 e = load-read _ d 1 s1 imm Lh (i-fields imm s1 1 d 0b0000011 h1 (omega arith) hd (omega arith) e) refl
read-load Lw d s1 imm hd h1 e = load-read _ d 2 s1 imm Lw (i-fields imm s1 2 d 0b0000011 h1 (omega arith) hd (omega arith) e) refl
read-load Lbu d s1 imm hd h1 e = load-read _ d 4 s1 imm Lbu (i-fields imm s1 4 d 0b0000011 h1 (omega arith) hd (omega arith) e) refl
read-load Lhu d s1 imm hd h1 e = load-read _ d 5 s1 imm Lhu (i-fields imm s1 5 d 0b0000011 h1 (omega arith) hd (omega arith) e) refl

jalr-read : (w d s1 imm : ℕ) → ImmediateFields w 0b1100111 d 0 s1 imm → instruction_of w ≡ Jalr d s1 imm
jalr-read w d s1 imm f = rw (f.op_is, f.funct3_is, f.rd_is, f.rs1_is, f.imm_is) refl

pub read-jalr : (d s1 imm : ℕ) → d < 32 → s1 < 32 → IsExtended 12 imm → instruction_of (i_word imm s1 0b000 d 0b1100111) ≡ Jalr d s1 imm
read-jalr d s1 imm hd h1 e = jalr-read _ d s1 imm (i-fields imm s1 0 d 0b1100111 h1 (omega arith) hd (omega arith) e)

-- ---- operations with an immediate

immediate-read-0 : (w d s1 imm : ℕ) → ImmediateFields w 0b0010011 d 0 s1 imm → instruction_of w ≡ Immediate Add d s1 imm
immediate-read-0 w d s1 imm f = rw (f.op_is, f.funct3_is, f.rd_is, f.rs1_is, f.imm_is) refl

immediate-read-2 : (w d s1 imm : ℕ) → ImmediateFields w 0b0010011 d 2 s1 imm → instruction_of w ≡ Immediate Slt d s1 imm
immediate-read-2 w d s1 imm f = rw (f.op_is, f.funct3_is, f.rd_is, f.rs1_is, f.imm_is) refl

immediate-read-3 : (w d s1 imm : ℕ) → ImmediateFields w 0b0010011 d 3 s1 imm → instruction_of w ≡ Immediate Sltu d s1 imm
immediate-read-3 w d s1 imm f = rw (f.op_is, f.funct3_is, f.rd_is, f.rs1_is, f.imm_is) refl

immediate-read-4 : (w d s1 imm : ℕ) → ImmediateFields w 0b0010011 d 4 s1 imm → instruction_of w ≡ Immediate Xor d s1 imm
immediate-read-4 w d s1 imm f = rw (f.op_is, f.funct3_is, f.rd_is, f.rs1_is, f.imm_is) refl

immediate-read-6 : (w d s1 imm : ℕ) → ImmediateFields w 0b0010011 d 6 s1 imm → instruction_of w ≡ Immediate Or d s1 imm
immediate-read-6 w d s1 imm f = rw (f.op_is, f.funct3_is, f.rd_is, f.rs1_is, f.imm_is) refl

immediate-read-7 : (w d s1 imm : ℕ) → ImmediateFields w 0b0010011 d 7 s1 imm → instruction_of w ≡ Immediate And d s1 imm
immediate-read-7 w d s1 imm f = rw (f.op_is, f.funct3_is, f.rd_is, f.rs1_is, f.imm_is) refl

shift-read-Sll : (w d s1 imm : ℕ) → Fields w 0b0010011 d 1 s1 imm 0 → instruction_of w ≡ Immediate Sll d s1 imm
shift-read-Sll w d s1 imm f = rw (f.op_is, f.funct3_is, f.funct7_is, f.rd_is, f.rs1_is, f.rs2_is) refl

shift-read-Srl : (w d s1 imm : ℕ) → Fields w 0b0010011 d 5 s1 imm 0 → instruction_of w ≡ Immediate Srl d s1 imm
shift-read-Srl w d s1 imm f = rw (f.op_is, f.funct3_is, f.funct7_is, f.rd_is, f.rs1_is, f.rs2_is) refl

shift-read-Sra : (w d s1 imm : ℕ) → Fields w 0b0010011 d 5 s1 imm 32 → instruction_of w ≡ Immediate Sra d s1 imm
shift-read-Sra w d s1 imm f = rw (f.op_is, f.funct3_is, f.funct7_is, f.rd_is, f.rs1_is, f.rs2_is) refl

pub read-immediate : (op : Operation) (d s1 imm : ℕ) → d < 32 → s1 < 32 → IsImmediate op imm → instruction_of (immediate_word op d s1 imm) ≡ Immediate op d s1 imm
read-immediate Add d s1 imm hd h1 e = immediate-read-0 _ d s1 imm (i-fields imm s1 0 d 0b0010011 h1 (omega arith) hd (omega arith) e)
read-immediate Slt d s1 imm hd h1 e = immediate-read-2 _ d s1 imm (i-fields imm s1 2 d 0b0010011 h1 (omega arith) hd (omega arith) e)
read-immediate Sltu d s1 imm hd h1 e = immediate-read-3 _ d s1 imm (i-fields imm s1 3 d 0b0010011 h1 (omega arith) hd (omega arith) e)
read-immediate Xor d s1 imm hd h1 e = immediate-read-4 _ d s1 imm (i-fields imm s1 4 d 0b0010011 h1 (omega arith) hd (omega arith) e)
read-immediate Or d s1 imm hd h1 e = immediate-read-6 _ d s1 imm (i-fields imm s1 6 d 0b0010011 h1 (omega arith) hd (omega arith) e)
read-immediate And d s1 imm hd h1 e = immediate-read-7 _ d s1 imm (i-fields imm s1 7 d 0b0010011 h1 (omega arith) hd (omega arith) e)
read-immediate Sll d s1 imm hd h1 e = shift-read-Sll _ d s1 imm (r-fields 0 imm s1 1 d 0b0010011 e h1 (omega arith) hd (omega arith))
read-immediate Srl d s1 imm hd h1 e = shift-read-Srl _ d s1 imm (r-fields 0 imm s1 5 d 0b0010011 e h1 (omega arith) hd (omega arith))
read-immediate Sra d s1 imm hd h1 e = shift-read-Sra _ d s1 imm (r-fields 32 imm s1 5 d 0b0010011 e h1 (omega arith) hd (omega arith))
read-immediate Sub d s1 imm hd h1 e = absurd e
read-immediate Mul d s1 imm hd h1 e = absurd e
read-immediate Mulh d s1 imm hd h1 e = absurd e
read-immediate Mulhsu d s1 imm hd h1 e = absurd e
read-immediate Mulhu d s1 imm hd h1 e = absurd e
read-immediate Div d s1 imm hd h1 e = absurd e
read-immediate Divu d s1 imm hd h1 e = absurd e
read-immediate Rem d s1 imm hd h1 e = absurd e
read-immediate Remu d s1 imm hd h1 e = absurd e

-- ---- stores

pub record StoreFields (w f3 s1 s2 imm : ℕ) : Type 0 where
  pub op_is : w % 2 ^ 7 ≡ 0b0100011
  pub funct3_is : w / 2 ^ 12 % 2 ^ 3 ≡ f3
  pub rs1_is : w / 2 ^ 15 % 2 ^ 5 ≡ s1
  pub rs2_is : w / 2 ^ 20 % 2 ^ 5 ≡ s2
  pub imm_is : immediate_s w ≡ imm

store-fields : (imm s2 s1 f3 : ℕ) → s2 < 32 → s1 < 32 → f3 < 8 → IsExtended 12 imm → StoreFields (s_word imm s2 s1 f3 0b0100011) f3 s1 s2 imm
store-fields imm s2 s1 f3 h2 h1 h3 e =
    let w = s_word imm s2 s1 f3 0b0100011 in
    let field : w / 2 ^ 25 * 2 ^ 5 + w / 2 ^ 7 % 2 ^ 5 ≡ imm % 2 ^ 12 = omega arith in
    record { op_is = omega arith; funct3_is = omega arith; rs1_is = omega arith; rs2_is = omega arith; imm_is = ap (sign_extended 12) field ∙ extended-12 imm e }

store-read : (w f3 s1 s2 imm : ℕ) (op : StoreKind) → StoreFields w f3 s1 s2 imm → store_at f3 ≡ Some op → instruction_of w ≡ Store op s1 s2 imm
store-read w f3 s1 s2 imm op f e = rw (f.op_is, f.funct3_is, e, f.rs1_is, f.rs2_is, f.imm_is) refl

pub read-store : (op : StoreKind) (s1 s2 imm : ℕ) → s1 < 32 → s2 < 32 → IsExtended 12 imm → instruction_of (s_word imm s2 s1 (store_funct3 op) 0b0100011) ≡ Store op s1 s2 imm
read-store Sb s1 s2 imm h1 h2 e = store-read _ 0 s1 s2 imm Sb (store-fields imm s2 s1 0 h2 h1 (omega arith) e) refl
read-store Sh s1 s2 imm h1 h2 e = store-read _ 1 s1 s2 imm Sh (store-fields imm s2 s1 1 h2 h1 (omega arith) e) refl
read-store Sw s1 s2 imm h1 h2 e = store-read _ 2 s1 s2 imm Sw (store-fields imm s2 s1 2 h2 h1 (omega arith) e) refl

-- ---- branches

pub record BranchFields (w f3 s1 s2 imm : ℕ) : Type 0 where
  pub op_is : w % 2 ^ 7 ≡ 0b1100011
  pub funct3_is : w / 2 ^ 12 % 2 ^ 3 ≡ f3
  pub rs1_is : w / 2 ^ 15 % 2 ^ 5 ≡ s1
  pub rs2_is : w / 2 ^ 20 % 2 ^ 5 ≡ s2
  pub imm_is : immediate_b w ≡ imm

extended-13 : (imm : ℕ) → IsExtended 13 imm → sign_extended 13 (imm % 2 ^ 13) ≡ imm
extended-13 imm e = elim e [ inl low ↦ grind (arith, nat_tests) | inr high ↦ grind (arith, nat_tests) ]

-- The parts of the immediate, wherever they lie.
branch-parts : (imm : ℕ) → imm % 2 ≡ 0 → imm / 2 ^ 12 % 2 * 2 ^ 12 + imm / 2 ^ 11 % 2 * 2 ^ 11 + imm / 2 ^ 5 % 2 ^ 6 * 2 ^ 5 + imm / 2 % 2 ^ 4 * 2 ≡ imm % 2 ^ 13
branch-parts imm h = omega arith

pub record BranchBits (w f3 s1 s2 p q r t : ℕ) : Type 0 where
  pub op_is : w % 2 ^ 7 ≡ 0b1100011
  pub funct3_is : w / 2 ^ 12 % 2 ^ 3 ≡ f3
  pub rs1_is : w / 2 ^ 15 % 2 ^ 5 ≡ s1
  pub rs2_is : w / 2 ^ 20 % 2 ^ 5 ≡ s2
  pub p_is : w / 2 ^ 31 ≡ p
  pub q_is : w / 2 ^ 25 % 2 ^ 6 ≡ q
  pub r_is : w / 2 ^ 8 % 2 ^ 4 ≡ r
  pub t_is : w / 2 ^ 7 % 2 ^ 1 ≡ t

branch-bits : (w f3 s1 s2 p q r t : ℕ) → f3 < 8 → s1 < 32 → s2 < 32 → p < 2 → q < 64 → r < 16 → t < 2
    → w ≡ p * 2 ^ 31 + q * 2 ^ 25 + s2 * 2 ^ 20 + s1 * 2 ^ 15 + f3 * 2 ^ 12 + r * 2 ^ 8 + t * 2 ^ 7 + 0b1100011 → BranchBits w f3 s1 s2 p q r t
branch-bits w f3 s1 s2 p q r t h3 h1 h2 hp hq hr ht e = record {
  op_is = omega arith;
  funct3_is = omega arith;
  rs1_is = omega arith;
  rs2_is = omega arith;
  p_is = omega arith;
  q_is = omega arith;
  r_is = omega arith;
  t_is = omega arith;
}

branch-fields : (imm s2 s1 f3 : ℕ) → s2 < 32 → s1 < 32 → f3 < 8 → IsExtended 13 imm → imm % 2 ≡ 0 → BranchFields (b_word imm s2 s1 f3 0b1100011) f3 s1 s2 imm
branch-fields imm s2 s1 f3 h2 h1 h3 e even =
    let w = b_word imm s2 s1 f3 0b1100011 in
    let hp : imm / 2 ^ 12 % 2 < 2 = omega arith in
    let hq : imm / 2 ^ 5 % 2 ^ 6 < 64 = omega arith in
    let hr : imm / 2 % 2 ^ 4 < 16 = omega arith in
    let ht : imm / 2 ^ 11 % 2 < 2 = omega arith in
    let bits : BranchBits w f3 s1 s2 (imm / 2 ^ 12 % 2) (imm / 2 ^ 5 % 2 ^ 6) (imm / 2 % 2 ^ 4) (imm / 2 ^ 11 % 2) = branch-bits w f3 s1 s2 _ _ _ _ h3 h1 h2 hp hq hr ht refl in
    let field : w / 2 ^ 31 * 2 ^ 12 + w / 2 ^ 7 % 2 ^ 1 * 2 ^ 11 + w / 2 ^ 25 % 2 ^ 6 * 2 ^ 5 + w / 2 ^ 8 % 2 ^ 4 * 2 ≡ imm % 2 ^ 13 =
    rw (bits.p_is, bits.q_is, bits.r_is, bits.t_is) (branch-parts imm even) in
    record { op_is = bits.op_is; funct3_is = bits.funct3_is; rs1_is = bits.rs1_is; rs2_is = bits.rs2_is; imm_is = ap (sign_extended 13) field ∙ extended-13 imm e }

branch-read : (w f3 s1 s2 imm : ℕ) (op : Comparison) → BranchFields w f3 s1 s2 imm → comparison_at f3 ≡ Some op → instruction_of w ≡ Branch op s1 s2 imm
branch-read w f3 s1 s2 imm op f e = rw (f.op_is, f.funct3_is, e, f.rs1_is, f.rs2_is, f.imm_is) refl

pub read-branch : (op : Comparison) (s1 s2 imm : ℕ) → s1 < 32 → s2 < 32 → IsExtended 13 imm → imm % 2 ≡ 0
    → instruction_of (b_word imm s2 s1 (branch_funct3 op) 0b1100011) ≡ Branch op s1 s2 imm
read-branch Beq s1 s2 imm h1 h2 e even = branch-read _ 0 s1 s2 imm Beq (branch-fields imm s2 s1 0 h2 h1 (omega arith) e even) refl
read-branch Bne s1 s2 imm h1 h2 e even = branch-read _ 1 s1 s2 imm Bne (branch-fields imm s2 s1 1 h2 h1 (omega arith) e even) refl
read-branch Blt s1 s2 imm h1 h2 e even = branch-read _ 4 s1 s2 imm Blt (branch-fields imm s2 s1 4 h2 h1 (omega arith) e even) refl
read-branch Bge s1 s2 imm h1 h2 e even = branch-read _ 5 s1 s2 imm Bge (branch-fields imm s2 s1 5 h2 h1 (omega arith) e even) refl
read-branch Bltu s1 s2 imm h1 h2 e even = branch-read _ 6 s1 s2 imm Bltu (branch-fields imm s2 s1 6 h2 h1 (omega arith) e even) refl
read-branch Bgeu s1 s2 imm h1 h2 e even = branch-read _ 7 s1 s2 imm Bgeu (branch-fields imm s2 s1 7 h2 h1 (omega arith) e even) refl

-- ---- upper immediates and jal

pub record UpperFields (w op d imm : ℕ) : Type 0 where
  pub op_is : w % 2 ^ 7 ≡ op
  pub rd_is : w / 2 ^ 7 % 2 ^ 5 ≡ d
  pub imm_is : w / 2 ^ 12 * 2 ^ 12 ≡ imm

upper-fields : (imm d op : ℕ) → d < 32 → op < 128 → imm % 2 ^ 12 ≡ 0 → UpperFields (u_word imm d op) op d imm
upper-fields imm d op hd ho h = record { op_is = omega arith; rd_is = omega arith; imm_is = omega arith }

lui-read : (w d imm : ℕ) → UpperFields w 0b0110111 d imm → instruction_of w ≡ Lui d imm
lui-read w d imm f = rw (f.op_is, f.rd_is, f.imm_is) refl

auipc-read : (w d imm : ℕ) → UpperFields w 0b0010111 d imm → instruction_of w ≡ Auipc d imm
auipc-read w d imm f = rw (f.op_is, f.rd_is, f.imm_is) refl

pub read-lui : (d imm : ℕ) → d < 32 → imm % 2 ^ 12 ≡ 0 → instruction_of (u_word imm d 0b0110111) ≡ Lui d imm
read-lui d imm hd h = lui-read _ d imm (upper-fields imm d 0b0110111 hd (omega arith) h)

pub read-auipc : (d imm : ℕ) → d < 32 → imm % 2 ^ 12 ≡ 0 → instruction_of (u_word imm d 0b0010111) ≡ Auipc d imm
read-auipc d imm hd h = auipc-read _ d imm (upper-fields imm d 0b0010111 hd (omega arith) h)

extended-21 : (imm : ℕ) → IsExtended 21 imm → sign_extended 21 (imm % 2 ^ 21) ≡ imm
extended-21 imm e = elim e [ inl low ↦ grind (arith, nat_tests) | inr high ↦ grind (arith, nat_tests) ]

jal-parts : (imm : ℕ) → imm % 2 ≡ 0 → imm / 2 ^ 20 % 2 * 2 ^ 20 + imm / 2 ^ 12 % 2 ^ 8 * 2 ^ 12 + imm / 2 ^ 11 % 2 * 2 ^ 11 + imm / 2 % 2 ^ 10 * 2 ≡ imm % 2 ^ 21
jal-parts imm h = omega arith

pub record JalBits (w d p q r t : ℕ) : Type 0 where
  pub op_is : w % 2 ^ 7 ≡ 0b1101111
  pub rd_is : w / 2 ^ 7 % 2 ^ 5 ≡ d
  pub p_is : w / 2 ^ 31 ≡ p
  pub q_is : w / 2 ^ 21 % 2 ^ 10 ≡ q
  pub r_is : w / 2 ^ 20 % 2 ^ 1 ≡ r
  pub t_is : w / 2 ^ 12 % 2 ^ 8 ≡ t

jal-bits : (w d p q r t : ℕ) → d < 32 → p < 2 → q < 1024 → r < 2 → t < 256
    → w ≡ p * 2 ^ 31 + q * 2 ^ 21 + r * 2 ^ 20 + t * 2 ^ 12 + d * 2 ^ 7 + 0b1101111 → JalBits w d p q r t
jal-bits w d p q r t hd hp hq hr ht e = record {
  op_is = omega arith;
  rd_is = omega arith;
  p_is = omega arith;
  q_is = omega arith;
  r_is = omega arith;
  t_is = omega arith;
}

jal-read : (w d imm : ℕ) → w % 2 ^ 7 ≡ 0b1101111 → w / 2 ^ 7 % 2 ^ 5 ≡ d → immediate_j w ≡ imm → instruction_of w ≡ Jal d imm
jal-read w d imm op_is rd_is imm_is = rw (op_is, rd_is, imm_is) refl

pub read-jal : (d imm : ℕ) → d < 32 → IsExtended 21 imm → imm % 2 ≡ 0 → instruction_of (j_word imm d 0b1101111) ≡ Jal d imm
read-jal d imm hd e even =
    let w = j_word imm d 0b1101111 in
    let hp : imm / 2 ^ 20 % 2 < 2 = omega arith in
    let hq : imm / 2 % 2 ^ 10 < 1024 = omega arith in
    let hr : imm / 2 ^ 11 % 2 < 2 = omega arith in
    let ht : imm / 2 ^ 12 % 2 ^ 8 < 256 = omega arith in
    let bits : JalBits w d (imm / 2 ^ 20 % 2) (imm / 2 % 2 ^ 10) (imm / 2 ^ 11 % 2) (imm / 2 ^ 12 % 2 ^ 8) = jal-bits w d _ _ _ _ hd hp hq hr ht refl in
    let field : w / 2 ^ 31 * 2 ^ 20 + w / 2 ^ 12 % 2 ^ 8 * 2 ^ 12 + w / 2 ^ 20 % 2 ^ 1 * 2 ^ 11 + w / 2 ^ 21 % 2 ^ 10 * 2 ≡ imm % 2 ^ 21 =
    rw (bits.p_is, bits.q_is, bits.r_is, bits.t_is) (jal-parts imm even) in
    jal-read w d imm bits.op_is bits.rd_is (ap (sign_extended 21) field ∙ extended-21 imm e)

-- ---- all instructions

pub read-back : (i : Instruction) → HasWord i → instruction_of (word_of i) ≡ i
read-back (Register op d s1 s2) h = read-register op d s1 s2 h.0 h.1 h.2
read-back (Immediate op d s1 imm) h = read-immediate op d s1 imm h.0 h.1 h.2
read-back (Lui d imm) h = read-lui d imm h.0 h.2
read-back (Auipc d imm) h = read-auipc d imm h.0 h.2
read-back (Load op d s1 imm) h = read-load op d s1 imm h.0 h.1 h.2
read-back (Store op s1 s2 imm) h = read-store op s1 s2 imm h.0 h.1 h.2
read-back (Branch op s1 s2 imm) h = read-branch op s1 s2 imm h.0 h.1 h.2 h.3
read-back (Jal d imm) h = read-jal d imm h.0 h.1 h.2
read-back (Jalr d s1 imm) h = read-jalr d s1 imm h.0 h.1 h.2
read-back Fence h = refl
read-back Ecall h = refl
read-back Ebreak h = refl
read-back Illegal h = absurd h
