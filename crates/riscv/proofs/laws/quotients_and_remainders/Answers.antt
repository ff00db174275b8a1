use Rattle.std.proofs.Common.{◌≡◌, ℕ, ◌<◌, ◌^◌, ◌/◌, ◌%◌, w32, pos, negsuc, inl, inr, ◌*ℤ◌, ◌+ℤ◌, FitsSigned, to_z, of_z, sym, ◌∙◌, arith}
use Rattle.std.specs.Prelude.{◌==◌, false, unsigned_abs, int_div, int_rem}
use Rattle.std.proofs.lemmas.Bool.Decides.{nat_tests}
use Rattle.std.proofs.lemmas.Int.{ints, to_z-of_z, quot-rem, rem_below}
use Rattle.riscv.specs.Arithmetic.{signed}
use Rattle.riscv.proofs.Integers.{signed_fits, signed_cases, quotient_fits}
use lib.Signed.{mag_rem}
use mir.ValLaws.{sfits_le}
use Rattle.riscv.proofs.laws.quotients_and_remainders.Goals as goal

least : (a : ℕ) → a < 2 ^ 32 → signed a ≡ negsuc 2147483647 → a ≡ 2 ^ 31
least a h e = elim (signed_cases a h) [
  | inl u ↦ absurd (let differ : ⊥ = cc (sym u.1 ∙ e) in differ)
  | inr u ↦ (let k : u.0 ≡ 2147483647 = cc (sym u.3 ∙ e) in omega (arith, u.1))
]

minus_one : (b : ℕ) → b < 2 ^ 32 → signed b ≡ negsuc 0 → b ≡ 4294967295
minus_one b h e = elim (signed_cases b h) [
  | inl u ↦ absurd (let differ : ⊥ = cc (sym u.1 ∙ e) in differ)
  | inr u ↦ (let k : u.0 ≡ 0 = cc (sym u.3 ∙ e) in omega (arith, u.1))
]

not_zero : (b : ℕ) → b < 2 ^ 32 → 0 < b → 0 < unsigned_abs (signed b)
not_zero b h p = grind (arith, ints)

rem_fits : (a b : ℕ) → a < 2 ^ 32 → FitsSigned w32 (int_rem (signed a) (signed b))
rem_fits a b h = sfits_le (mag_rem (signed a) (signed b)) (signed_fits a h)

whole : (a b : ℕ) → a < 2 ^ 32 → b < 2 ^ 32 → (a ≡ 2 ^ 31 → b ≡ 4294967295 → ⊥)
    → to_z w32 (of_z w32 (int_div (signed a) (signed b))) *ℤ signed b +ℤ to_z w32 (of_z w32 (int_rem (signed a) (signed b))) ≡ signed a
whole a b h i apart =
    let quotient : FitsSigned w32 (int_div (signed a) (signed b)) =
    quotient_fits _ _ (signed_fits a h) (λ e f. apart (least a h e) (minus_one b i f)) in
    let remainder : FitsSigned w32 (int_rem (signed a) (signed b)) = rem_fits a b h in
    rw (to_z-of_z w32 _ quotient, to_z-of_z w32 _ remainder) (quot-rem (signed a) (signed b))

near : (a b : ℕ) → a < 2 ^ 32 → b < 2 ^ 32 → 0 < b → unsigned_abs (to_z w32 (of_z w32 (int_rem (signed a) (signed b)))) < unsigned_abs (signed b)
near a b h i p =
    let remainder : FitsSigned w32 (int_rem (signed a) (signed b)) = rem_fits a b h in
    rw (to_z-of_z w32 _ remainder) (rem_below (signed a) (signed b) (not_zero b i p))

unsigned : (a b : ℕ) → 0 < b → pos (a / b) *ℤ pos b +ℤ pos (a % b) ≡ pos a
unsigned a b p = omega (arith, ints)

tested : (b : ℕ) → 0 < b → (b == 0) ≡ false
tested b p = grind (arith, nat_tests)

pub returns : goal.returns
returns c = λ a b h i p.
    let below : a % b < b = omega arith in
    rw (tested b p) (whole a b h i, near a b h i p, unsigned a b p, below)
