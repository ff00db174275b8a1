-- Words as integers: what is rounded down, products in two words, quotients and remainders.
use Rattle.std.proofs.Common.{◌≡◌, ℕ, zero, suc, ◌<◌, ◌≤◌, ◌^◌, ◌+◌, ◌-◌, ◌*◌, ◌/◌, ◌%◌, ◌⊎◌, inl, inr, refl, sym, ap, subst, arith, w32, ℤ, pos, negsuc, ◌+ℤ◌, ◌*ℤ◌, neg_ℤ, ◌≤ℤ◌, ◌<ℤ◌, FitsSigned}
use Rattle.std.specs.Prelude.{int_div}
use Rattle.std.proofs.lemmas.Int.{ints}
use borrow.Author.Differences.{up, down}
use native.Mathlib.Nat.{div-le_self, mul-le-mul_left}
use lib.Signed.{shr_z}
use Rattle.riscv.specs.Arithmetic.{signed}

pub signed_fits : (a : ℕ) → a < 2 ^ 32 → FitsSigned w32 (signed a)
signed_fits a h = omega (arith, ints)

-- The two readings of a word.
pub signed_cases : (a : ℕ) → a < 2 ^ 32 → ((a < 2 ^ 31) × (signed a ≡ pos a)) ⊎ ((k : ℕ) × (a + suc k ≡ 2 ^ 32) × (k < 2 ^ 31) × (signed a ≡ negsuc k))
signed_cases a h = grind (arith, ints)

-- ---- division that rounds down

next : (q : ℕ) → negsuc q +ℤ pos 1 ≡ neg_ℤ (pos q)
next q = omega (arith, ints)

above : (a q m : ℕ) → q * m ≤ a → negsuc a <ℤ (neg_ℤ (pos q) *ℤ pos m)
above a zero m h = omega (arith, ints)
above a (suc q) m h = omega (arith, ints)

pub floor : (z : ℤ) (m : ℕ) → 0 < m → ((shr_z z m *ℤ pos m) ≤ℤ z) × (z <ℤ ((shr_z z m +ℤ pos 1) *ℤ pos m))
floor (pos a) m h = (omega (arith, ints), omega (arith, ints))
floor (negsuc a) m h =
    let low : (a / m) * m ≤ a = omega arith in
    (omega (arith, ints), subst (λ (z : ℤ). negsuc a <ℤ (z *ℤ pos m)) (sym (next (a / m))) (above a (a / m) m low))

-- ---- products in two words

-- p and the natural number n differ by q times 2^32.
pub record Congruent (p : ℤ) (n q : ℕ) : Type 0 where
  pub apart : up p + 4294967296 * q ≡ down p + n

pub parts : (p : ℤ) (n q : ℕ) → Congruent p n q → p ≡ shr_z p 4294967296 *ℤ pos 4294967296 +ℤ pos (n % 4294967296)
parts (pos k) n q c = let e : k + 4294967296 * q ≡ n = omega (arith, c.apart) in omega (arith, ints)
parts (negsuc k) n q c = let e : 4294967296 * q ≡ suc k + n = omega (arith, c.apart) in omega (arith, ints)

pub congruent-pp : (a b : ℕ) → Congruent (pos a *ℤ pos b) (a * b) 0
congruent-pp a b = record { apart = omega arith }

pub congruent-np : (a b k : ℕ) → a + suc k ≡ 4294967296 → Congruent (negsuc k *ℤ pos b) (a * b) b
congruent-np a b k e = record { apart = omega (arith, ints, ap (λ n. n * b) e) }

pub congruent-pn : (a b l : ℕ) → b + suc l ≡ 4294967296 → Congruent (pos a *ℤ negsuc l) (a * b) a
congruent-pn a b l e = record { apart = omega (arith, ints, ap (λ n. a * n) e) }

pub congruent-nn : (a b k l q : ℕ) → a + suc k ≡ 4294967296 → b + suc l ≡ 4294967296 → a ≡ suc l + q → Congruent (negsuc k *ℤ negsuc l) (a * b) q
congruent-nn a b k l q e f g = record { apart = omega (arith, ints, ap (λ n. n * suc l) e, ap (λ n. a * n) f, ap (λ n. n * 4294967296) g) }

same-product : (a b q : ℕ) (x y x' y' : ℤ) → x ≡ x' → y ≡ y' → Congruent (x' *ℤ y') (a * b) q → Congruent (x *ℤ y) (a * b) q
same-product a b q x y x' y' e f c = rw (e, f) c

-- Readings differ from their words by multiples of 2^32, and so do the products.
pub congruent_mixed : (a b : ℕ) → a < 2 ^ 32 → (q : ℕ) × Congruent (signed a *ℤ pos b) (a * b) q
congruent_mixed a b h = elim (signed_cases a h) [
  | inl u ↦ (0, same-product a b 0 _ _ _ _ u.1 refl (congruent-pp a b))
  | inr u ↦ (b, same-product a b b _ _ _ _ u.3 refl (congruent-np a b u.0 u.1))
]

pub congruent : (a b : ℕ) → a < 2 ^ 32 → b < 2 ^ 32 → (q : ℕ) × Congruent (signed a *ℤ signed b) (a * b) q
congruent a b h i = elim (signed_cases b i) [
  | inl v ↦ (let m = congruent_mixed a b h in (m.0, same-product a b m.0 _ _ _ _ refl v.1 m.1))
  | inr v ↦ elim (signed_cases a h) [
    | inl u ↦ (a, same-product a b a _ _ _ _ u.1 v.3 (congruent-pn a b v.0 v.1))
    | inr u ↦ (a - suc v.0, same-product a b (a - suc v.0) _ _ _ _ u.3 v.3 (congruent-nn a b u.0 v.0 (a - suc v.0) u.1 v.1 (omega arith)))
  ]
]

-- ---- quotients and remainders

-- The quotient of a number by a greater one than 1 is at most its half.
half : (n d : ℕ) → 1 < d → n / d * 2 ≤ n
half n d h = let e : n / d * d ≤ n = omega arith in let f : n / d * 2 ≤ n / d * d = mul-le-mul_left (n / d) h in omega arith

neg_fits : (n : ℕ) → n ≤ 2 ^ 31 → FitsSigned w32 (neg_ℤ (pos n))
neg_fits zero h = record { sfits = omega arith }
neg_fits (suc n) h = record { sfits = omega arith }

below_least : (a : ℕ) → a < 2 ^ 31 → (a ≡ 2147483647 → ⊥) → a < 2147483647
below_least a h apart = omega arith

-- A quotient of two words fits one, but for that of -2^31 by -1.
pub quotient_fits : (x y : ℤ) → FitsSigned w32 x → (x ≡ negsuc 2147483647 → y ≡ negsuc 0 → ⊥) → FitsSigned w32 (int_div x y)
quotient_fits (pos a) (pos b) f apart = let h : a < 2 ^ 31 = f.sfits in record { sfits = omega (arith, div-le_self a b) }
quotient_fits (pos a) (negsuc b) f apart =
    let h : a < 2 ^ 31 = f.sfits in
    neg_fits (a / suc b) (omega (arith, div-le_self a (suc b)))
quotient_fits (negsuc a) (pos b) f apart =
    let h : a < 2 ^ 31 = f.sfits in
    neg_fits (suc a / b) (omega (arith, div-le_self (suc a) b))
quotient_fits (negsuc a) (negsuc zero) f apart =
    let h : a < 2 ^ 31 = f.sfits in
    let less : a < 2147483647 = below_least a h (λ e. apart (ap negsuc e) refl) in
    record { sfits = omega (arith, div-le_self (suc a) 1) }
quotient_fits (negsuc a) (negsuc (suc b)) f apart =
    let h : a < 2 ^ 31 = f.sfits in
    record { sfits = omega (arith, half (suc a) (suc (suc b)) (omega arith)) }
