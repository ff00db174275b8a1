-- The upper word of a product of integers, as the code computes it in 64 bits.
use Rattle.std.proofs.Common.{◌≡◌, ℕ, ◌<◌, ◌≤◌, ◌^◌, ◌-◌, ◌*◌, refl, arith, w32, w64, ℤ, pos, negsuc, ◌*ℤ◌, FitsSigned, to_z, of_z}
use Rattle.std.specs.Prelude.{unsigned_abs}
use Rattle.std.proofs.lemmas.Int.{to_z-of_z, fits_signed_mul}
use lib.Signed.{shr_z}

-- An integer whose sign is taken off fits a word of its own.
abs-fits : (z : ℤ) → FitsSigned w32 z → unsigned_abs z ≤ 2 ^ 31
abs-fits (pos n) h = let f : n < 2 ^ 31 = h.sfits in omega arith
abs-fits (negsuc n) h = let f : n < 2 ^ 31 = h.sfits in omega arith

wide : (z : ℤ) → FitsSigned w32 z → FitsSigned w64 z
wide (pos n) h = let f : n < 2 ^ 31 = h.sfits in record { sfits = omega arith }
wide (negsuc n) h = let f : n < 2 ^ 31 = h.sfits in record { sfits = omega arith }

pub upper-fits : (z : ℤ) → FitsSigned w64 z → FitsSigned w32 (shr_z z 4294967296)
upper-fits (pos n) h = let f : n < 2 ^ 63 = h.sfits in record { sfits = omega arith }
upper-fits (negsuc n) h = let f : n < 2 ^ 63 = h.sfits in record { sfits = omega arith }

-- Products of two words fit 64 bits.
pub product_fits : (x y : ℤ) → FitsSigned w32 x → FitsSigned w32 y → FitsSigned w64 (x *ℤ y)
product_fits x y fx fy =
    let small : 2 ^ 31 * 2 ^ 31 < 2 ^ 63 = omega arith in
    fits_signed_mul w64 x y (2 ^ 31) (2 ^ 31) (abs-fits x fx) (abs-fits y fy) small

pub mixed_fits : (x : ℤ) (b : ℕ) → FitsSigned w32 x → b < 2 ^ 32 → FitsSigned w64 (x *ℤ pos b)
mixed_fits x b fx h =
    let small : 2 ^ 31 * (2 ^ 32 - 1) < 2 ^ 63 = omega arith in
    let below : b ≤ 2 ^ 32 - 1 = omega arith in
    fits_signed_mul w64 x (pos b) (2 ^ 31) (2 ^ 32 - 1) (abs-fits x fx) below small

-- What the code computes of two integers x and y that fit 64 bits, and their product too.
upper : (x y : ℤ) → FitsSigned w64 x → FitsSigned w64 y → FitsSigned w64 (x *ℤ y)
    → of_z w32 (to_z w32 (of_z w32 (to_z w64 (of_z w64 (shr_z (to_z w64 (of_z w64 (to_z w64 (of_z w64 x) *ℤ to_z w64 (of_z w64 y)))) 4294967296)))))
    ≡ of_z w32 (shr_z (x *ℤ y) 4294967296)
upper x y fx fy fp =
    let high : FitsSigned w32 (shr_z (x *ℤ y) 4294967296) = upper-fits (x *ℤ y) fp in
    let high_wide : FitsSigned w64 (shr_z (x *ℤ y) 4294967296) = wide _ high in
    rw (to_z-of_z w64 x fx, to_z-of_z w64 y fy, to_z-of_z w64 (x *ℤ y) fp, to_z-of_z w64 _ high_wide, to_z-of_z w32 _ high) refl

pub upper-signed : (x y : ℤ) → FitsSigned w32 x → FitsSigned w32 y
    → of_z w32 (to_z w32 (of_z w32 (to_z w64 (of_z w64 (shr_z (to_z w64 (of_z w64 (to_z w64 (of_z w64 x) *ℤ to_z w64 (of_z w64 y)))) 4294967296)))))
    ≡ of_z w32 (shr_z (x *ℤ y) 4294967296)
upper-signed x y fx fy = upper x y (wide x fx) (wide y fy) (product_fits x y fx fy)

-- The same, where the second has no sign.
pub upper-mixed : (x : ℤ) (b : ℕ) → FitsSigned w32 x → b < 2 ^ 32
    → of_z w32 (to_z w32 (of_z w32 (to_z w64 (of_z w64 (shr_z (to_z w64 (of_z w64 (to_z w64 (of_z w64 x) *ℤ to_z w64 (of_z w64 (pos b))))) 4294967296)))))
    ≡ of_z w32 (shr_z (x *ℤ pos b) 4294967296)
upper-mixed x b fx h =
    let fits : FitsSigned w64 (pos b) = record { sfits = omega arith } in
    upper x (pos b) (wide x fx) fits (mixed_fits x b fx h)
