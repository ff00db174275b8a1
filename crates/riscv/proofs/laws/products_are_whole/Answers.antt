use Rattle.std.proofs.Common.{◌≡◌, ℕ, ◌%◌, w32, w64, ℤ, pos, ◌*ℤ◌, ◌+ℤ◌, FitsSigned, to_z, of_z, arith}
use Rattle.std.proofs.lemmas.Int.{ints, to_z-of_z}
use Rattle.riscv.proofs.Integers.{signed_fits, Congruent, congruent, congruent_mixed, parts}
use Rattle.riscv.proofs.Products.{product_fits, mixed_fits, upper-fits}
use lib.Signed.{shr_z}
use Rattle.riscv.proofs.laws.products_are_whole.Goals as goal

two_words : (p : ℤ) (n q : ℕ) → FitsSigned w64 p → Congruent p n q
    → p ≡ to_z w32 (of_z w32 (shr_z p 4294967296)) *ℤ pos 4294967296 +ℤ pos (n % 4294967296)
two_words p n q fits c = rw (to_z-of_z w32 _ (upper-fits p fits)) (parts p n q c)

pub returns : goal.returns
returns c = λ a b h i.
    let both = congruent a b h i in
    let mixed = congruent_mixed a b h in (
      two_words _ _ both.0 (product_fits _ _ (signed_fits a h) (signed_fits b i)) both.1,
      two_words _ _ mixed.0 (mixed_fits _ b (signed_fits a h) i) mixed.1,
      omega (arith, ints),
    )
