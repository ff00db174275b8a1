use Rattle.std.proofs.Common.{◌≡◌, subst, ◌∙◌, w32, ℤ, FitsSigned, to_z, arith}
use Rattle.std.proofs.lemmas.Int.{to_z-of_z}
use Rattle.riscv.proofs.Products.{upper-mixed}
use Rattle.riscv.proofs.arithmetic.product_high_mixed.Goals as goal

pub returns : goal.returns
returns c =
    let fits : FitsSigned w32 c.cast_signed.result = record { sfits = c.cast_signed.type_inv } in
    let x : c.from.result ≡ to_z w32 c.args.a = c.from.ensures ∙ to_z-of_z w32 _ fits ∙ c.cast_signed.ensures in
    let fits_a : FitsSigned w32 (to_z w32 c.args.a) = subst (λ (z : ℤ). FitsSigned w32 z) c.cast_signed.ensures fits in
    rw c.from-2.ensures at (rw x at c.cast_unsigned.ensures) ∙ upper-mixed _ _ fits_a (omega arith)
