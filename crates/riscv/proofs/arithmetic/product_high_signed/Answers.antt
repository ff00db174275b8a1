use Rattle.std.proofs.Common.{◌≡◌, subst, ◌∙◌, w32, ℤ, FitsSigned, to_z}
use Rattle.std.proofs.lemmas.Int.{to_z-of_z}
use Rattle.riscv.proofs.Products.{upper-signed}
use Rattle.riscv.proofs.arithmetic.product_high_signed.Goals as goal

pub returns : goal.returns
returns c =
    let fits : FitsSigned w32 c.cast_signed.result = record { sfits = c.cast_signed.type_inv } in
    let fits-2 : FitsSigned w32 c.cast_signed-2.result = record { sfits = c.cast_signed-2.type_inv } in
    let x : c.from.result ≡ to_z w32 c.args.a = c.from.ensures ∙ to_z-of_z w32 _ fits ∙ c.cast_signed.ensures in
    let y : c.from-2.result ≡ to_z w32 c.args.b = c.from-2.ensures ∙ to_z-of_z w32 _ fits-2 ∙ c.cast_signed-2.ensures in
    let fits_a : FitsSigned w32 (to_z w32 c.args.a) = subst (λ (z : ℤ). FitsSigned w32 z) c.cast_signed.ensures fits in
    let fits_b : FitsSigned w32 (to_z w32 c.args.b) = subst (λ (z : ℤ). FitsSigned w32 z) c.cast_signed-2.ensures fits-2 in
    rw y at (rw x at c.cast_unsigned.ensures) ∙ upper-signed _ _ fits_a fits_b
