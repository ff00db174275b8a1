use Rattle.std.proofs.Common.{◌^◌, ◌%◌, w32, FitsSigned}
use Rattle.std.proofs.lemmas.Int.{to_z-of_z}
use Rattle.riscv.specs.Arithmetic.{signed}
use Rattle.riscv.proofs.Integers.{signed_fits, floor}
use lib.Pow.{pow_pos}
use lib.Signed.{shr_z, mag_shr}
use mir.ValLaws.{sfits_le}
use Rattle.riscv.proofs.laws.shifts_round_down.Goals as goal

pub returns : goal.returns
returns c = λ a b h.
    let fits : FitsSigned w32 (shr_z (signed a) (2 ^ (b % 32))) = sfits_le (mag_shr (signed a) (2 ^ (b % 32))) (signed_fits a h) in
    rw (to_z-of_z w32 _ fits) (floor (signed a) (2 ^ (b % 32)) (pow_pos (b % 32)))
