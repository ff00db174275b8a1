use Rattle.std.proofs.Common.{◌≡◌, refl}
use Rattle.std.specs.Prelude.{replicate}
use Rattle.lms_sign.specs.declared.types.OtsType.{OtsType}
use Rattle.lms_sign.specs.declared.types.OtsType.TheVariants.{W1, W2, W4, W8}
use Rattle.lms_sign.specs.OneTimeSignature.{checksum, shortfall}
use Rattle.lms_sign.proofs.laws.checksums_are_the_standards.Goals as goal

least : (ots : OtsType) → checksum ots (replicate 32 255) ≡ 0
unfolding shortfall
least W1 = refl
least W2 = refl
least W4 = refl
least W8 = refl

pub returns : goal.returns
unfolding shortfall
returns c = record { most_1 = refl; most_2 = refl; most_4 = refl; most_8 = refl; least = least }
