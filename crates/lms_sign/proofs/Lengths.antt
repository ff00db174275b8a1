-- No signature is longer than those of the highest tree and the most chains.
use Rattle.std.proofs.Common.{◌≤◌, arith, lit≤}
use Rattle.lms_sign.specs.declared.types.LmsType.{LmsType}
use Rattle.lms_sign.specs.declared.types.LmsType.TheVariants.{H5, H10, H15, H20, H25}
use Rattle.lms_sign.specs.declared.types.OtsType.{OtsType}
use Rattle.lms_sign.specs.declared.types.OtsType.TheVariants.{W1, W2, W4, W8}
use Rattle.lms_sign.specs.declared.types.TheConstants.{LONGEST_SIGNATURE}
use Rattle.lms_sign.specs.Parameters.{height, chain_count, signature_len}

height-most : (lms : LmsType) → height lms ≤ 25
height-most H5 = lit≤ tt
height-most H10 = lit≤ tt
height-most H15 = lit≤ tt
height-most H20 = lit≤ tt
height-most H25 = lit≤ tt

chain_count-most : (ots : OtsType) → chain_count ots ≤ 265
chain_count-most W1 = lit≤ tt
chain_count-most W2 = lit≤ tt
chain_count-most W4 = lit≤ tt
chain_count-most W8 = lit≤ tt

pub signature_len-most : (lms : LmsType) (ots : OtsType) → signature_len lms ots ≤ LONGEST_SIGNATURE
signature_len-most lms ots = omega (arith, height-most lms, chain_count-most ots)
