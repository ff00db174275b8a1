use Rattle.std.proofs.Common.{refl}
use Rattle.lms_sign.proofs.Lengths.{signature_len-most}
use Rattle.lms_sign.proofs.laws.no_signature_is_longer.Goals as goal

pub returns : goal.returns
returns c = record { most = signature_len-most; longest = refl }
