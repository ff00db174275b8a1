-- Messages with what is claimed to be their signatures (RFC 8554, section 5.4.2).
use Rattle.std.specs.Prelude.{Bool}
use Rattle.lms_sign.specs.declared.signed.Signed.{Signed}
use Rattle.lms_sign.specs.LmsSignature.{verifies}

-- whether the bytes are a signature of the message under the key
abbrev pub is_signed : Signed → Bool
is_signed s = verifies s.key.now s.message.now s.signature.now
