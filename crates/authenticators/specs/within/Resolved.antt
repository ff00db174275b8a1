-- Claims whose keys were looked up.
use Rattle.std.specs.Prelude.{Bool, false, List, [], ◌∷◌, Option, Some, None}
use Rattle.lms_sign.specs.declared.signed.Signed.{Signed}
use Rattle.lms_sign.specs.SignedMessages.{is_signed}

-- There is a message with a key and a signature, and it is signed.
abbrev pub stands : Option Signed → Bool
stands None = false
stands (Some s) = is_signed s

-- The message that is there.
abbrev pub signed_in : Option Signed → List Signed
signed_in None = []
signed_in (Some s) = s ∷ []
