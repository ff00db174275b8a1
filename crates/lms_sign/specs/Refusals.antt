-- The number and the name of each refusal.
use Rattle.std.specs.Prelude.{ℕ, List, codes}
use Rattle.lms_sign.specs.declared.key.KeyFault.{KeyFault}
use Rattle.lms_sign.specs.declared.key.KeyFault.TheVariants as reading
use Rattle.lms_sign.specs.declared.secret_key.MakeFault.{MakeFault}
use Rattle.lms_sign.specs.declared.secret_key.MakeFault.TheVariants as making
use Rattle.lms_sign.specs.declared.secret_key.SignFault.{SignFault}
use Rattle.lms_sign.specs.declared.secret_key.SignFault.TheVariants as signing

-- ---- of a key's text

abbrev pub key_number : KeyFault → ℕ
key_number reading.KeyLength = 1
key_number reading.UnknownLmsType = 2
key_number reading.UnknownOtsType = 3

abbrev pub key_name : KeyFault → List ℕ
key_name reading.KeyLength = codes "KeyLength"
key_name reading.UnknownLmsType = codes "UnknownLmsType"
key_name reading.UnknownOtsType = codes "UnknownOtsType"

-- ---- of making a key

abbrev pub make_number : MakeFault → ℕ
make_number making.HeightTooLarge = 4
make_number making.Memory = 99

abbrev pub make_name : MakeFault → List ℕ
make_name making.HeightTooLarge = codes "HeightTooLarge"
make_name making.Memory = codes "Memory"

-- ---- of signing

abbrev pub sign_number : SignFault → ℕ
sign_number signing.KeySpent = 5
sign_number signing.Memory = 99

abbrev pub sign_name : SignFault → List ℕ
sign_name signing.KeySpent = codes "KeySpent"
sign_name signing.Memory = codes "Memory"
