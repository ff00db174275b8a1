-- Lines of digits, and an importer while it is fed the bytes that they spell.
use Rattle.std.specs.Prelude.{◌≡◌, ℕ, List, [], ◌∷◌, ◌++◌, Result, Ok}
use Rattle.std.specs.List.{All}
use Rattle.std.specs.Result.{IsOk}
use Rattle.hex.specs.Hex.{decode_of}
use Rattle.containers.specs.declared.fault.ImportFault.{ImportFault}

-- Each line is an even number of digits.
abbrev pub AreDigits : List (List ℕ) → Type 0
AreDigits lines = All (λ line. IsOk (decode_of line)) lines

-- The lines spell the texts, each its own.
unfoldable pub AreSpelled : List (List ℕ) → List (List ℕ) → Type 0
AreSpelled [] texts = texts ≡ []
AreSpelled (line ∷ lines) texts = (text : List ℕ) × (more : List (List ℕ)) × (decode_of line ≡ Ok text) × AreSpelled lines more × (texts ≡ text ∷ more)

-- The importer was fed the old bytes before, and was then fed the bytes that the digits before the rest spell.
pub record IsFedUpTo (old now : Result (List ℕ) ImportFault) (rest bytes : List ℕ) : Type 0 where
  pub so_far : List ℕ
  pub more : List ℕ
  pub left : decode_of rest ≡ Ok more
  pub whole : so_far ++ more ≡ bytes
  pub fed : (done : List ℕ) → old ≡ Ok done → now ≡ Ok (done ++ so_far)
