-- Words that begin as numbers do.
use Rattle.std.specs.Prelude.{◌==◌, ◌&&◌, not, ℕ, Bool, false, List, [], ◌∷◌}
use Rattle.std.specs.Char.{is_ascii_digit}

-- The word begins with a digit, which is no zero unless it is the whole word.
abbrev pub is_plain : List ℕ → Bool
is_plain [] = false
is_plain (digit ∷ []) = is_ascii_digit digit
is_plain (digit ∷ next ∷ more) = is_ascii_digit digit && not (digit == 48)
