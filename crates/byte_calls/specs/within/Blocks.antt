-- The first block of a file.
use Rattle.std.specs.Prelude.{ℕ, List, ◌∷◌, length, Option, Some, None, if◌then◌else◌}
use Rattle.journal.specs.Journal.{counts, number_of}

-- How many bytes the text of the first block has, or None if no block counts there.
abbrev pub first_len : List ℕ → Option ℕ
first_len (gate ∷ a ∷ b ∷ c ∷ d ∷ e ∷ f ∷ g ∷ h ∷ rest) = if counts gate (number_of a b c d) (number_of e f g h) (length rest) then Some (number_of a b c d) else None
first_len file = None
