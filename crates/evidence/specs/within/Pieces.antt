-- How a text is written in pieces.
use Rattle.std.specs.Prelude.{◌≡◌, ◌++◌, ℕ, List, Option}
use Rattle.std.specs.Io.KnownBytes.{Appends}

-- The front of the text went to the writer, if the writer's bytes are known. What is left of the text is still to be written.
abbrev pub Sends : Option (List ℕ) → Option (List ℕ) → List ℕ → List ℕ → Type 0
Sends old new left text = (sent : List ℕ) × Appends old new sent × (text ≡ sent ++ left)
