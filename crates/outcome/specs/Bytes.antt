-- Texts of bytes. A contract sees a text as a list of numbers.
use Rattle.std.specs.Prelude.{ℕ, ◌<◌, ◌↔◌, List, [], ◌∷◌, slice_index}

-- Each element is a byte.
abbrev pub IsBytes : List ℕ → Type 0
IsBytes text = (i : ℕ) → slice_index text i < 256

-- The empty list is a text of bytes. A list with a first number is one exactly if that number is below 256 and the rest is
-- a text of bytes. `laws` proves it.
pub record TextsOfBytes : Type 0 where
  pub none : IsBytes []
  pub more : (byte : ℕ) (text : List ℕ) → IsBytes (byte ∷ text) ↔ ((byte < 256) × IsBytes text)
