-- What `==` means. The `laws` of each crate prove it of the crate's types.
use Rattle.std.specs.Prelude.{◌≡◌, ◌↔◌, Bool, IsTrue}

-- The test is true exactly of equal values.
abbrev pub TellsEqual : (A : Type 0) → (A → A → Bool) → Type 0
TellsEqual A eq = (a b : A) → IsTrue (eq a b) ↔ (a ≡ b)
