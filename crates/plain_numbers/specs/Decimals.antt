-- Numbers that words spell.
use Rattle.std.specs.Prelude.{◌≡◌, ◌<◌, ◌^◌, ℕ, List, Option, Some, None, decimal}
use Rattle.std.specs.Str.Parse.{digits_value}

-- The number is the one that the word spells in decimal digits. If there is none, the word spells no number below 2^64.
abbrev pub IsRead : Option ℕ → List ℕ → Type 0
IsRead (Some number) word = (digits_value 10 word ≡ number) × (decimal number ≡ word)
IsRead None word = (number : ℕ) → number < 2 ^ 64 → decimal number ≡ word → ⊥
