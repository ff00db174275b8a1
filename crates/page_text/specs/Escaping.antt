-- How a text stands in a page (HTML). A reader sees only printable ASCII of it. Every other byte, and the backslash, is seen as `\x` and
-- its two hexadecimal digits. Some bytes of what is seen could end or begin an element or an attribute. Each of them stands as a
-- reference to its character, by its number in two decimal digits.
use Rattle.std.specs.Prelude.{ℕ, List, [], ◌∷◌, ◌+◌, ◌/◌, ◌%◌, ◌<◌, ◌≢◌, ◌==◌, ◌||◌, nat_lt, Bool, if◌then◌else◌}
use Rattle.std.specs.List.{flat_map}

-- A hexadecimal digit.
abbrev pub digit : ℕ → ℕ
digit n = if nat_lt n 10 then 48 + n else 87 + n

-- Whether a byte is seen as its digits. It is so if it is below 32, the backslash, or above 126.
abbrev pub is_digits : ℕ → Bool
is_digits b = nat_lt b 32 || (b == 92) || nat_lt 126 b

-- What a reader sees of a byte.
unfoldable pub seen : ℕ → List ℕ
seen b = if is_digits b then 92 ∷ 120 ∷ digit (b / 16) ∷ digit (b % 16) ∷ [] else b ∷ []

-- Whether a byte stands as a reference. It is so if it is `"`, `&`, `'`, `<`, `>` or the backquote.
abbrev pub is_reference : ℕ → Bool
is_reference b = (b == 34) || (b == 38) || (b == 39) || (b == 60) || (b == 62) || (b == 96)

-- How a byte stands in a page: as `&#`, its two decimal digits and `;`, or as it is seen.
unfoldable pub spelled : ℕ → List ℕ
spelled b = if is_reference b then 38 ∷ 35 ∷ (48 + b / 10) ∷ (48 + b % 10) ∷ 59 ∷ [] else seen b

-- How a text stands in a page, byte after byte.
abbrev pub escaped : List ℕ → List ℕ
escaped text = flat_map spelled text

-- What a reader sees of a text, byte after byte.
abbrev pub legible : List ℕ → List ℕ
legible text = flat_map seen text

-- The byte is printable ASCII, ends no attribute and no element, and begins no element.
abbrev pub IsInert : ℕ → Type 0
IsInert b = (31 < b) × (b < 127) × (b ≢ 34) × (b ≢ 39) × (b ≢ 60) × (b ≢ 62) × (b ≢ 96)
