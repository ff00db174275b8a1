-- Files that no crash leaves, and files that one can leave.
use Rattle.std.specs.Prelude.{◌≡◌, ◌≢◌, ℕ, ◌+◌, ◌<◌, List, ◌∷◌, ◌++◌, length, true, false}
use Rattle.journal.specs.Journal.{number_of, covered, counts, can_be_left}
use Rattle.journal.specs.Reading.{IsDamaged}

-- No crash leaves a file with an open gate and its two numbers behind whole blocks, if their block doesn't count.
abbrev pub OpenGatesHaveBlocks : Type 0
OpenGatesHaveBlocks =
    (front behind : List ℕ) (gate a b c d e f g h : ℕ) → covered front ≡ length front → gate ≢ 0
    → counts gate (number_of a b c d) (number_of e f g h) (length behind) ≡ false
    → can_be_left (front ++ gate ∷ a ∷ b ∷ c ∷ d ∷ e ∷ f ∷ g ∷ h ∷ behind) ≡ false

-- A block doesn't count if the sum of its two numbers is below 2^32 - 1. Bits that are lost from either make the sum smaller, never
-- greater.
abbrev pub LostBitsAreSeen : Type 0
LostBitsAreSeen = (gate size lack behind : ℕ) → size + lack < 4294967295 → counts gate size lack behind ≡ false

-- If a crash can leave a file, no beginning of it that was found is damaged, nor is all of it.
abbrev pub LeftFilesAreRead : Type 0
LeftFilesAreRead =
    (file found behind seen : List ℕ) → can_be_left file ≡ true → found ++ behind ≡ file → (found ≡ seen → seen ≡ file) → IsDamaged found seen → ⊥
