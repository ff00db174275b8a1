-- What a text has behind its last whole block (FIPS 180-4, section 5.1.1)
use Rattle.std.specs.Prelude.{◌≡◌, ℕ, ◌+◌, ◌*◌, ◌/◌, ◌%◌, List, length, take, drop}
use Rattle.sha2.specs.Sha256.{padded_message}

-- the number of blocks of a padded text of n bytes that are not whole blocks of the text
abbrev pub tail_blocks : ℕ → ℕ
tail_blocks n = (n % 64 + 72) / 64

-- t begins with these blocks of the padded text m
abbrev pub IsTail : List ℕ → List ℕ → Type 0
IsTail m t = take (64 * tail_blocks (length m)) t ≡ drop (length m / 64 * 64) (padded_message m)
