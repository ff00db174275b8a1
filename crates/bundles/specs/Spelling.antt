-- What a bundle is, and what its one text is, line by line. A line feed (10) ends each line.
use Rattle.std.specs.Prelude.{◌≡◌, ◌==◌, ◌&&◌, ◌||◌, nat_le, ℕ, Bool, false, List, [], ◌∷◌, ◌++◌, length, IsTrue, codes}
use Rattle.std.specs.List.{All, flat_map, list_all}
use Rattle.hex.specs.Hex.{encode_lower}
use Rattle.outcome.specs.Bytes.{IsBytes}

-- What a bundle hands over: sentences for people, as they stand, the name of a program, and the bytes of a directory and of a proof.
pub record Contents : Type 0 where
  pub sentences : List ℕ
  pub program : List ℕ
  pub directory : List ℕ
  pub proof : List ℕ

-- ---- lines

-- The line and its line feed.
abbrev pub ended : List ℕ → List ℕ
ended line = line ++ 10 ∷ []

-- A character from a blank to `~`.
abbrev pub is_printed : ℕ → Bool
is_printed c = nat_le 32 c && nat_le c 126

-- `#`, and characters from a blank to `~`.
abbrev pub is_sentence : List ℕ → Bool
is_sentence [] = false
is_sentence (c ∷ rest) = (c == 35) && list_all is_printed rest

-- `a` to `z`, `0` to `9` and `_`.
abbrev pub is_name_character : ℕ → Bool
is_name_character c = (nat_le 97 c && nat_le c 122) || (nat_le 48 c && nat_le c 57) || (c == 95)

-- 1 to 32 characters of a name.
abbrev pub is_name : List ℕ → Bool
is_name name = nat_le 1 (length name) && nat_le (length name) 32 && list_all is_name_character name

-- ---- what a bundle may have

-- Lines that are sentences, one after the other.
pub record AreSentences (text : List ℕ) : Type 0 where
  pub lines : List (List ℕ)
  pub each : All (λ line. IsTrue (is_sentence line)) lines
  pub joined : text ≡ flat_map ended lines

-- Each part is as bundles have it.
pub record IsBundle (b : Contents) : Type 0 where
  pub sentences : AreSentences b.sentences
  pub program : IsTrue (is_name b.program)
  pub directory : IsBytes b.directory
  pub proof : IsBytes b.proof

-- ---- the text

-- The first line of each bundle.
abbrev pub first_line : List ℕ
first_line = codes "bulwynef bundle 2"

-- The lines behind the sentences. Digits are hexadecimal, two for each byte, in lower case.
abbrev pub last_lines : Contents → List (List ℕ)
last_lines b = (codes "program " ++ b.program) ∷ encode_lower b.directory ∷ encode_lower b.proof ∷ []

-- The text of a bundle.
unfoldable pub text_of : Contents → List ℕ
text_of b = ended first_line ++ b.sentences ++ flat_map ended (last_lines b)

-- The first line of each bundle of format 1, which is no longer read.
abbrev pub older_line : List ℕ
older_line = codes "bulwynef bundle 1"
