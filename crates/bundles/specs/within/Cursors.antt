-- Steps from line to line.
use Rattle.std.specs.Prelude.{◌≡◌, ◌≤◌, ◌+◌, ℕ, true, List, ◌∷◌, ◌++◌, length}
use Rattle.bundles.specs.Grammar.{Reached, lines_of, sentences_from}
use Rattle.bundles.specs.Spelling.{is_sentence}

-- The text is the line, its end, and the rest.
pub record IsLine (text line rest : List ℕ) : Type 0 where
  pub whole : text ≡ line ++ 10 ∷ rest
  pub lines : lines_of text ≡ line ∷ lines_of rest

-- The text is a line that is a sentence, and the rest.
pub record IsBehindSentence (text rest : List ℕ) : Type 0 where
  pub line : List ℕ
  pub is : IsLine text line rest
  pub sentence : is_sentence line ≡ true

-- The line is the next one of a place, and the other place is behind it.
pub record IsNext (at : Reached) (line : List ℕ) (behind : Reached) : Type 0 where
  pub number : behind.number ≡ at.number + 1
  pub left : at.left ≡ line ∷ behind.left
  pub ends : 1 ≤ length behind.left

-- The text begins with so many sentences. The rest stands behind them.
pub record AreInFront (text rest : List ℕ) (count : ℕ) : Type 0 where
  pub front : List ℕ
  pub whole : text ≡ front ++ rest
  pub sentences : (n : ℕ) → sentences_from n (lines_of text) ≡ (front ++ (sentences_from (n + count) (lines_of rest)).0, (sentences_from (n + count) (lines_of rest)).1)
