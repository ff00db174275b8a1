-- What is written as a field is read as that field. The laws also say what the words of Fields exclude. `laws` proves each.
use Rattle.std.specs.Prelude.{◌≡◌, ◌↔◌, ℕ, ◌<◌, ◌≤◌, ◌^◌, List, ◌∷◌, ◌++◌, length, Ok, Err}
use Rattle.std.specs.Int.{w8, w32, w64, to_be_bytes}
use Rattle.std.specs.List.{All}
use Rattle.outcome.specs.Bytes.{IsBytes}
use Rattle.log_chain.specs.Fields.{IsBytesOf, IsBytesUpTo, IsListUpTo, Writes, number_at, take_at, bytes_at, bytes_text}

-- If a field of any kind is written in front of a rest, it is read back, and the rest is left.
pub record FieldsReadBack : Type 0 where
  pub u8 : (n : ℕ) (rest : List ℕ) → n < 2 ^ 8 → number_at w8 (n ∷ rest) ≡ Ok (n, rest)
  pub u32 : (n : ℕ) (rest : List ℕ) → n < 2 ^ 32 → number_at w32 (to_be_bytes w32 n ++ rest) ≡ Ok (n, rest)
  pub u64 : (n : ℕ) (rest : List ℕ) → n < 2 ^ 64 → number_at w64 (to_be_bytes w64 n ++ rest) ≡ Ok (n, rest)
  pub plain : (text rest : List ℕ) → take_at (length text) (text ++ rest) ≡ Ok (text, rest)
  pub bytes : (most : ℕ) (text rest : List ℕ) → most < 2 ^ 32 → length text ≤ most → bytes_at most (bytes_text text ++ rest) ≡ Ok (text, rest)

-- After a call there is what it writes after the old text, and nothing else. After a refusal there is only the old text.
pub record WritesAsExpected (A E : Type 0) : Type 0 where
  pub written : (done : A) (old new text : List ℕ) → Writes {E = E} (Ok done) old new text ↔ (new ≡ old ++ text)
  pub refused : (memory : E) (old new text : List ℕ) → Writes {A = A} (Err memory) old new text ↔ (new ≡ old)

-- The words for what has a spelling hold exactly if each byte or part fits, and the count is as they say.
pub record SpelledPartsFit : Type 0 where
  pub of : (n : ℕ) (text : List ℕ) → IsBytesOf n text ↔ (IsBytes text × (length text ≡ n))
  pub up_to : (most : ℕ) (text : List ℕ) → IsBytesUpTo most text ↔ (IsBytes text × (length text ≤ most))
  pub list : (most : ℕ) (xs : List (List ℕ)) → IsListUpTo most IsBytes xs ↔ (All IsBytes xs × (length xs ≤ most))
