-- Parts of texts of bytes, and numbers spelled in four or eight bytes.
use Rattle.std.proofs.Common.{◌≡◌, ℕ, zero, suc, ◌+◌, ◌^◌, ◌<◌, List, [], ◌∷◌, length, take, drop, refl, arith, inl, inr}
use Rattle.std.specs.Int.{Width, w32, w64, byte_len, from_be_bytes, to_be_bytes}
use Rattle.std.proofs.lemmas.Bool.{cases_lt}
use Rattle.std.proofs.lemmas.List.{length-take, get_or-drop, get_or-take, get_or_past}
use Rattle.std.proofs.lemmas.Nat.{be_bytes_4, be_bytes_8, from_be_bytes-to_be_bytes_4, from_be_bytes-to_be_bytes_8}
use Rattle.outcome.specs.Bytes.{IsBytes}

pub IsBytes-cons : (byte : ℕ) (text : List ℕ) → byte < 256 → IsBytes text → IsBytes (byte ∷ text)
IsBytes-cons byte text first others zero = first
IsBytes-cons byte text first others (suc i) = others i

pub IsBytes-rest : (byte : ℕ) (text : List ℕ) → IsBytes (byte ∷ text) → IsBytes text
IsBytes-rest byte text h i = h (suc i)

pub IsBytes-none : IsBytes []
IsBytes-none i = omega arith

pub IsBytes-drop : (n : ℕ) (bytes : List ℕ) → IsBytes bytes → IsBytes (drop n bytes)
IsBytes-drop n bytes h i = rw get_or-drop (h (n + i))

pub IsBytes-take : (n : ℕ) (bytes : List ℕ) → IsBytes bytes → IsBytes (take n bytes)
IsBytes-take n bytes h i =
    elim (cases_lt i n) [
      | inl lt ↦ rw (get_or-take n bytes i 0 lt) (h i)
      | inr le ↦ rw (get_or_past (take n bytes) i 0 (omega (arith, length-take n bytes))) (omega arith)
    ]

-- A width whose numbers below the limit are spelled in one way each.
pub record IsSpelled (w : Width) (limit : ℕ) : Type 0 where
  pub len : (n : ℕ) → length (to_be_bytes w n) ≡ byte_len w
  pub text : (bytes : List ℕ) → length bytes ≡ byte_len w → IsBytes bytes → to_be_bytes w (from_be_bytes w bytes) ≡ bytes
  pub number : (n : ℕ) → n < limit → from_be_bytes w (to_be_bytes w n) ≡ n
  pub below : (bytes : List ℕ) → IsBytes bytes → from_be_bytes w bytes < limit

pub spelled_in_four : IsSpelled w32 (2 ^ 32)
spelled_in_four = record {
  len = λ n. refl;
  text = λ bytes len fits. be_bytes_4 bytes _ len fits refl;
  number = λ n lt. from_be_bytes-to_be_bytes_4 n lt;
  below = λ bytes fits. omega (arith, fits 0, fits 1, fits 2, fits 3);
}

pub spelled_in_eight : IsSpelled w64 (2 ^ 64)
spelled_in_eight = record {
  len = λ n. refl;
  text = λ bytes len fits. be_bytes_8 bytes _ len fits refl;
  number = λ n lt. from_be_bytes-to_be_bytes_8 n lt;
  below = λ bytes fits. omega (arith, fits 0, fits 1, fits 2, fits 3, fits 4, fits 5, fits 6, fits 7);
}
