-- Bytes and their digits, there and back.
use Rattle.std.proofs.Common.{◌≡◌, ◌<◌, ◌/◌, ◌%◌, ◌&&◌, ℕ, zero, suc, Bool, true, false, cond, List, [], ◌∷◌, slice_index, Option, Some, None, Result, Ok, Err, refl, sym, ap, ◌∙◌, inl, inr, arith}
use Rattle.std.specs.List.{list_all}
use Rattle.std.specs.Result.{result_ok}
use Rattle.std.proofs.lemmas.Bool.{and_from, and_parts, cases_lt}
use Rattle.hex.specs.Hex.{decode_of, encode_lower, encode_with, lower_digits}
use Rattle.hex.specs.declared.error.FromHexError.{FromHexError}
use Rattle.hex.proofs.HexLemmas.{decode_of-encode_lower, decode_of-even, decode_of-ok}
use Rattle.outcome.specs.Bytes.{IsBytes}
use Rattle.bundles.specs.Grammar.{bytes_in, is_digit}
use Rattle.bundles.proofs.HexDigits.{pairs_back}

-- ---- digits

abbrev all_digits : ℕ → Bool
all_digits zero = true
all_digits (suc n) = is_digit (slice_index lower_digits n) && all_digits n

digit_below : (n k : ℕ) → all_digits n ≡ true → k < n → is_digit (slice_index lower_digits k) ≡ true
digit_below zero k h lt = absurd (omega arith)
digit_below (suc n) k h lt =
    let parts = and_parts (is_digit (slice_index lower_digits n)) (all_digits n) h in
    elim (cases_lt k n) [
      | inl below ↦ digit_below n k parts.1 below
      | inr top ↦ let e : k ≡ n = omega arith in rw e parts.0
    ]

-- Bytes are spelled by digits.
pub are_digits : (bytes : List ℕ) → IsBytes bytes → list_all is_digit (encode_lower bytes) ≡ true
unfolding encode_with
are_digits [] h = refl
are_digits (b ∷ rest) h =
    let fits : b < 256 = h 0 in
    let high : is_digit (slice_index lower_digits (b / 16)) ≡ true = digit_below 16 (b / 16) refl (omega arith) in
    let low : is_digit (slice_index lower_digits (b % 16)) ≡ true = digit_below 16 (b % 16) refl (omega arith) in
    and_from (is_digit (slice_index lower_digits (b / 16))) (is_digit (slice_index lower_digits (b % 16)) && list_all is_digit (encode_lower rest)) high
    (and_from (is_digit (slice_index lower_digits (b % 16))) (list_all is_digit (encode_lower rest)) low (are_digits rest (λ k. h (suc k))))

-- ---- there and back

pub bytes_said : (bytes : List ℕ) → IsBytes bytes → bytes_in (encode_lower bytes) ≡ Some bytes
unfolding bytes_in
bytes_said bytes h =
    ap (λ (t : Bool). cond t (result_ok (decode_of (encode_lower bytes))) None) (are_digits bytes h)
    ∙ ap (λ (r : Result (List ℕ) FromHexError). result_ok r) (decode_of-encode_lower bytes h)

by_test : (t : Bool) (r : Result (List ℕ) FromHexError) (bytes : List ℕ) → ◌≡◌ {A = Option (List ℕ)} (cond t (result_ok r) None) (Some bytes) → (t ≡ true) × (r ≡ Ok bytes)
by_test true (Ok x) bytes h = let same : x ≡ bytes = cc in (refl, ap Ok same)
by_test true (Err e) bytes h = absurd cc
by_test false r bytes h = absurd cc

pub bytes_found : (line bytes : List ℕ) → bytes_in line ≡ Some bytes → IsBytes bytes × (encode_lower bytes ≡ line)
unfolding bytes_in
bytes_found line bytes h =
    let p = by_test (list_all is_digit line) (decode_of line) bytes h in
    let ok = decode_of-ok line bytes p.1 in
    (ok.3, pairs_back 0 line bytes (sym (decode_of-even line ok.0) ∙ p.1) p.0)
