-- Digits in lower case, and the bytes that they spell.
use Rattle.std.proofs.Common.{◌≡◌, ◌<◌, ◌+◌, ◌*◌, ◌/◌, ◌%◌, ◌==◌, ◌&&◌, ◌||◌, not, ℕ, zero, suc, Bool, true, false, cond, List, [], ◌∷◌, length, slice_index, Option, Some, None, unwrap_or, Result, Ok, Err, refl, sym, ap, subst, ◌∙◌, inl, inr, arith}
use Rattle.std.specs.Prelude.{IsTrue, MatchOption}
use Rattle.std.specs.List.{list_all}
use Rattle.std.specs.Result.{result_ok, result_unwrap_or}
use Rattle.std.proofs.lemmas.Bool.{true≢false, and_parts, cases_lt, eqb-true}
use Rattle.std.proofs.lemmas.List.Elements.{All-weaker}
use Rattle.std.proofs.lemmas.List.Sums.{AllPass-from_list_all}
use Rattle.hex.specs.Hex.{decode_of, decode_pairs, digit_or_error, encode_with, hex_digit_value, is_hex_digit, lower_digits, pair_value, value_at, ◌>>=◌}
use Rattle.hex.specs.declared.error.FromHexError.{FromHexError}
use Rattle.hex.proofs.HexLemmas.{decode_of-digits}
use Rattle.bundles.specs.Grammar.{bytes_in, is_digit}

-- ---- each of the two kinds of digits

-- The test of a character: where it is a digit it has a value, and stands at that place of the table.
abbrev is_same : ℕ → Bool
is_same c = not (is_digit c) || (is_hex_digit c && (slice_index lower_digits (unwrap_or (hex_digit_value c) 0) == c))

abbrev all_same : ℕ → Bool
all_same zero = true
all_same (suc n) = is_same n && all_same n

same_at : (n k : ℕ) → all_same n ≡ true → k < n → is_same k ≡ true
same_at zero k h lt = absurd (omega arith)
same_at (suc n) k h lt =
    let parts = and_parts (is_same n) (all_same n) h in
    elim (cases_lt k n) [
      | inl below ↦ same_at n k parts.1 below
      | inr top ↦ let e : k ≡ n = omega arith in rw e parts.0
    ]

small : (c : ℕ) → is_digit c ≡ true → c < 128
small c h = grind (arith)

passed : (c : ℕ) → is_digit c ≡ true → (is_hex_digit c && (slice_index lower_digits (unwrap_or (hex_digit_value c) 0) == c)) ≡ true
passed c h = let t = same_at 128 c refl (small c h) in ap (λ (b : Bool). not b || (is_hex_digit c && (slice_index lower_digits (unwrap_or (hex_digit_value c) 0) == c))) (sym h) ∙ t

pub has_value : (c : ℕ) → is_digit c ≡ true → is_hex_digit c ≡ true
has_value c h = (and_parts (is_hex_digit c) _ (passed c h)).0

stands_there : (c v : ℕ) → is_digit c ≡ true → hex_digit_value c ≡ Some v → slice_index lower_digits v ≡ c
stands_there c v h is =
    let t = (and_parts (is_hex_digit c) (slice_index lower_digits (unwrap_or (hex_digit_value c) 0) == c) (passed c h)).1 in
    ap (λ (o : Option ℕ). slice_index lower_digits (unwrap_or o 0)) (sym is) ∙ eqb-true _ c t

-- ---- bytes

some_of : (line : List ℕ) (r : Result (List ℕ) FromHexError) (bytes : List ℕ) → r ≡ Ok bytes → MatchOption (result_ok r) (IsTrue true → ⊥) (λ b. IsTrue true × (r ≡ Ok b))
some_of line (Ok x) bytes h = (refl, refl)
some_of line (Err e) bytes h = absurd cc

of_test : (line : List ℕ) (t : Bool) → list_all is_digit line ≡ t → length line % 2 ≡ 0 → MatchOption (cond t (result_ok (decode_of line)) None) (IsTrue t → ⊥) (λ bytes. IsTrue t × (decode_of line ≡ Ok bytes))
of_test line true h even =
    let digits = All-weaker (λ (c : ℕ). is_digit c ≡ true) (λ (c : ℕ). is_hex_digit c ≡ true) has_value line (AllPass-from_list_all is_digit line h) in
    let (bytes, d) = decode_of-digits line even digits in
    some_of line (decode_of line) bytes d
of_test line false h even = λ (e : false ≡ true). absurd cc

pub spell_even : (line : List ℕ) (t : Bool) → length line % 2 ≡ 0 → t ≡ list_all is_digit line → MatchOption (bytes_in line) (IsTrue t → ⊥) (λ bytes. IsTrue t × (decode_of line ≡ Ok bytes))
unfolding bytes_in
spell_even line t even is = rw (← is) (of_test line t (sym is) even)

none_of : (t : Bool) → ◌≡◌ {A = Option (List ℕ)} (cond t None None) None
none_of true = refl
none_of false = refl

is_odd : (n : ℕ) → (n % 2 == 0) ≡ false → (n % 2 == 1) ≡ true
is_odd n h = grind (arith)

pub spell_odd : (line : List ℕ) → (length line % 2 == 0) ≡ false → bytes_in line ≡ None
unfolding bytes_in
spell_odd line h = rw (is_odd (length line) h) (none_of (list_all is_digit line))

pub never : (line : List ℕ) (t : Bool) → t ≡ false → bytes_in line ≡ None → MatchOption (bytes_in line) (IsTrue t → ⊥) (λ bytes. IsTrue t × (decode_of line ≡ Ok bytes))
never line t is none = let P : Option (List ℕ) → Type 0 = λ o. MatchOption o (IsTrue t → ⊥) (λ bytes. IsTrue t × (decode_of line ≡ Ok bytes)) in subst P (sym none) (λ (e : IsTrue t). absurd cc)

pub spelled_bytes : (line : List ℕ) (o : Option (List ℕ)) (t : Bool) → MatchOption o (IsTrue t → ⊥) (λ bytes. IsTrue t × (decode_of line ≡ Ok bytes)) → t ≡ true → (bytes : List ℕ) × (o ≡ Some bytes) × (decode_of line ≡ Ok bytes)
spelled_bytes line (Some bytes) t h e = (bytes, refl, h.1)
spelled_bytes line None t h e = absurd (h e)

pub unspelled : (line : List ℕ) (o : Option (List ℕ)) (t : Bool) → MatchOption o (IsTrue t → ⊥) (λ bytes. IsTrue t × (decode_of line ≡ Ok bytes)) → t ≡ false → o ≡ None
unspelled line (Some bytes) t h e = absurd (true≢false (sym h.0 ∙ e))
unspelled line None t h e = refl

-- ---- the digits of bytes

bind_ok : {A B : Type 0} (r : Result A FromHexError) (f : A → Result B FromHexError) (y : B) → (r >>= f) ≡ Ok y → (x : A) × (r ≡ Ok x) × (f x ≡ Ok y)
bind_ok (Ok x) f y h = (x, refl, h)
bind_ok (Err e) f y h = cc h

digit_read : (c i : ℕ) (o : Option ℕ) (v : ℕ) → digit_or_error c i o ≡ Ok v → o ≡ Some v
digit_read c i (Some w) v h = ap Some (ap (λ (r : Result ℕ FromHexError). result_unwrap_or r 0) h)
digit_read c i None v h = cc h

value_small : (c v : ℕ) → hex_digit_value c ≡ Some v → v < 16
value_small c v h = grind (arith)

pair_back : (a b v w byte : ℕ) (rest : List ℕ) → v < 16 → w < 16 → v * 16 + w ≡ byte → slice_index lower_digits v ≡ a → slice_index lower_digits w ≡ b → encode_with lower_digits (byte ∷ rest) ≡ a ∷ b ∷ encode_with lower_digits rest
unfolding encode_with
pair_back a b v w byte rest hv hw is first second =
    let high : byte / 16 ≡ v = omega arith in
    let low : byte % 16 ≡ w = omega arith in
    rw (high, low, first, second) refl

pub pairs_back : (i : ℕ) (s bytes : List ℕ) → decode_pairs i s ≡ Ok bytes → list_all is_digit s ≡ true → encode_with lower_digits bytes ≡ s
unfolding decode_pairs encode_with
pairs_back i [] bytes h all = let e : [] ≡ bytes = ap (λ (r : Result (List ℕ) FromHexError). result_unwrap_or r []) h in rw (← e) refl
pairs_back i (a ∷ []) bytes h all = cc h
pairs_back i (a ∷ b ∷ rest) bytes h all =
    let p0 = bind_ok (pair_value a b i) _ bytes h in
    let p1 = bind_ok (value_at a i) _ p0.0 p0.1 in
    let p2 = bind_ok (value_at b (i + 1)) _ p0.0 p1.2 in
    let p3 = bind_ok (decode_pairs (i + 2) rest) _ bytes p0.2 in
    let here = and_parts (is_digit a) (list_all is_digit (b ∷ rest)) all in
    let next = and_parts (is_digit b) (list_all is_digit rest) here.1 in
    let va = digit_read a i (hex_digit_value a) p1.0 p1.1 in
    let vb = digit_read b (i + 1) (hex_digit_value b) p2.0 p2.1 in
    let byte : p1.0 * 16 + p2.0 ≡ p0.0 = ap (λ (r : Result ℕ FromHexError). result_unwrap_or r 0) p2.2 in
    let whole : p0.0 ∷ p3.0 ≡ bytes = ap (λ (r : Result (List ℕ) FromHexError). result_unwrap_or r []) p3.2 in
    ap (encode_with lower_digits) (sym whole)
    ∙ pair_back a b p1.0 p2.0 p0.0 p3.0 (value_small a p1.0 va) (value_small b p2.0 vb) byte (stands_there a p1.0 here.0 va) (stands_there b p2.0 next.0 vb)
    ∙ ap (λ (t : List ℕ). a ∷ b ∷ t) (pairs_back (i + 2) rest p3.0 p3.1 next.1)
