-- Numbers that are read and written.
use Rattle.std.proofs.Common.{◌≡◌, ◌≢◌, ◌<◌, ◌^◌, ◌==◌, leb, not, ℕ, zero, suc, true, false, List, [], ◌∷◌, length, get_or, Result, Ok, Err, refl, sym, ap, subst, ◌∙◌, arith}
use Rattle.std.specs.Char.{is_ascii_digit}
use Rattle.std.specs.Fmt.{decimal}
use Rattle.std.specs.Int.{IsInRange}
use Rattle.std.specs.Result.{result_ok}
use Rattle.std.specs.Str.{IsUtf8}
use Rattle.std.specs.Str.Parse.{AllDigits, IsNumeral, ParsesUnsigned, digits_value}
use Rattle.std.proofs.lemmas.Bool.{true≢false, and_from, and_parts, eqb-false, le-leb, leb-true, ne_eqb, not-true}
use Rattle.std.proofs.lemmas.Fmt.{IsAscii-decimal, decimal_digit, decimal_is_IsNumeral, decimal-digits_value, first_decimal}
use Rattle.std.proofs.lemmas.Str.{IsUtf8-from_ascii}
use Rattle.std.proofs.lemmas.Str.Parse.{IsNumeralModel, numerals_by_value, tells_digits, parse_plain, digit_at}
use Rattle.plain_numbers.specs.Decimals.{IsRead}
use Rattle.plain_numbers.specs.within.Plain.{is_plain}

own : IsNumeralModel (AllDigits 10) (digits_value 10)
own = numerals_by_value (AllDigits 10) tells_digits

-- ---- plain words

digit_of : (c : ℕ) → is_ascii_digit c ≡ true → IsInRange 48 57 c
digit_of c h = let p = and_parts (leb 48 c) (leb c 57) h in (leb-true 48 c p.0, leb-true c 57 p.1)

of_digit : (c : ℕ) → IsInRange 48 57 c → is_ascii_digit c ≡ true
of_digit c h = and_from (leb 48 c) (leb c 57) (le-leb 48 c h.0) (le-leb c 57 h.1)

-- the first byte of a plain word is a digit, and no zero in front of others
plain_start : (word : List ℕ) → is_plain word ≡ true → (get_or word 0 0 ≢ 43) × (get_or word 0 0 ≡ 48 → length word ≡ 1)
plain_start [] h = absurd cc
plain_start (c ∷ []) h = let d = digit_of c h in (λ e. absurd (omega (arith, d.0)), λ e. refl)
plain_start (c ∷ e ∷ more) h =
    let p = and_parts (is_ascii_digit c) (not (c == 48)) h in
    let d = digit_of c p.0 in
    (λ e. absurd (omega (arith, d.0)), λ e. absurd (eqb-false c 48 (not-true _ p.1) e))

plain_from : (word : List ℕ) → 0 < length word → IsInRange 48 57 (get_or word 0 0) → (1 < length word → 48 < get_or word 0 0) → is_plain word ≡ true
plain_from [] some digit above = absurd (omega arith)
plain_from (c ∷ []) some digit above = of_digit c digit
plain_from (c ∷ d ∷ more) some digit above =
    let high : 48 < c = above (omega arith) in
    let other : (c == 48) ≡ false = ne_eqb c 48 (λ e. omega arith) in
    and_from (is_ascii_digit c) (not (c == 48)) (of_digit c digit) (ap not other)

-- the text of a number is plain
decimal_plain : (n : ℕ) → n < 2 ^ 64 → is_plain (decimal n) ≡ true
decimal_plain zero h = ap is_plain (decimal_digit 0 (omega arith))
decimal_plain (suc n) h =
    let is = decimal_is_IsNumeral (suc n) h in
    plain_from (decimal (suc n)) is.0.0 (digit_at (decimal (suc n)) 0 is.0.1 is.0.0) (λ long. first_decimal (suc n) (omega arith) h)

-- ---- reading

pub unplain : (word : List ℕ) → is_plain word ≡ false → (n : ℕ) → n < 2 ^ 64 → decimal n ≡ word → ⊥
unplain word h n small is = let plain = decimal_plain n small in true≢false (sym (rw is at plain) ∙ h)

pub no_text : (word : List ℕ) → (IsUtf8 word → ⊥) → (n : ℕ) → n < 2 ^ 64 → decimal n ≡ word → ⊥
no_text word h n small is = h (subst IsUtf8 is (IsUtf8-from_ascii (decimal n) (IsAscii-decimal n small)))

pub read_plain : {E : Type 0} (word : List ℕ) (r : Result ℕ E) → is_plain word ≡ true → ParsesUnsigned 64 10 word r → IsRead (result_ok r) word
read_plain {E} word (Ok n) plain h =
    let start = plain_start word plain in
    let p = parse_plain own {E = E} 64 word (Ok n) h start.0 in
    let is : digits_value 10 word ≡ n = sym p.1 in
    (is, ap decimal (sym is) ∙ decimal-digits_value own word p.0.0 p.0.1 start.1 p.0.2)
read_plain {E} word (Err e) plain h = λ n small is.
    let start = plain_start word plain in
    let spelled = decimal_is_IsNumeral n small in
    let digits : IsNumeral 10 word = subst (IsNumeral 10) is spelled.0 in
    let value : digits_value 10 word ≡ n = ap (digits_value 10) (sym is) ∙ spelled.1 in
    parse_plain own {E = E} 64 word (Err e) h start.0 (digits.1, digits.0, omega (arith, value))
