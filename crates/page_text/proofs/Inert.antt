-- No byte of an escaped text ends an element or an attribute, or begins an element.
use Rattle.std.proofs.Common.{◌≡◌, ◌<◌, ◌+◌, suc, ◌/◌, ◌%◌, ℕ, List, [], ◌∷◌, All, Bool, true, false, if◌then◌else◌, refl, arith}
use Rattle.std.proofs.lemmas.List.Elements.{All-append, All-cons, All-nil}
use Rattle.std.proofs.lemmas.Bool.Decides.{nat_tests}
use Rattle.std.specs.List.{AllByRecursion}
use Rattle.page_text.specs.Escaping.{IsInert, digit, escaped, is_digits, is_reference, seen, spelled}

-- a hexadecimal digit
inert_digit : (n : ℕ) → n < 16 → IsInert (digit n)
inert_digit n h = grind (arith, nat_tests)

-- a byte that stands as it is
inert_byte : (b : ℕ) → is_reference b ≡ false → is_digits b ≡ false → IsInert b
inert_byte b r d = grind (arith, nat_tests)

-- the decimal digits of a byte that stands as a reference
inert_tens : (b : ℕ) → is_reference b ≡ true → IsInert (48 + b / 10)
inert_tens b r = grind (arith, nat_tests)

inert_ones : (b : ℕ) → IsInert (48 + b % 10)
inert_ones b = (omega arith, omega arith, (λ e. omega (arith, e)), (λ e. omega (arith, e)), (λ e. omega (arith, e)), (λ e. omega (arith, e)), (λ e. omega (arith, e)))

ampersand : IsInert 38
ampersand = grind (arith, nat_tests)

number_sign : IsInert 35
number_sign = grind (arith, nat_tests)

semicolon : IsInert 59
semicolon = grind (arith, nat_tests)

backslash : IsInert 92
backslash = grind (arith, nat_tests)

letter : IsInert 120
letter = grind (arith, nat_tests)

low_digit : (b : ℕ) → b % 16 < 16
low_digit b = omega arith

high_digit : (b : ℕ) → b < 256 → b / 16 < 16
high_digit b h = omega (arith, h)

coded : (b : ℕ) → b < 256 → All IsInert (92 ∷ 120 ∷ digit (b / 16) ∷ digit (b % 16) ∷ [])
coded b h =
    All-cons IsInert 92 (120 ∷ digit (b / 16) ∷ digit (b % 16) ∷ []) backslash
    (All-cons IsInert 120 (digit (b / 16) ∷ digit (b % 16) ∷ []) letter
    (All-cons IsInert (digit (b / 16)) (digit (b % 16) ∷ []) (inert_digit (b / 16) (high_digit b h))
    (All-cons IsInert (digit (b % 16)) [] (inert_digit (b % 16) (low_digit b)) (All-nil IsInert))))

plain : (b : ℕ) → is_reference b ≡ false → is_digits b ≡ false → All IsInert (b ∷ [])
plain b r d = All-cons IsInert b [] (inert_byte b r d) (All-nil IsInert)

reference : (b : ℕ) → is_reference b ≡ true → All IsInert (38 ∷ 35 ∷ (48 + b / 10) ∷ (48 + b % 10) ∷ 59 ∷ [])
reference b r =
    All-cons IsInert 38 (35 ∷ (48 + b / 10) ∷ (48 + b % 10) ∷ 59 ∷ []) ampersand
    (All-cons IsInert 35 ((48 + b / 10) ∷ (48 + b % 10) ∷ 59 ∷ []) number_sign
    (All-cons IsInert (48 + b / 10) ((48 + b % 10) ∷ 59 ∷ []) (inert_tens b r)
    (All-cons IsInert (48 + b % 10) (59 ∷ []) (inert_ones b)
    (All-cons IsInert 59 [] semicolon (All-nil IsInert)))))

-- by the tests in turn
by_tests : (b : ℕ) (r d : Bool) → b < 256 → is_reference b ≡ r → is_digits b ≡ d
    → All IsInert (if r then 38 ∷ 35 ∷ (48 + b / 10) ∷ (48 + b % 10) ∷ 59 ∷ [] else (if d then 92 ∷ 120 ∷ digit (b / 16) ∷ digit (b % 16) ∷ [] else b ∷ []))
by_tests b true _ _ r _ = reference b r
by_tests b false true h _ _ = coded b h
by_tests b false false _ r d = plain b r d

spelled_inert : (b : ℕ) → b < 256 → All IsInert (spelled b)
unfolding spelled seen
spelled_inert b h = by_tests b (is_reference b) (is_digits b) h refl refl

recursive : (text : List ℕ) → AllByRecursion (λ b. b < 256) text → All IsInert (escaped text)
recursive [] _ = All-nil IsInert
recursive (b ∷ text) h = All-append IsInert (spelled b) (escaped text) (spelled_inert b h.0) (recursive text h.1)

pub by_recursion : (xs : List ℕ) → All (λ b. b < 256) xs → AllByRecursion (λ b. b < 256) xs
by_recursion [] h = tt
by_recursion (x ∷ xs) h = (h 0 x (omega arith), by_recursion xs (λ k d lt. h (suc k) d (omega (arith, lt))))

pub escaped_inert : (text : List ℕ) → All (λ b. b < 256) text → All IsInert (escaped text)
escaped_inert text h = recursive text (by_recursion text h)
