-- The bytes that digits spell, of an even number of them at a time.
use Rattle.std.proofs.Common.{◌≡◌, ◌+◌, ◌*◌, ◌%◌, ℕ, List, [], ◌∷◌, ◌++◌, Option, Some, None, Result, Ok, Err, ap, arith, length, refl, sym, ◌∙◌}
use Rattle.std.proofs.lemmas.List.{length-append}
use Rattle.hex.specs.declared.error.FromHexError.{FromHexError}
use Rattle.hex.specs.Hex.{◌>>=◌, decode_of, decode_pairs, digit_or_error, hex_digit_value, pair_value}
use Rattle.hex.proofs.HexLemmas.{decode_of-even, decode_of-ok}

-- ---- a pair of digits spells a byte wherever it stands

same_pair : (high low i j byte : ℕ) → pair_value high low i ≡ Ok byte → pair_value high low j ≡ Ok byte
same_pair high low i j byte h = go (hex_digit_value high) (hex_digit_value low) h
  where
    go : (a b : Option ℕ) → (digit_or_error high i a >>= λ x. (digit_or_error low (i + 1) b >>= λ y. Ok (x * 16 + y))) ≡ Ok byte → (digit_or_error high j a >>= λ x. (digit_or_error low (j + 1) b >>= λ y. Ok (x * 16 + y))) ≡ Ok byte
    go (Some x) (Some y) h = h
    go (Some x) None h = absurd cc
    go None b h = absurd cc

-- the two steps of pairs of digits
steps : (r : Result ℕ FromHexError) (s : Result (List ℕ) FromHexError) (z : List ℕ) → (r >>= λ byte. (s >>= λ bytes. Ok (byte ∷ bytes))) ≡ Ok z → (byte : ℕ) × (bytes : List ℕ) × (r ≡ Ok byte) × (s ≡ Ok bytes) × (z ≡ byte ∷ bytes)
steps (Ok byte) (Ok bytes) z h = (byte, bytes, refl, refl, cc)
steps (Ok byte) (Err e) z h = absurd cc
steps (Err e) s z h = absurd cc

joined : (r : Result ℕ FromHexError) (s : Result (List ℕ) FromHexError) (byte : ℕ) (bytes : List ℕ) → r ≡ Ok byte → s ≡ Ok bytes → (r >>= λ byte. (s >>= λ bytes. Ok (byte ∷ bytes))) ≡ Ok (byte ∷ bytes)
joined r s byte bytes p q = rw (p, q) refl

elsewhere : (i j : ℕ) (digits bytes : List ℕ) → decode_pairs i digits ≡ Ok bytes → decode_pairs j digits ≡ Ok bytes
unfolding decode_pairs
elsewhere i j [] bytes h = h
elsewhere i j (d ∷ []) bytes h = absurd cc
elsewhere i j (p ∷ q ∷ more) bytes h =
    let (byte, rest, pair, others, is) = steps (pair_value p q i) (decode_pairs (i + 2) more) bytes h in
    joined (pair_value p q j) (decode_pairs (j + 2) more) byte rest (same_pair p q i j byte pair) (elsewhere (i + 2) (j + 2) more rest others)
    ∙ ap (λ (l : List ℕ). let told : Result (List ℕ) FromHexError = Ok l in told) (sym is)

-- ---- two parts, the first of an even number of digits

abbrev AreParts : ℕ → ℕ → List ℕ → List ℕ → List ℕ → Type 0
AreParts i j a b z = (x : List ℕ) × (y : List ℕ) × (decode_pairs i a ≡ Ok x) × (decode_pairs j b ≡ Ok y) × (z ≡ x ++ y)

parts : (i j : ℕ) (a b z : List ℕ) → length a % 2 ≡ 0 → decode_pairs i (a ++ b) ≡ Ok z → AreParts i j a b z
unfolding decode_pairs
parts i j [] b z even h = ([], z, refl, elsewhere i j b z h, refl)
parts i j (d ∷ []) b z even h = absurd (omega (arith, even))
parts i j (p ∷ q ∷ a) b z even h =
    let (byte, rest, pair, others, is) = steps (pair_value p q i) (decode_pairs (i + 2) (a ++ b)) z h in
    let (x, y, first, second, both) = parts (i + 2) j a b rest (omega (arith, even)) others in
    (byte ∷ x, y, joined (pair_value p q i) (decode_pairs (i + 2) a) byte x pair first, second, is ∙ ap (λ (l : List ℕ). byte ∷ l) both)

pub even_sum : (m n : ℕ) → m % 2 ≡ 0 → (m + n) % 2 ≡ 0 → n % 2 ≡ 0
even_sum m n a b = omega (arith, a, b)

-- The bytes of two parts are those of the whole.
pub decoded_parts : (a b z : List ℕ) → length a % 2 ≡ 0 → decode_of (a ++ b) ≡ Ok z → (x : List ℕ) × (y : List ℕ) × (decode_of a ≡ Ok x) × (decode_of b ≡ Ok y) × (z ≡ x ++ y)
decoded_parts a b z even h =
    let whole : length (a ++ b) % 2 ≡ 0 = (decode_of-ok (a ++ b) z h).0 in
    let second : length b % 2 ≡ 0 = even_sum (length a) (length b) even (ap (λ n. n % 2) (sym (length-append a b)) ∙ whole) in
    let (x, y, first, rest, is) = parts 0 0 a b z even (sym (decode_of-even (a ++ b) whole) ∙ h) in
    (x, y, decode_of-even a even ∙ first, decode_of-even b second ∙ rest, is)
