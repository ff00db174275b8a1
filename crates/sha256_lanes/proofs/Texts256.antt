-- Texts in blocks, with their padding (FIPS 180-4, sections 5.1.1, 5.2.1 and 6.2).
use Rattle.std.proofs.Common.{◌≡◌, ℕ, zero, suc, ◌<◌, ◌≤◌, ◌+◌, ◌-◌, ◌*◌, ◌/◌, ◌%◌, ◌^◌, List, [], ◌∷◌, ◌++◌, length, take, drop, replicate, slice_index, arith, refl, sym, ap, ◌∙◌, w64, length-append, length-drop, add-zero}
use Rattle.std.proofs.Math.Seq.{take-add}
use Rattle.std.proofs.lemmas.List.{append_assoc, drop-append-le, drop-drop, drop-replicate, get_or-drop, get_or-take, length-replicate, length-take-le, take-append-drop, take-replicate}
use Rattle.std.specs.Int.{to_be_bytes}
use Rattle.sha2.specs.Sha256.{digest_bytes, hash_after, initial_hash_256, padded_message, padding, sha256, word_at}
use Rattle.sha2.proofs.Absorbing256.{hash_after-append}
use Rattle.sha256_lanes.specs.within.Tails.{IsTail, tail_blocks}

-- a byte of the block at place o
block_byte : (t : List ℕ) (o i n : ℕ) → n ≡ o + i → i < 64 → slice_index t n ≡ slice_index (take 64 (drop o t)) i
block_byte t o i n at inside = rw at (sym (get_or-take 64 (drop o t) i 0 inside ∙ get_or-drop o t i 0))

-- a word of the block at place o
pub block_word : (t : List ℕ) (o i n : ℕ) → n ≡ o + i → i + 4 ≤ 64 → word_at t n ≡ word_at (take 64 (drop o t)) i
block_word t o i n at inside =
    rw (
      block_byte t o i n at (omega arith),
      block_byte t o (i + 1) (n + 1) (omega arith) (omega arith),
      block_byte t o (i + 2) (n + 2) (omega arith) (omega arith),
      block_byte t o (i + 3) (n + 3) (omega arith) (omega arith),
    ) refl

-- blocks after blocks
hash_split : (h p : List ℕ) (a b : ℕ) → hash_after h p (a + b) ≡ hash_after (hash_after h p a) (drop (a * 64) p) b
unfolding hash_after
hash_split h p a zero = rw add-zero refl
hash_split h p a (suc b) =
    let next : a + suc b ≡ suc (a + b) = omega arith in
    let sum : a * 64 + b * 64 ≡ (a + b) * 64 = omega arith in
    let place : drop (b * 64) (drop (a * 64) p) ≡ drop ((a + b) * 64) p = drop-drop (b * 64) (a * 64) p ∙ ap (λ n. drop n p) sum in
    rw (next, hash_split h p a b, place) refl

-- the blocks of a text are those of its front
hash_front : (h t : List ℕ) (n len : ℕ) → n * 64 ≤ length (take len t) → hash_after h t n ≡ hash_after h (take len t) n
hash_front h t n len fits =
    ap (λ (x : List ℕ). hash_after h x n) (sym (take-append-drop len t)) ∙ hash_after-append h (take len t) (drop len t) n fits

-- the bytes of the padding
padding_len : (n : ℕ) → length (padding n) ≡ 9 + (119 - n % 64) % 64
padding_len n =
    let zeros = length-replicate {A = ℕ} ((119 - n % 64) % 64) 0 in
    let last : length (to_be_bytes w64 (n * 8 % 2 ^ 64)) ≡ 8 = refl in
    omega (arith, length-append (0x80 ∷ replicate ((119 - n % 64) % 64) 0) (to_be_bytes w64 (n * 8 % 2 ^ 64)), zeros, last)

-- the bytes of the padded text
padded_len : (m : List ℕ) → length (padded_message m) ≡ (length m / 64 + tail_blocks (length m)) * 64
padded_len m = omega (arith, length-append m (padding (length m)), padding_len (length m))

-- the digest of the first bytes of t, of the whole blocks and of what is behind them
pub digest_by_tail : (t tail s : List ℕ) (len : ℕ) → len ≤ length t → IsTail (take len t) tail
    → s ≡ hash_after (hash_after initial_hash_256 t (len / 64)) tail (tail_blocks len) → digest_bytes s 8 ≡ sha256 (take len t)
unfolding sha256
digest_by_tail t tail s len fits held done =
    let m : List ℕ = take len t in
    let lm : length m ≡ len = length-take-le len t fits in
    let whole : ℕ = len / 64 in
    let more : ℕ = tail_blocks len in
    let all : length (padded_message m) ≡ (whole + more) * 64 = padded_len m ∙ ap (λ (n : ℕ). (n / 64 + tail_blocks n) * 64) lm in
    let count : length (padded_message m) / 64 ≡ whole + more = omega (arith, all) in
    let rest : take (64 * more) tail ≡ drop (whole * 64) (padded_message m) =
    ap (λ (n : ℕ). take (64 * tail_blocks n) tail) (sym lm) ∙ held ∙ ap (λ (n : ℕ). drop (n / 64 * 64) (padded_message m)) lm in
    let rest_len : length (take (64 * more) tail) ≡ more * 64 = omega (arith, ap length rest, length-drop (whole * 64) (padded_message m), all) in
    let front : hash_after initial_hash_256 (padded_message m) whole ≡ hash_after initial_hash_256 t whole =
    hash_after-append initial_hash_256 m (padding (length m)) whole (omega arith) ∙ sym (hash_front initial_hash_256 t whole len (omega arith)) in
    let end : hash_after initial_hash_256 (padded_message m) (length (padded_message m) / 64) ≡ s =
    rw (count, hash_split initial_hash_256 (padded_message m) whole more, front, ← rest)
    (sym (hash_front (hash_after initial_hash_256 t whole) tail more (64 * more) (omega arith)) ∙ sym done) in
    ap (λ (x : List ℕ). digest_bytes x 8) (sym end)

-- the bytes of a text of n zeros behind a place
zeros_behind : (z : List ℕ) (n r k : ℕ) → z ≡ replicate n 0 → r + k ≤ n → take k (drop r z) ≡ replicate k 0
zeros_behind z n r k zeros fits = rw (zeros, drop-replicate) (take-replicate k (n - r) 0 (omega arith))

-- three writes make the blocks behind the last whole one
pub tail_written : (m z first second third bits : List ℕ) (n r e : ℕ) → z ≡ replicate n 0 → n ≡ 128 → r ≡ length m % 64 → e ≡ 64 * tail_blocks (length m)
    → bits ≡ to_be_bytes w64 (length m * 8 % 2 ^ 64)
    → take r first ≡ drop (length m - r) m → drop r first ≡ drop r z
    → take (r + 1) second ≡ take r first ++ 0x80 ∷ [] → drop (r + 1) second ≡ drop (r + 1) first
    → take e third ≡ take (e - 8) second ++ bits
    → IsTail m third
tail_written m z first second third bits n r e zeros size left end length_bits f1 b1 f2 b2 f3 =
    let count : ℕ = (119 - length m % 64) % 64 in
    let split : e - 8 ≡ r + 1 + count = omega arith in
    let behind : drop (r + 1) second ≡ drop (r + 1) z =
    b2 ∙ sym (drop-drop 1 r first) ∙ ap (λ (x : List ℕ). drop 1 x) b1 ∙ drop-drop 1 r z in
    let middle : take count (drop (r + 1) second) ≡ replicate count 0 =
    ap (λ (x : List ℕ). take count x) behind ∙ zeros_behind z n (r + 1) count zeros (omega arith) in
    let begun : take (e - 8) second ≡ (drop (length m - r) m ++ 0x80 ∷ []) ++ replicate count 0 =
    rw (split, take-add (r + 1) count second, f2, f1, middle) refl in
    let whole : length m - r ≡ length m / 64 * 64 = omega arith in
    rw (← end, f3, begun, whole, length_bits)
    (simp append_assoc (sym (drop-append-le (length m / 64 * 64) m (padding (length m)) (omega arith))))
