-- The kinds of field that `FieldReader` reads: what is read is spelled so, and what is spelled so is read.
use Rattle.std.proofs.Common.{◌≡◌, ℕ, suc, ◌^◌, ◌<◌, ◌≤◌, false, cond, ltb, List, [], ◌∷◌, ◌++◌, length, take, drop, Ok, Err, refl, sym, ap, subst, ◌∙◌, arith}
use Rattle.std.specs.Int.{Width, w8, w32, w64, byte_len, from_be_bytes, to_be_bytes}
use Rattle.std.proofs.lemmas.Bool.{ltb-false, le-ltb}
use Rattle.std.proofs.lemmas.List.{take_at as take_front, drop_at as drop_front, take-append-drop, length-append, length-take}
use Rattle.outcome.specs.Bytes.{IsBytes}
use Rattle.outcome.proofs.ByteLists.{IsBytes-drop, IsBytes-take, IsSpelled, spelled_in_four, spelled_in_eight}
use Rattle.outcome.specs.Outcome.{◌>>=◌}
use Rattle.outcome.proofs.Steps.{bind_ok, guard_false, Ok-inj}
use Rattle.log_chain.specs.declared.fault.FieldFault.{FieldFault}
use Rattle.log_chain.specs.declared.fault.FieldFault.TheVariants.{Truncated, TooLong}
use Rattle.log_chain.specs.Fields.{Read, IsBytesOf, IsBytesUpTo, take_at, number_at, bytes_at, bytes_text}
use Rattle.log_chain.proofs.Codec.{Takes, Takes-then, IsField}

-- ---- n bytes

-- the bytes that were read
record Front (n : ℕ) (bytes text rest : List ℕ) : Type 0 where
  taken : Takes bytes text rest
  fits : IsBytesOf n text

front_taken : (n : ℕ) (bytes text rest : List ℕ) → IsBytes bytes → take_at n bytes ≡ Ok (text, rest) → Front n bytes text rest
front_taken n bytes text rest fits e =
    let g = guard_false (ltb (length bytes) n) Truncated (Ok (take n bytes, drop n bytes)) (text, rest) e in
    let long : n ≤ length bytes = ltb-false _ _ g.0 in
    subst (λ (p : List ℕ × List ℕ). Front n bytes p.0 p.1) (Ok-inj {E = FieldFault} (take n bytes, drop n bytes) (text, rest) g.1)
    (record {
      taken = record { parts = sym (take-append-drop n bytes); rest_fits = IsBytes-drop n bytes fits };
      fits = record { each = IsBytes-take n bytes fits; count = omega (arith, length-take n bytes) };
    })

pub front_again : (n : ℕ) (text rest : List ℕ) → length text ≡ n → take_at n (text ++ rest) ≡ Ok (text, rest)
front_again n text rest len =
    let long : ltb (length (text ++ rest)) n ≡ false = le-ltb _ _ (omega (arith, length-append text rest)) in
    rw (long, take_front text rest n len, drop_front text rest n len) refl

-- n bytes, as of a hash
pub block_field : (n : ℕ) → IsField (take_at n) (λ text. text) (IsBytesOf n)
block_field n = record {
  takes = λ bytes text rest fits e. let t = front_taken n bytes text rest fits e in (t.taken, t.fits);
  again = λ text rest fits. front_again n text rest fits.count;
}

-- ---- numbers

pub number_field : (w : Width) (limit : ℕ) → IsSpelled w limit → IsField (number_at w) (to_be_bytes w) (λ n. n < limit)
number_field w limit spelled = record {
  takes = λ bytes n rest fits e.
      let len = byte_len w in
      let g = guard_false (ltb (length bytes) len) Truncated (Ok (from_be_bytes w (take len bytes), drop len bytes)) (n, rest) e in
      let long : len ≤ length bytes = ltb-false _ _ g.0 in
      let small : IsBytes (take len bytes) = IsBytes-take len bytes fits in
      let text : to_be_bytes w (from_be_bytes w (take len bytes)) ≡ take len bytes = spelled.text (take len bytes) (omega (arith, length-take len bytes)) small in
      let parts : bytes ≡ to_be_bytes w (from_be_bytes w (take len bytes)) ++ drop len bytes = sym (ap (λ (t : List ℕ). t ++ drop len bytes) text ∙ take-append-drop len bytes) in
      subst (λ (p : ℕ × List ℕ). Takes bytes (to_be_bytes w p.0) p.1 × (p.0 < limit)) (Ok-inj {E = FieldFault} (from_be_bytes w (take len bytes), drop len bytes) (n, rest) g.1)
      (record { parts = parts; rest_fits = IsBytes-drop len bytes fits }, spelled.below (take len bytes) small);
  again = λ n rest lt.
      let len = spelled.len n in
      let long : ltb (length (to_be_bytes w n ++ rest)) (byte_len w) ≡ false = le-ltb _ _ (omega (arith, length-append (to_be_bytes w n) rest)) in
      rw (long, take_front (to_be_bytes w n) rest (byte_len w) len, drop_front (to_be_bytes w n) rest (byte_len w) len, spelled.number n lt) refl;
}

pub u32_field : IsField (number_at w32) (to_be_bytes w32) (λ n. n < 2 ^ 32)
u32_field = number_field w32 (2 ^ 32) spelled_in_four

pub u64_field : IsField (number_at w64) (to_be_bytes w64) (λ n. n < 2 ^ 64)
u64_field = number_field w64 (2 ^ 64) spelled_in_eight

one_byte : (b : ℕ) (bytes : List ℕ) → number_at w8 (b ∷ bytes) ≡ Ok (b, bytes)
one_byte b bytes =
    let long : ltb (suc (length bytes)) 1 ≡ false = le-ltb _ _ (omega arith) in
    rw long refl

no_byte : (n : ℕ) (rest : List ℕ) → number_at w8 [] ≡ Ok (n, rest) → ⊥
no_byte n rest e = cc

u8_taken : (bytes : List ℕ) (n : ℕ) (rest : List ℕ) → IsBytes bytes → number_at w8 bytes ≡ Ok (n, rest) → Takes bytes (n ∷ []) rest × (n < 256)
u8_taken [] n rest fits e = absurd (no_byte n rest e)
u8_taken (b ∷ bytes) n rest fits e =
    subst (λ (p : ℕ × List ℕ). Takes (b ∷ bytes) (p.0 ∷ []) p.1 × (p.0 < 256)) (Ok-inj {E = FieldFault} (b, bytes) (n, rest) (sym (one_byte b bytes) ∙ e))
    (record { parts = refl; rest_fits = IsBytes-drop 1 (b ∷ bytes) fits }, fits 0)

-- a number of one byte, which is that byte
pub u8_field : IsField (number_at w8) (λ n. n ∷ []) (λ n. n < 256)
u8_field = record {
  takes = λ bytes n rest fits e. u8_taken bytes n rest fits e;
  again = λ n rest lt. one_byte n rest;
}

-- ---- bytes behind their length

bytes_taken : (most : ℕ) (bytes text rest : List ℕ) → IsBytes bytes → bytes_at most bytes ≡ Ok (text, rest) → Takes bytes (bytes_text text) rest × IsBytesUpTo most text
bytes_taken most bytes text rest fits e =
    let a = bind_ok (number_at w32 bytes) (λ n. cond (ltb most n.0) (Err TooLong) (take_at n.0 n.1)) (text, rest) e in
    let g = guard_false (ltb most a.0.0) TooLong (take_at a.0.0 a.0.1) (text, rest) a.2 in
    let n = u32_field.takes bytes a.0.0 a.0.1 fits a.1 in
    let b = front_taken a.0.0 a.0.1 text rest n.0.rest_fits g.1 in
    let below : a.0.0 ≤ most = ltb-false _ _ g.0 in
    let joined = Takes-then bytes (to_be_bytes w32 a.0.0) a.0.1 text rest n.0 b.taken in
    (subst (λ (k : ℕ). Takes bytes (to_be_bytes w32 k ++ text) rest) (sym b.fits.count) joined, record { each = b.fits.each; count = rw b.fits.count below })

pub bytes_again : (most : ℕ) (text rest : List ℕ) → most < 2 ^ 32 → length text ≤ most → bytes_at most (bytes_text text ++ rest) ≡ Ok (text, rest)
bytes_again most text rest small le =
    let below : ltb most (length text) ≡ false = le-ltb _ _ le in
    let lt : length text < 2 ^ 32 = omega arith in
    ap (λ (r : Read ℕ FieldFault). r >>= λ n. cond (ltb most n.0) (Err TooLong) (take_at n.0 n.1)) (u32_field.again (length text) (text ++ rest) lt)
    ∙ rw below (front_again (length text) text rest refl)

-- a length of four bytes that is at most the limit, and as many bytes
pub bytes_field : (most : ℕ) → most < 2 ^ 32 → IsField (bytes_at most) bytes_text (IsBytesUpTo most)
bytes_field most small = record {
  takes = λ bytes text rest fits e. bytes_taken most bytes text rest fits e;
  again = λ text rest fits. bytes_again most text rest small fits.count;
}
