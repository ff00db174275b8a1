-- The fields of the binary formats: how each is spelled, and how it is read from the front of a list of bytes.
-- A number is unsigned, and its highest byte is first: `to_be_bytes w n`.
use Rattle.std.specs.Prelude.{◌≡◌, ℕ, zero, suc, ◌≤◌, List, [], ◌∷◌, ◌++◌, length, take, drop, Result, Ok, Err, nat_lt, if◌then◌else◌}
use Rattle.std.specs.List.{All, flat_map}
use Rattle.std.specs.Int.{Width, w32, byte_len, from_be_bytes, to_be_bytes}
use Rattle.outcome.specs.Bytes.{IsBytes}
use Rattle.outcome.specs.Outcome.{◌>>=◌, told_as}
use Rattle.log_chain.specs.declared.fault.FieldFault.{FieldFault}
use Rattle.log_chain.specs.declared.fault.FieldFault.TheVariants.{Truncated, TooLong}

-- ---- spelling

-- The text of a byte string: its length in four bytes, and then its bytes.
abbrev pub bytes_text : List ℕ → List ℕ
bytes_text bytes = to_be_bytes w32 (length bytes) ++ bytes

-- The text of a list of parts of one kind: their count in four bytes, and then each part in order.
abbrev pub counted_text : {A : Type 0} → (A → List ℕ) → List A → List ℕ
counted_text text xs = to_be_bytes w32 (length xs) ++ flat_map text xs

-- A call wrote the text after what was written before; or memory ran out, and what was written is as it was.
abbrev pub Writes : {A E : Type 0} → Result A E → List ℕ → List ℕ → List ℕ → Type 0
Writes (Ok done) old new text = new ≡ old ++ text
Writes (Err memory) old new text = new ≡ old

-- ---- what has a spelling

-- A text of exactly n bytes.
pub record IsBytesOf (n : ℕ) (text : List ℕ) : Type 0 where
  pub each : IsBytes text
  pub count : length text ≡ n

-- A text of bytes whose length is at most the limit.
pub record IsBytesUpTo (most : ℕ) (text : List ℕ) : Type 0 where
  pub each : IsBytes text
  pub count : length text ≤ most

-- A list whose length is at most the limit, and whose parts all fit.
pub record IsListUpTo {A : Type 0} (most : ℕ) (Fits : A → Type 0) (xs : List A) : Type 0 where
  pub each : All Fits xs
  pub count : length xs ≤ most

-- ---- reading

-- What is read from the front of a list of bytes: a value and the bytes after it, or a fault.
abbrev pub Read : Type 0 → Type 0 → Type 0
Read A E = Result (A × List ℕ) E

-- The first n bytes. The fault is Truncated if there are fewer.
abbrev pub take_at : ℕ → List ℕ → Read (List ℕ) FieldFault
take_at n bytes = if nat_lt (length bytes) n then Err Truncated else Ok (take n bytes, drop n bytes)

-- A number of the width. The fault is Truncated if there are too few bytes.
abbrev pub number_at : Width → List ℕ → Read ℕ FieldFault
number_at w bytes = if nat_lt (length bytes) (byte_len w) then Err Truncated else Ok (from_be_bytes w (take (byte_len w) bytes), drop (byte_len w) bytes)

-- A length of four bytes, and that many bytes. The fault is TooLong if the length is above the limit. It is Truncated if bytes are
-- missing, of the length or after it.
abbrev pub bytes_at : ℕ → List ℕ → Read (List ℕ) FieldFault
bytes_at most bytes = do
  count ← number_at w32 bytes
  if nat_lt most count.0 then Err TooLong else take_at count.0 count.1

-- n parts of one kind, in order. The fault is that of the first part that has one.
unfoldable pub parts_at : {A E : Type 0} → (List ℕ → Read A E) → ℕ → List ℕ → Read (List A) E
parts_at at zero bytes = Ok ([], bytes)
parts_at at (suc n) bytes = do
  first ← at bytes
  others ← parts_at at n first.1
  Ok (first.0 ∷ others.0, others.1)

-- A count of four bytes, and that many parts of one kind. The fault is TooLong if the count is above the limit.
unfoldable pub counted_at : {A E : Type 0} → (FieldFault → E) → ℕ → (List ℕ → Read A E) → List ℕ → Read (List A) E
counted_at tell most at bytes = do
  count ← told_as tell (number_at w32 bytes)
  if nat_lt most count.0 then Err (tell TooLong) else parts_at at count.0 count.1
