-- How values are encoded: numbers, byte strings, pairs and lists of these.
use Rattle.std.specs.Prelude.{◌≡◌, ℕ, ◌+◌, ◌*◌, ◌<◌, ◌≤◌, ◌^◌, ◌==◌, List, [], ◌∷◌, ◌++◌, length, Option, Result, Ok, Err, if◌then◌else◌}
use Rattle.std.specs.Result.{result_ok}
use Rattle.std.specs.Int.{w8, w32, w64, to_be_bytes}
use Rattle.outcome.specs.Bytes.{IsBytes}
use Rattle.outcome.specs.Outcome.{◌>>=◌, told_as}
use Rattle.log_chain.specs.declared.fault.FieldFault.{FieldFault}
use Rattle.log_chain.specs.declared.fault.FieldFault.TheVariants as field
use Rattle.log_chain.specs.Fields.{Read, bytes_text, bytes_at, counted_at, counted_text, number_at}
use Rattle.state_codec.specs.declared.fault.CodeFault.{CodeFault}
use Rattle.state_codec.specs.declared.fault.CodeFault.TheVariants.{Truncated, TooLong, Trailing}

-- A coding has three parts: the bytes of a value; the value at the front of bytes, with the bytes after it; and a length that no value's
-- bytes exceed.
pub record Coding (A : Type 0) : Type 0 where
  pub text : A → List ℕ
  pub at : List ℕ → Read A CodeFault
  pub longest : ℕ

-- What a coding keeps. `Fits` holds of the values within the range of their type.
pub record IsCoding {A : Type 0} (coding : Coding A) (Fits : A → Type 0) : Type 0 where
  -- What is read is within the range, and its text is in front of the bytes that are left.
  pub takes : (bytes : List ℕ) (x : A) (rest : List ℕ) → IsBytes bytes → coding.at bytes ≡ Ok (x, rest)
      → (bytes ≡ coding.text x ++ rest) × Fits x × IsBytes rest
  -- The text of what is within the range is read.
  pub again : (x : A) (rest : List ℕ) → Fits x → coding.at (coding.text x ++ rest) ≡ Ok (x, rest)
  -- No text of what is within the range is longer than `longest`.
  pub short : (x : A) → Fits x → length (coding.text x) ≤ coding.longest

-- A call wrote the text after what was written before. If memory ran out, nothing is said.
abbrev pub Wrote : {A E : Type 0} → Result A E → List ℕ → List ℕ → List ℕ → Type 0
Wrote (Ok done) old new text = new ≡ old ++ text
Wrote (Err memory) old new text = Unit {0}

-- The fault of this crate by which a field's fault is reported.
abbrev pub of_field : FieldFault → CodeFault
of_field field.Truncated = Truncated
of_field field.TooLong = TooLong

-- The texts stay folded in the proofs of programs. These proofs join texts, and do not compute them.

-- ---- numbers, in their one, four or eight bytes with the highest first

-- A number of one byte.
abbrev pub IsU8 : ℕ → Type 0
IsU8 n = n < 256

-- A number of four bytes.
abbrev pub IsU32 : ℕ → Type 0
IsU32 n = n < 2 ^ 32

-- A number of eight bytes.
abbrev pub IsU64 : ℕ → Type 0
IsU64 n = n < 2 ^ 64

unfoldable pub u8_text : ℕ → List ℕ
u8_text n = n ∷ []

unfoldable pub u32_text : ℕ → List ℕ
u32_text n = to_be_bytes w32 n

unfoldable pub u64_text : ℕ → List ℕ
u64_text n = to_be_bytes w64 n

-- The coding of numbers of one byte.
abbrev pub u8_coding : Coding ℕ
u8_coding = record { text = u8_text; at = λ bytes. told_as of_field (number_at w8 bytes); longest = 1 }

-- The coding of numbers of four bytes.
abbrev pub u32_coding : Coding ℕ
u32_coding = record { text = u32_text; at = λ bytes. told_as of_field (number_at w32 bytes); longest = 4 }

-- The coding of numbers of eight bytes.
abbrev pub u64_coding : Coding ℕ
u64_coding = record { text = u64_text; at = λ bytes. told_as of_field (number_at w64 bytes); longest = 8 }

-- ---- byte strings up to a limit: the length in four bytes, and the bytes

unfoldable pub string_text : List ℕ → List ℕ
string_text bytes = bytes_text bytes

-- The coding of byte strings of at most `most` bytes.
abbrev pub text_coding : ℕ → Coding (List ℕ)
text_coding most = record { text = string_text; at = λ bytes. told_as of_field (bytes_at most bytes); longest = 4 + most }

-- ---- pairs: the one part, and then the other

-- Both parts are in their ranges.
abbrev pub IsPair : {A B : Type 0} → (A → Type 0) → (B → Type 0) → A × B → Type 0
IsPair FitsA FitsB p = FitsA p.0 × FitsB p.1

-- Both parts, read one after the other.
abbrev pub pair_at : {A B : Type 0} → Coding A → Coding B → List ℕ → Read (A × B) CodeFault
pair_at a b bytes = do
  x ← a.at bytes
  y ← b.at x.1
  Ok ((x.0, y.0), y.1)

-- The coding of pairs.
abbrev pub pair_coding : {A B : Type 0} → Coding A → Coding B → Coding (A × B)
pair_coding a b = record { text = λ p. a.text p.0 ++ b.text p.1; at = pair_at a b; longest = a.longest + b.longest }

-- ---- lists up to a limit: the count in four bytes, and each item

unfoldable pub list_text : {A : Type 0} → Coding A → List A → List ℕ
list_text a xs = counted_text a.text xs

-- The coding of lists of at most `most` items.
abbrev pub list_coding : {A : Type 0} → ℕ → Coding A → Coding (List A)
list_coding most a = record { text = list_text a; at = counted_at of_field most a.at; longest = 4 + most * a.longest }

-- ---- structs: a struct is encoded as its parts are, and `make` makes it of them

-- The parts of a struct are in their ranges.
abbrev pub IsStruct : {P A : Type 0} → (A → P) → (P → Type 0) → A → Type 0
IsStruct parts FitsParts x = FitsParts (parts x)

-- The struct that is made of the parts at the front of bytes.
abbrev pub struct_at : {P A : Type 0} → (P → A) → Coding P → List ℕ → Read A CodeFault
struct_at make p bytes = do
  found ← p.at bytes
  Ok (make found.0, found.1)

-- The coding of structs.
abbrev pub struct_coding : {P A : Type 0} → (P → A) → (A → P) → Coding P → Coding A
struct_coding make parts p = record { text = λ x. p.text (parts x); at = struct_at make p; longest = p.longest }

-- ---- whole texts: a value after which nothing may follow

-- The value whose text is all of the bytes, or why they are no value's text.
abbrev pub read_whole : {S : Type 0} → Coding S → List ℕ → Result S CodeFault
read_whole c bytes = do
  found ← c.at bytes
  if length found.1 == 0 then Ok found.0 else Err Trailing

-- The value whose text is all of the bytes, if there is one.
abbrev pub whole_of : {S : Type 0} → Coding S → List ℕ → Option S
whole_of c bytes = result_ok (read_whole c bytes)
