-- Files by their numbers, and what they say.
--
-- | A file of | says |
-- |---|---|
-- | fewer than eight bytes, or with a byte that is no digit among the first eight | one text: its bytes |
-- | one line | one text: the bytes that its digits spell |
-- | two lines, of which the second has a character | a directory in the first, and under it a text in the second |
-- | two lines, of which the second has none; more lines | nothing: it is refused with 104 |
--
-- A line with a character that is no digit, or with an odd number of digits, is refused with 103. A file of two texts is refused with 104 if
-- one text is wanted. A text under another directory is refused with 104 if a text under a given directory is wanted.
use Rattle.std.specs.Prelude.{ℕ, suc, ◌≡◌, ◌⊎◌, ◌<◌, ◌≤◌, Bool, true, false, ltb, if◌then◌else◌, List, [], ◌∷◌, take, length, option_map, option_to_list, unwrap_or, Option, Some, None, Result, Ok, Err}
use Rattle.std.specs.List.{list_all}
use Rattle.std.specs.Str.{bytes_eq}
use Rattle.hex.specs.Hex.{is_hex_digit}
use Rattle.outcome.specs.Outcome.{◌>>=◌, Fails}
use Rattle.authenticators.specs.Directory.{Listing}
use Rattle.authenticators.specs.DirectoryText.{directory_of}
use Rattle.commands.specs.declared.fault.Fault.{Fault}
use Rattle.commands.specs.declared.fault.Fault.TheVariants as fault
use Rattle.commands.specs.Devices.{IsAllOf, IsReadFault, Reader}
use Rattle.commands.specs.HexLines.{bytes_of, lines_of}
use Rattle.operating.specs.declared.files.TheConstants.{MOST_READS}

-- The bytes of each file, if they are known, and how many files failed: to be opened, to be read, or to end within the most reads.
pub record Opened : Type 0 where
  pub files : ℕ → Option (List ℕ)
  pub failures : ℕ

-- A reader failed, or met no end within `MOST_READS` reads.
abbrev pub IsFailed : Reader → Type 0
IsFailed r = (0 < r.failures) ⊎ ((r.ends ≡ 0) × (MOST_READS ≤ r.reads))

-- A fault of reading files. It is 100 only if a file failed, and it is never 102.
pub record IsOfReading (old new : Opened) (f : Fault) : Type 0 where
  pub read_failed : f ≡ fault.ReadFailed → old.failures < new.failures
  pub not_written : f ≡ fault.WriteFailed → ⊥

-- ---- what a file says

-- The file is lines of digits: it has at least eight bytes, and the first eight are digits.
abbrev pub is_spelled : List ℕ → Bool
is_spelled bytes = if ltb (length bytes) 8 then false else list_all is_hex_digit (take 8 bytes)

-- A text, and the directory's encoding that stands above it in the file, if there is one.
pub record Texts : Type 0 where
  pub above : Option (List ℕ)
  pub text : List ℕ

-- A text that stands alone.
abbrev pub alone : List ℕ → Texts
alone text = record { above = None; text = text }

-- A text under a directory.
abbrev pub beneath : List ℕ → List ℕ → Texts
beneath directory text = record { above = Some directory; text = text }

-- What one line spells.
unfoldable pub one_in : List ℕ → Result Texts Fault
one_in line = do
  text ← bytes_of line
  Ok (alone text)

-- What two lines spell.
unfoldable pub two_in : List ℕ → List ℕ → Result Texts Fault
two_in line [] = Err fault.LineCount
two_in line (digit ∷ digits) = do
  directory ← bytes_of line
  text ← bytes_of (digit ∷ digits)
  Ok (beneath directory text)

-- What lines spell.
abbrev pub spelled_in : List (List ℕ) → Result Texts Fault
spelled_in (line ∷ []) = one_in line
spelled_in (line ∷ other ∷ []) = two_in line other
spelled_in _ = Err fault.LineCount

-- What a file says.
unfoldable pub texts_of : List ℕ → Result Texts Fault
texts_of bytes = if is_spelled bytes then spelled_in (lines_of bytes) else Ok (alone bytes)

-- ---- what is read of it

-- The text, if it stands alone, or if it stands under the directory whose encoding is given. Else it is refused.
abbrev pub read_under : Option (List ℕ) → Option (List ℕ) → List ℕ → Result (List ℕ) Fault
read_under given None text = Ok text
read_under None (Some above) text = Err fault.LineCount
read_under (Some given) (Some above) text = if bytes_eq above given then Ok text else Err fault.LineCount

-- The text that a file says, alone or under the given directory.
unfoldable pub said : Option (List ℕ) → List ℕ → Result (List ℕ) Fault
said given bytes = texts_of bytes >>= λ t. read_under given t.above t.text

-- The directory's encoding in a file of a directory: the one above the text, or else the text itself.
abbrev pub directory_in : Texts → List ℕ
directory_in t = unwrap_or t.above t.text

-- The text that stands under the directory, if there is one.
abbrev pub evidence_in : Texts → List (List ℕ)
evidence_in t = option_to_list (option_map (λ (directory : List ℕ). t.text) t.above)

-- ---- reading

-- A file was read to its end, is within the limit, and this is read from it.
pub record SaysBy {X : Type 0} (limit : ℕ) (reading : List ℕ → Result X Fault) (file : Option (List ℕ)) (x : X) : Type 0 where
  pub bytes : List ℕ
  pub all : IsAllOf file bytes
  pub within : length bytes ≤ limit
  pub is : reading bytes ≡ Ok x

-- A file says the text, alone or under the given directory.
abbrev pub Says : ℕ → Option (List ℕ) → Option (List ℕ) → List ℕ → Type 0
Says limit given file text = SaysBy limit (said given) file text

-- A file says a directory, and nothing else.
abbrev pub SaysDirectory : ℕ → Option (List ℕ) → Listing → Type 0
SaysDirectory limit file ds = (text : List ℕ) × Says limit None file text × (directory_of text ≡ Ok ds)

-- The files from number `n` on say these texts under a directory, one text each.
abbrev pub Say : ℕ → List ℕ → (ℕ → Option (List ℕ)) → ℕ → List (List ℕ) → Type 0
Say limit directory files n [] = Unit {0}
Say limit directory files n (text ∷ texts) = Says limit (Some directory) (files n) text × Say limit directory files (suc n) texts

-- Why a file says nothing: its bytes were not read, or nothing can be read from them.
abbrev pub IsUnsaidBy : {X : Type 0} → ℕ → (List ℕ → Result X Fault) → Option (List ℕ) → Fault → Type 0
IsUnsaidBy limit reading file f = IsReadFault f limit file ⊎ ((bytes : List ℕ) × IsAllOf file bytes × (length bytes ≤ limit) × Fails fault.Memory f (reading bytes))

-- Why a file says no text, alone or under the given directory.
abbrev pub IsUnsaid : ℕ → Option (List ℕ) → Option (List ℕ) → Fault → Type 0
IsUnsaid limit given file f = IsUnsaidBy limit (said given) file f
