-- How the text of a bundle is read, line by line.
use Rattle.std.specs.Prelude.{ℕ, ◌+◌, ◌==◌, ◌&&◌, ◌||◌, nat_eq, nat_le, Bool, List, [], ◌∷◌, ◌++◌, drop, take, Option, Some, None, Result, Ok, Err, codes, if◌then◌else◌}
use Rattle.std.specs.List.{list_all, slice_split, starts_with}
use Rattle.std.specs.Result.{result_ok}
use Rattle.std.specs.Str.{bytes_eq}
use Rattle.hex.specs.Hex.{decode_of}
use Rattle.outcome.specs.Outcome.{◌>>=◌}
use Rattle.bundles.specs.declared.fault.BundleFault.{BundleFault}
use Rattle.bundles.specs.declared.fault.BundleFault.TheVariants.{BadBundle, OlderBundle}
use Rattle.bundles.specs.Spelling.{Contents, ended, first_line, is_name, is_sentence, older_line}

-- ---- what a line says

-- `0` to `9` and `a` to `f`.
abbrev pub is_digit : ℕ → Bool
is_digit c = (nat_le 48 c && nat_le c 57) || (nat_le 97 c && nat_le c 102)

-- Whether the line is the first one of a bundle.
unfoldable pub greets : List ℕ → Option (Unit {0})
greets line = if bytes_eq line first_line then Some tt else None

-- The name in a line `program NAME`.
unfoldable pub program_in : List ℕ → Option (List ℕ)
program_in line = if bytes_eq (take 8 line) (codes "program ") && is_name (drop 8 line) then Some (drop 8 line) else None

-- The bytes of digits.
unfoldable pub bytes_in : List ℕ → Option (List ℕ)
bytes_in line = if list_all is_digit line then result_ok (decode_of line) else None

-- ---- from line to line

-- The lines of a text, and last what stands behind the last line feed.
abbrev pub lines_of : List ℕ → List (List ℕ)
lines_of text = slice_split (λ c. c == 10) text

-- How far a text is read: the number of the next line, and what is left.
pub record Reached : Type 0 where
  pub number : ℕ
  pub left : List (List ℕ)

-- The first line of a text is the next one.
abbrev pub beginning : List ℕ → Reached
beginning text = record { number = 1; left = lines_of text }

-- What was read, and how far the text is read then.
abbrev pub Read : Type 0 → Type 0
Read A = Result (A × Reached) BundleFault

-- What the line says, and how far the text is read behind it. A line that does not say it is refused.
abbrev pub said : {A : Type 0} → ℕ → List (List ℕ) → Option A → Read A
said number more None = Err (BadBundle number)
said number more (Some x) = Ok (x, record { number = number + 1; left = more })

-- What the next line says. A line feed ends it.
abbrev pub next_says : {A : Type 0} → (List ℕ → Option A) → ℕ → List (List ℕ) → Read A
next_says says number [] = Err (BadBundle number)
next_says says number (rest ∷ []) = Err (BadBundle number)
next_says says number (line ∷ next ∷ more) = said number (next ∷ more) (says line)

-- What the next line says, at a place.
unfoldable pub line_at : {A : Type 0} → (List ℕ → Option A) → Reached → Read A
line_at says at = next_says says at.number at.left

-- One more sentence in front.
abbrev pub with_sentence : List ℕ → List ℕ × Reached → List ℕ × Reached
with_sentence line later = (ended line ++ later.0, later.1)

-- The sentences as they stand, up to the first line that is none.
unfoldable pub sentences_from : ℕ → List (List ℕ) → List ℕ × Reached
sentences_from number [] = ([], record { number = number; left = [] })
sentences_from number (rest ∷ []) = ([], record { number = number; left = rest ∷ [] })
sentences_from number (line ∷ next ∷ more) =
    if is_sentence line then with_sentence line (sentences_from (number + 1) (next ∷ more))
    else ([], record { number = number; left = line ∷ next ∷ more })

-- Whether nothing stands behind the last line.
abbrev pub nothing_left : ℕ → List (List ℕ) → Result (Unit {0}) BundleFault
nothing_left number [] = Err (BadBundle number)
nothing_left number ([] ∷ []) = Ok tt
nothing_left number ((c ∷ rest) ∷ []) = Err (BadBundle number)
nothing_left number (line ∷ next ∷ more) = Err (BadBundle number)

-- ---- the bundle

-- What the lines of a text say, or the refusal of the first line that is wrong.
unfoldable pub lines_say : List ℕ → Result Contents BundleFault
lines_say text = do
  first ← line_at greets (beginning text)
  program ← line_at program_in (sentences_from first.1.number first.1.left).1
  directory ← line_at bytes_in program.1
  proof ← line_at bytes_in directory.1
  done ← nothing_left proof.1.number proof.1.left
  Ok (record { sentences = (sentences_from first.1.number first.1.left).0; program = program.0; directory = directory.0; proof = proof.0 })

-- The bundle of a text, or the first refusal of it.
unfoldable pub bundle_of : List ℕ → Result Contents BundleFault
bundle_of text = if starts_with nat_eq text (ended older_line) then Err OlderBundle else lines_say text
