-- How a node began, as bytes: the first text of its journal.
use Rattle.std.specs.Prelude.{◌≡◌, ℕ, ◌<◌, ◌^◌, List, ◌++◌, codes, Result, Ok, Err, if◌then◌else◌}
use Rattle.std.specs.Int.{w32, w64, to_be_bytes}
use Rattle.std.specs.Str.{bytes_eq}
use Rattle.outcome.specs.Bytes.{IsBytes}
use Rattle.outcome.specs.Outcome.{◌>>=◌, told_as}
use Rattle.lms_sign.specs.KeyText.{IsKey, key_text}
use Rattle.log_chain.specs.Fields.{IsBytesOf, IsBytesUpTo, Read, bytes_at, bytes_text, number_at, take_at}
use Rattle.node_journals.specs.declared.beginning.Beginning.{Beginning}
use Rattle.node_journals.specs.declared.beginning.TheConstants.{LONGEST_NAME}
use Rattle.node_journals.specs.declared.fault.RecordFault.{RecordFault}
use Rattle.node_journals.specs.declared.fault.RecordFault.TheVariants.{BadMagic}
use Rattle.node_journals.specs.Records.{ended, key_at}
use Rattle.node_journals.specs.Refusals.{of_field}

-- ---- spelling

-- The eight bytes with which a node's journal begins.
abbrev pub magic : List ℕ
magic = codes "PRNODEJ1"

-- The encoding of a beginning. It has the eight bytes, the node in 4 bytes, the first number in 8, the digest of the directory
-- in 32, and the key in 56. The program's name follows, behind its length in four bytes.
abbrev pub beginning_text : Beginning → List ℕ
beginning_text b = magic ++ to_be_bytes w32 b.me ++ to_be_bytes w64 b.first_seq ++ b.directory ++ key_text b.key ++ bytes_text b.program

-- ---- what has a spelling

-- The beginning has an encoding: its numbers, its digest, its key and its program's name are within their limits.
pub record FitsBeginning (b : Beginning) : Type 0 where
  pub me : b.me < 2 ^ 32
  pub first_seq : b.first_seq < 2 ^ 64
  pub directory : IsBytesOf 32 b.directory
  pub key : IsKey b.key
  pub program : IsBytesUpTo LONGEST_NAME b.program

-- ---- reading

-- The test of the first eight bytes.
abbrev pub known : List ℕ → Result (Unit {0}) RecordFault
known front = if bytes_eq front magic then Ok tt else Err BadMagic

-- The first eight bytes, which must be those of a node's journal.
unfoldable pub magic_at : List ℕ → Read (Unit {0}) RecordFault
magic_at bytes = do
  front ← told_as of_field (take_at 8 bytes)
  known ← known front.0
  Ok (known, front.1)

-- The fields of a beginning, in the order of `beginning_text`.
unfoldable pub beginning_at : List ℕ → Read Beginning RecordFault
beginning_at bytes = do
  known ← magic_at bytes
  me ← told_as of_field (number_at w32 known.1)
  first ← told_as of_field (number_at w64 me.1)
  directory ← told_as of_field (take_at 32 first.1)
  key ← key_at directory.1
  program ← told_as of_field (bytes_at LONGEST_NAME key.1)
  Ok (record { me = me.0; first_seq = first.0; directory = directory.0; key = key.0; program = program.0 }, program.1)

-- The beginning that takes up all of the bytes.
unfoldable pub beginning_of : List ℕ → Result Beginning RecordFault
beginning_of bytes = ended (beginning_at bytes)

-- ---- a law, which `laws` proves

-- What is read is the encoding of the beginning that was read, and the encoding of a beginning is read as that beginning.
pub record BeginningsReadBack : Type 0 where
  pub found : (bytes : List ℕ) (b : Beginning) → IsBytes bytes → beginning_of bytes ≡ Ok b → FitsBeginning b × (bytes ≡ beginning_text b)
  pub only : (b : Beginning) → FitsBeginning b → beginning_of (beginning_text b) ≡ Ok b
