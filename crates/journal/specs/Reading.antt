-- States of a file that is being read as a journal.
use Rattle.std.specs.Prelude.{◌≡◌, ◌≢◌, ◌⊎◌, ℕ, ◌+◌, ◌<◌, ◌^◌, List, ◌++◌, length, take, drop, slice_index, true, false}
use Rattle.journal.specs.Device.{Only}
use Rattle.journal.specs.Journal.{number_of, covered, can_be_left}
use Rattle.journal.specs.declared.reading.Reading.{Reading}

-- What has been read is whole blocks, each of whose texts was given.
pub record IsReading {D : Type 0} (found : D → List ℕ) (reading : Reading D) : Type 0 where
  pub whole : covered (found reading.device) ≡ length (found reading.device)
  pub end : reading.end ≡ length (found reading.device)
  pub small : reading.end < 2 ^ 63

-- These bytes were read behind the blocks whose texts were given.
pub record IsBehind {D : Type 0} (found : D → List ℕ) (reading : Reading D) (head : List ℕ) : Type 0 where
  pub whole : covered (take reading.end (found reading.device)) ≡ reading.end
  pub end : length (take reading.end (found reading.device)) ≡ reading.end
  pub rest : drop reading.end (found reading.device) ≡ head
  pub small : reading.end < 2 ^ 63

-- These bytes are the head of an open block, whose text has this number of bytes.
abbrev pub IsHead : List ℕ → ℕ → Type 0
IsHead head size =
    (length head ≡ 9) × (slice_index head 0 ≢ 0)
    × (size ≡ number_of (slice_index head 1) (slice_index head 2) (slice_index head 3) (slice_index head 4))
    × (size + number_of (slice_index head 5) (slice_index head 6) (slice_index head 7) (slice_index head 8) ≡ 4294967295)

-- All of the file has been read, and a crash can leave it.
pub record IsRead {D : Type 0} (seen : D → List ℕ) (may_leave : D → List ℕ → Type 0) (reading : Reading D) : Type 0 where
  pub end : reading.end ≡ covered (seen reading.device)
  pub len : reading.len ≡ length (seen reading.device)
  pub small : reading.end < 2 ^ 63
  pub left : can_be_left (seen reading.device) ≡ true
  pub durable : Only (seen reading.device) (may_leave reading.device)

-- No crash leaves a file that begins with what was found, however it goes on. Or what was found is all of it, and no crash leaves that.
abbrev pub IsDamaged : List ℕ → List ℕ → Type 0
IsDamaged found seen = ((behind : List ℕ) → can_be_left (found ++ behind) ≡ false) ⊎ ((found ≡ seen) × (can_be_left seen ≡ false))
