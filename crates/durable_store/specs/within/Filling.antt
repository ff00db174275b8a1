-- How a store is filled from a journal that is read, by private code.
use Rattle.std.specs.Prelude.{◌≡◌, ◌<◌, ℕ, List, length}
use Rattle.evidence.specs.Contents.{Contents}
use Rattle.journal.specs.Journal.{recovered}
use Rattle.journal.specs.Reading.{IsReading}
use Rattle.journal.specs.declared.reading.Reading.{Reading}
use Rattle.durable_store.specs.Keeping.{IsJournalOf}

-- Behind the basis, which was read first, the items that the store has now were read, and no others. The count is how many texts were read
-- in all.
pub record Filling {D : Type 0} (found : D → List ℕ) (first now : Reading D) (empty filled : Contents) (count : ℕ) : Type 0 where
  pub reading : IsReading found now
  pub just : IsJournalOf (recovered (found first.device)) filled.items (recovered (found now.device))
  pub behind_basis : 1 < count
  pub count_is : count ≡ length (recovered (found now.device))
  pub directory : filled.directory ≡ empty.directory
