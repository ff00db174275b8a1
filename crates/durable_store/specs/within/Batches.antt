-- How items of a journal are read one after the other, by private code.
use Rattle.std.specs.Prelude.{◌≡◌, ◌+◌, ◌≤◌, ℕ, List, ◌++◌, length}
use Rattle.item_forms.specs.Pieces.{Piece}
use Rattle.journal.specs.Journal.{recovered}
use Rattle.journal.specs.Reading.{IsReading}
use Rattle.journal.specs.declared.reading.Reading.{Reading}
use Rattle.durable_store.specs.Keeping.{spellings}
use Rattle.durable_store.specs.declared.finding.TheConstants.{MOST_AT_ONCE}

-- Since it began, n items were read, each of some bytes, and there is room for so many.
pub record Gathering {D : Type 0} (found : D → List ℕ) (before now : Reading D) (items : List Piece) (room n : ℕ) : Type 0 where
  pub reading : IsReading found now
  pub texts : recovered (found now.device) ≡ recovered (found before.device) ++ spellings items
  pub count : length items ≡ n
  pub grown : before.end + n ≤ now.end
  pub has_room : room ≡ MOST_AT_ONCE
