-- How a journal of items is kept, by private code.
use Rattle.std.specs.Prelude.{◌≡◌, ℕ, List}
use Rattle.journal.specs.Journal.{IsSettled, recovered, texts_of}
use Rattle.evidence_set.specs.ItemSets.{Items}
use Rattle.durable_store.specs.declared.item_journal.ItemJournal.{ItemJournal}
use Rattle.item_forms.specs.Pieces.{Piece}
use Rattle.durable_store.specs.Calls.{unheld}
use Rattle.durable_store.specs.Keeping.{Has, spellings}

-- The journal is settled, and has just these items.
pub record IsReadyOf {D : Type 0} (seen : D → List ℕ) (may_leave : D → List ℕ → Type 0) (E : Items) (j : ItemJournal D) : Type 0 where
  pub settled : IsSettled seen may_leave j.texts
  pub has : Has j.is_begun (texts_of j.basis.items) E (recovered (seen j.texts.device))

-- The journal has just these items. The texts are those of the items of a group that are not among them.
pub record IsOfGroup {D : Type 0} (seen : D → List ℕ) (j : ItemJournal D) (E : Items) (group : List Piece) (texts : List (List ℕ)) : Type 0 where
  pub has : Has j.is_begun (texts_of j.basis.items) E (recovered (seen j.texts.device))
  pub are : texts ≡ spellings (unheld E group)
