-- What a store gains if the encoding of a store is read into it.
use Rattle.std.specs.Prelude.{◌≡◌, ◌<◌, ◌^◌, ℕ, List, ◌++◌, Ok}
use Rattle.item_forms.specs.declared.forms.Fields.{Fields}
use Rattle.evidence.specs.Exports.{magic_of, set_text}
use Rattle.evidence_set.specs.Valid.{AreValid}
use Rattle.evidence_set.specs.ItemSets.{Items, Join, count}
use Rattle.evidence.specs.Contents.{Contents, with_items}
use Rattle.commands.specs.Inputs.{AreItems, store_of}

-- The new contents have the items of a store's encoding besides the old ones, under the same directory.
pub record AddsStore (old new : Contents) (text : List ℕ) : Type 0 where
  pub more : List Fields
  pub read : store_of old.directory text ≡ Ok more
  pub directory : new.directory ≡ old.directory
  pub set : (items : List Fields) → AreItems old.items items → AreItems new.items (items ++ more)

-- If a store joins the set that an encoding spells to its own, and the result is valid and has less than 2^64 items, then it has what the
-- encoding says besides its own items.
pub record TextsAreAdded : Type 0 where
  pub adds : (old new : Contents) (text : List ℕ) (added : Items) → text ≡ set_text (magic_of text) added → new ≡ with_items old (Join old.items added) → AreValid new.directory new.items → count new.items < 2 ^ 64 → AddsStore old new text
