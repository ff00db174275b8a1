-- Reading the encoding of a set in pieces, as contracts see it.
use Rattle.std.specs.Prelude.{ℕ, ◌≡◌, ◌<◌, ◌^◌, List, [], ◌++◌, Result, Ok, Err}
use Rattle.outcome.specs.Outcome.{◌>>=◌}
use Rattle.authenticators.specs.Directory.{Listing}
use Rattle.item_forms.specs.declared.forms.Fields.{Fields}
use Rattle.containers.specs.declared.fault.Cause.{Cause}
use Rattle.containers.specs.declared.fault.ImportFault.{ImportFault}
use Rattle.containers.specs.CheckedItems.{checked_of}
use Rattle.containers.specs.Container.{container_of, import_of, kept_on}
use Rattle.evidence.specs.Exports.{export_of, magic_of, set_text}
use Rattle.evidence_set.specs.Valid.{AreValid, fields_of}
use Rattle.evidence_set.specs.ItemSets.{Items, Join, count, listed, none}
use Rattle.evidence.specs.Contents.{Contents, with_items}

-- An importer: the directory under which items are checked, and the pieces so far, joined, or the fault by which they were
-- refused.
pub record Importing : Type 0 where
  pub directory : Listing
  pub fed : Result (List ℕ) ImportFault

-- The pieces so far with one piece more, or the fault. They are not refused as long as they are the encoding of a set, or are
-- only cut off. `reads` reads one item.
abbrev pub fed_by : (List ℕ → List ℕ → Result Fields Cause) → List ℕ → Result (List ℕ) ImportFault → Result (List ℕ) ImportFault
fed_by reads piece fed = fed >>= λ text. kept_on (text ++ piece) (container_of (magic_of (text ++ piece)) reads (text ++ piece))

-- The items of the encoding of a set under a directory, or the fault that is reported to the caller.
abbrev pub import_set : Listing → List ℕ → Result (List Fields) ImportFault
import_set ds text = import_of (magic_of text) (checked_of ds) text

-- What the end makes of the pieces under a directory.
abbrev pub imported_under : Listing → Result (List ℕ) ImportFault → Result (List Fields) ImportFault
imported_under ds fed = fed >>= λ text. import_set ds text

-- What the end makes of the pieces that an importer was fed.
abbrev pub imported : Importing → Result (List Fields) ImportFault
imported i = imported_under i.directory i.fed

-- What an import that is not refused does: it adds to a store the items of the set whose encoding is this text.
abbrev pub Imports : List ℕ → Contents → Contents → Type 0
Imports text old new = (added : Items) × (text ≡ set_text (magic_of text) added) × (new ≡ with_items old (Join old.items added))

-- ---- laws, which `laws` proves

-- If the pieces so far, joined, show a fault, all bytes that begin with them are refused with the same fault.
abbrev pub RefusedPiecesStay : Type 0
RefusedPiecesStay = (ds : Listing) (pieces more : List ℕ) (f : ImportFault) → fed_by (checked_of ds) pieces (Ok []) ≡ Err f → import_set ds (pieces ++ more) ≡ Err f

-- What a store exports is read as its items. So an import of it under the same directory is refused only if memory runs out. A
-- store without items that imports it has equal contents.
pub record ExportsComeBack : Type 0 where
  pub read : (s : Contents) → AreValid s.directory s.items → count s.items < 2 ^ 64 → import_set s.directory (export_of s.items) ≡ Ok (fields_of (listed s.items))
  pub equal : (s new : Contents) → count s.items < 2 ^ 64 → count new.items < 2 ^ 64 → Imports (export_of s.items) (with_items s none) new → new ≡ s
