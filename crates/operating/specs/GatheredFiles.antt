-- The evidence of files, and the first fault in them.
use Rattle.std.specs.Prelude.{ℕ, suc, ◌≡◌, ◌⊎◌, ◌<◌, List, [], ◌∷◌, ◌++◌, length, Option, Some, None, Ok, Err}
use Rattle.outcome.specs.Outcome.{told_as, Fails}
use Rattle.authenticators.specs.Directory.{Listing}
use Rattle.authenticators.specs.DirectoryText.{directory_of}
use Rattle.containers.specs.declared.fault.ImportFault.{ImportFault}
use Rattle.evidence.specs.Contents.{Contents}
use Rattle.evidence.specs.Importing.{import_set}
use Rattle.commands.specs.declared.fault.Fault.{Fault}
use Rattle.commands.specs.declared.fault.Fault.TheVariants as fault
use Rattle.commands.specs.Inputs.{IsEvidence, evidence_of}
use Rattle.commands.specs.Refusals.{of_directory, of_import}
use Rattle.operating.specs.declared.refusal.Refusal.{Refusal}
use Rattle.operating.specs.FileTexts.{IsUnsaid, IsUnsaidBy, Say, Says, SaysBy, Texts, directory_in, evidence_in, texts_of}

-- The evidence of files, and the encoding of its directory.
pub record Collected : Type 0 where
  pub contents : Contents
  pub directory : List ℕ

-- These contents under the directory with this encoding.
abbrev pub under : List ℕ → Contents → Collected
under directory s = record { contents = s; directory = directory }

-- The evidence of a directory, which is file 0, with what stands under it there, and of this many stores, which are the files from 1 on.
pub record AreGathered (limit : ℕ) (files : ℕ → Option (List ℕ)) (count : ℕ) (c : Collected) : Type 0 where
  pub front : Texts
  pub stores : List (List ℕ)
  pub number : length stores ≡ count
  pub first : SaysBy limit texts_of (files 0) front
  pub directory : c.directory ≡ directory_in front
  pub others : Say limit c.directory files 1 stores
  pub is : IsEvidence (evidence_of c.directory (evidence_in front ++ stores)) c.contents

-- The refusal names the file with this number, and no item.
abbrev pub IsOfFile : ℕ → Refusal → Type 0
IsOfFile n r = (r.file ≡ Some n) × (r.item ≡ None)

-- Why a directory alone is refused: the file says nothing, or no directory.
abbrev pub RefusesDirectory : ℕ → Option (List ℕ) → Fault → Type 0
RefusesDirectory limit file f = IsUnsaid limit None file f ⊎ ((text : List ℕ) × Says limit None file text × Fails fault.Memory f (told_as of_directory (directory_of text)))

-- Why an encoding of evidence is refused under a directory, and at which item.
abbrev pub RefusesText : Listing → List ℕ → Refusal → Type 0
RefusesText ds text r = (f : ImportFault) × (r.fault ≡ of_import f) × (r.item ≡ Some f.item) × ((r.fault ≡ fault.Memory) ⊎ (import_set ds text ≡ Err f))

-- Why file 0 is refused: it says nothing, or no directory, or what stands under the directory is refused.
abbrev pub RefusesFront : ℕ → Option (List ℕ) → Refusal → Type 0
RefusesFront limit file r =
    ((r.item ≡ None) × IsUnsaidBy limit texts_of file r.fault)
    ⊎ ((front : Texts) × SaysBy limit texts_of file front × (r.item ≡ None) × Fails fault.Memory r.fault (told_as of_directory (directory_of (directory_in front))))
    ⊎ ((front : Texts) × (ds : Listing) × (text : List ℕ) × SaysBy limit texts_of file front × (directory_of (directory_in front) ≡ Ok ds) × (evidence_in front ≡ text ∷ []) × RefusesText ds text r)

-- Why a store is refused under the evidence before it: its file says nothing, or no items.
abbrev pub RefusesStore : ℕ → Collected → Option (List ℕ) → Refusal → Type 0
RefusesStore limit c file r =
    ((r.item ≡ None) × IsUnsaid limit (Some c.directory) file r.fault)
    ⊎ ((text : List ℕ) × Says limit (Some c.directory) file text × RefusesText c.contents.directory text r)

-- The refusal of a directory and this many stores: the first fault in the order of the files. What stands before it is evidence.
abbrev pub RefusesFiles : ℕ → (ℕ → Option (List ℕ)) → ℕ → Refusal → Type 0
RefusesFiles limit files count r =
    ((r.file ≡ Some 0) × RefusesFront limit (files 0) r)
    ⊎ ((n : ℕ) × (c : Collected) × (n < count) × AreGathered limit files n c × (r.file ≡ Some (suc n)) × RefusesStore limit c (files (suc n)) r)
