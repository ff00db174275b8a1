-- States of a journal that is being opened.
use Rattle.std.specs.Prelude.{◌≡◌, ◌≢◌, ℕ, ◌<◌, Bool, true, false, List, [], ◌∷◌, ◌++◌, Some, slice_get, refl}
use Rattle.std.specs.Coded.{Coded, code_by, coded×, coded_bool, coded_list, coded_ℕ}
use Rattle.authenticators.specs.Directory.{Listing}
use Rattle.item_forms.specs.Pieces.{Piece}
use Rattle.item_forms.specs.Spelling.{spelling}
use Rattle.evidence_item.specs.Validity.{IsValid}
use Rattle.evidence_set.specs.ItemSets.{Items, none}
use Rattle.evidence_set.specs.Valid.{AreValid}
use Rattle.evidence.specs.Contents.{Contents}
use Rattle.journal.specs.Journal.{recovered}
use Rattle.journal.specs.Reading.{IsRead, IsReading}
use Rattle.journal.specs.declared.reading.Reading.{Reading}
use Rattle.durable_store.specs.declared.fault.OpenFault.{OpenFault}
use Rattle.durable_store.specs.declared.fault.OpenFault.TheVariants as fault
use Rattle.durable_store.specs.Keeping.{Has, Keeps, basis_of, contents_code}

-- A journal that is being opened, as contracts see it: how it is read, how it is to begin, whether it was found to begin so, and what the
-- store has so far.
pub record Found (D : Type 0) : Type 0 where
  pub reading : Reading D
  pub basis : List (List ℕ)
  pub is_begun : Bool
  pub contents : Contents

-- How it is stored in a model.
abbrev pub found_code : {D : Type 0} → Coded D → Coded (Found D)
found_code {D} c =
    code_by (D × (ℕ × (ℕ × (List (List ℕ) × (Bool × Contents)))))
    (coded× c (coded× coded_ℕ (coded× coded_ℕ (coded× (coded_list (coded_list coded_ℕ)) (coded× coded_bool contents_code)))))
    (λ o. (o.reading.device, (o.reading.end, (o.reading.len, (o.basis, (o.is_begun, o.contents))))))
    (λ p. record { reading = record { device = p.0; end = p.1.0; len = p.1.1.0 }; basis = p.1.1.1.0; is_begun = p.1.1.1.1.0; contents = p.1.1.1.1.1 }) (λ _. refl)

-- Nothing was read.
pub record IsUnread {D : Type 0} (found : D → List ℕ) (opening : Found D) : Type 0 where
  pub reading : IsReading found opening.reading
  pub nothing : found opening.reading.device ≡ []
  pub begun : opening.is_begun ≡ false
  pub none_yet : opening.contents.items ≡ none

-- All of the file was read, and the store has just its items.
pub record IsWhole {D : Type 0} (seen : D → List ℕ) (may_leave : D → List ℕ → Type 0) (opening : Found D) : Type 0 where
  pub read : IsRead seen may_leave opening.reading
  pub just : Has opening.is_begun opening.basis opening.contents.items (recovered (seen opening.reading.device))

-- These texts were found. They are all of the file's, or those that were read so far.
abbrev pub AreFound : {D : Type 0} → (D → List ℕ) → (D → List ℕ) → Reading D → Bool → List (List ℕ) → Type 0
AreFound found seen reading true texts = recovered (seen reading.device) ≡ texts
AreFound found seen reading false texts = recovered (found reading.device) ≡ texts

-- The text is that of a valid item.
abbrev pub IsItemText : Listing → List ℕ → Type 0
IsItemText ds text = (x : Piece) × (text ≡ spelling x.fields) × IsValid ds x.fields

-- The first text is not the first one of the basis.
abbrev pub IsOfOtherProgram : List (List ℕ) → List (List ℕ) → Type 0
IsOfOtherProgram (program ∷ directory ∷ []) (text ∷ texts) = text ≢ program
IsOfOtherProgram basis texts = ⊥

-- The first text is that of the basis, and the second one is not, or the file has no second one.
abbrev pub IsOfOtherDirectory : List (List ℕ) → Bool → List (List ℕ) → Type 0
IsOfOtherDirectory (program ∷ directory ∷ []) is_all (text ∷ []) = (text ≡ program) × (is_all ≡ true)
IsOfOtherDirectory (program ∷ directory ∷ []) is_all (text ∷ next ∷ texts) = (text ≡ program) × (next ≢ directory)
IsOfOtherDirectory basis is_all texts = ⊥

-- What the texts that were found show of a fault. Faults that no text shows say nothing of them. Items stand behind the two texts of the
-- basis.
abbrev pub Shows : Listing → List (List ℕ) → Bool → List (List ℕ) → OpenFault → Type 0
Shows ds basis is_all texts fault.BadWorkers = Unit {0}
Shows ds basis is_all texts fault.DiskFailed = Unit {0}
Shows ds basis is_all texts fault.Damaged = Unit {0}
Shows ds basis is_all texts fault.OtherProgram = IsOfOtherProgram basis texts
Shows ds basis is_all texts fault.OtherDirectory = IsOfOtherDirectory basis is_all texts
Shows ds basis is_all texts (fault.BadItem n) = (text : List ℕ) × (1 < n) × (slice_get texts n ≡ Some text) × (¬ IsItemText ds text)
Shows ds basis is_all texts fault.Memory = Unit {0}

-- The texts that were found show the fault, if it is one that texts show.
pub record AreShown {D : Type 0} (found seen : D → List ℕ) (ds : Listing) (basis : List (List ℕ)) (reading : Reading D) (e : OpenFault) : Type 0 where
  pub is_all : Bool
  pub texts : List (List ℕ)
  pub are_found : AreFound found seen reading is_all texts
  pub show : Shows ds basis is_all texts e

-- ---- a law, which `laws` proves

-- The fault is one that texts show.
abbrev pub IsOfTexts : OpenFault → Type 0
IsOfTexts fault.BadWorkers = ⊥
IsOfTexts fault.DiskFailed = ⊥
IsOfTexts fault.Damaged = ⊥
IsOfTexts fault.OtherProgram = Unit {0}
IsOfTexts fault.OtherDirectory = Unit {0}
IsOfTexts (fault.BadItem n) = Unit {0}
IsOfTexts fault.Memory = ⊥

-- The texts are all, or the first ones.
abbrev pub AreOf : Bool → List (List ℕ) → List (List ℕ) → Type 0
AreOf true texts all = texts ≡ all
AreOf false texts all = (more : List (List ℕ)) × (texts ++ more ≡ all)

-- The texts of a file that keeps valid items show no fault, if the file is opened under the same program's name and directory. So a file
-- that a crash left is opened again, unless memory runs out or the disk fails. By `LeftFilesAreRead` of `journal` it is not damaged either.
abbrev pub LeftJournalsAreOpened : Type 0
LeftJournalsAreOpened =
    (name : List ℕ) (ds : Listing) (E : Items) (file : List ℕ) (is_all : Bool) (texts : List (List ℕ)) (e : OpenFault)
    → Keeps (basis_of name ds) E file → AreValid ds E → AreOf is_all texts (recovered file) → IsOfTexts e
    → Shows ds (basis_of name ds) is_all texts e → ⊥
