-- What a kept store is, and which files keep just its items.
use Rattle.std.specs.Prelude.{◌≡◌, ℕ, Bool, false, List, [], ◌∷◌, ◌++◌, map, codes, true, Option, refl}
use Rattle.authenticators.specs.Directory.{Listing}
use Rattle.authenticators.specs.DirectoryText.{directory_text}
use Rattle.item_forms.specs.Pieces.{Piece}
use Rattle.item_forms.specs.Spelling.{spelling}
use Rattle.evidence_set.specs.ItemSets.{Items, insert_all, none}
use Rattle.evidence.specs.Contents.{Contents, items_code}
use Rattle.std.specs.Coded.{Coded, codes as coding, code_by, coded×, coded_bool, coded_list, coded_ℕ}
use Rattle.journal.specs.Journal.{recovered, can_be_left}
use Rattle.journal.specs.declared.fault.DeviceFault.{DeviceFault}

-- The two texts with which a journal of items begins. The first is the program's name, behind the eight bytes by which the journal is
-- known. The second is the directory.
abbrev pub basis_of : List ℕ → Listing → List (List ℕ)
basis_of name ds = (codes "PRKEPT01" ++ name) ∷ directory_text ds ∷ []

-- The texts of items.
abbrev pub spellings : List Piece → List (List ℕ)
spellings xs = map (λ (x : Piece). spelling x.fields) xs

-- The texts are the basis, and behind it those of items. E is the set of these items.
pub record IsJournalOf (basis : List (List ℕ)) (E : Items) (texts : List (List ℕ)) : Type 0 where
  pub behind : List Piece
  pub texts_are : texts ≡ basis ++ spellings behind
  pub set_is : E ≡ insert_all none behind

-- If the journal is begun, the texts are a journal of these items. Otherwise there is no text and no item.
abbrev pub Has : Bool → List (List ℕ) → Items → List (List ℕ) → Type 0
Has true basis E texts = IsJournalOf basis E texts
Has false basis E texts = (texts ≡ []) × (E ≡ none)

-- A crash can leave the file, and it has just these items.
pub record Keeps (basis : List (List ℕ)) (E : Items) (file : List ℕ) : Type 0 where
  pub can : can_be_left file ≡ true
  pub is_begun : Bool
  pub just : Has is_begun basis E (recovered file)

-- A kept store, as contracts see it: the device of its journal, how the journal begins and whether it is begun, what the store has, and why
-- it is closed, if it is.
pub record Kept (D : Type 0) : Type 0 where
  pub device : D
  pub basis : List (List ℕ)
  pub is_begun : Bool
  pub contents : Contents
  pub closed : Option DeviceFault

-- How a store's contents are stored in a model.
pub contents_code : Coded Contents
contents_code = Prim.hlevel (coding, items_code)

-- How the reason why a store is closed is stored in a model.
pub closed_code : Coded (Option DeviceFault)
closed_code = Prim.hlevel coding

-- How a kept store is stored in a model.
abbrev pub kept_code : {D : Type 0} → Coded D → Coded (Kept D)
kept_code {D} c =
    code_by (D × (List (List ℕ) × (Bool × (Contents × Option DeviceFault))))
    (coded× c (coded× (coded_list (coded_list coded_ℕ)) (coded× coded_bool (coded× contents_code closed_code))))
    (λ s. (s.device, (s.basis, (s.is_begun, (s.contents, s.closed)))))
    (λ p. record { device = p.0; basis = p.1.0; is_begun = p.1.1.0; contents = p.1.1.1.0; closed = p.1.1.1.1 }) (λ _. refl)

-- Each file that a crash may leave now keeps just the store's items.
abbrev pub IsKept : {D : Type 0} → (D → List ℕ → Type 0) → Kept D → Type 0
IsKept may_leave s = (file : List ℕ) → may_leave s.device file → Keeps s.basis s.contents.items file
