-- What is found in a journal while it is read.
use Rattle.std.proofs.Common.{◌≡◌, ℕ, ◌≤◌, ◌<◌, Bool, true, false, List, [], ◌∷◌, ◌++◌, length, get_or, refl, sym, ◌∙◌, ap, subst, Vec, arith}
use Rattle.std.specs.Prelude.{◌≢◌, Some, slice_get}
use Rattle.std.specs.declared.alloc.Global.{Global}
use Rattle.authenticators.specs.Directory.{Listing}
use Rattle.item_forms.specs.Pieces.{Piece}
use Rattle.item_forms.specs.Spelling.{spelling}
use Rattle.journal.specs.Journal.{recovered, size_of, texts_of}
use Rattle.journal.specs.Reading.{IsReading}
use Rattle.journal.specs.declared.reading.Reading.{Reading}
use Rattle.durable_store.specs.declared.fault.OpenFault.{OpenFault}
use Rattle.durable_store.specs.declared.fault.OpenFault.TheVariants as fault
use Rattle.durable_store.specs.Opening.{AreShown, IsOfOtherDirectory, IsOfOtherProgram}

-- ---- the basis

pub other_program : (vectors : List (Vec ℕ Global)) (p : Vec ℕ Global) (text : List ℕ) → length vectors ≡ 2 → p ≡ get_or vectors 0 p → text ≢ p.items → IsOfOtherProgram (texts_of vectors) (text ∷ [])
other_program [] p text two is other = absurd (omega (arith, two))
other_program (a ∷ []) p text two is other = absurd (omega (arith, two))
other_program (a ∷ b ∷ []) p text two is other = λ same. other (same ∙ ap (λ (v : Vec ℕ Global). v.items) (sym is))
other_program (a ∷ b ∷ c ∷ more) p text two is other = absurd (omega (arith, two))

pub no_directory : (vectors : List (Vec ℕ Global)) (p : Vec ℕ Global) (text : List ℕ) → length vectors ≡ 2 → p ≡ get_or vectors 0 p → text ≡ p.items → IsOfOtherDirectory (texts_of vectors) true (text ∷ [])
no_directory [] p text two is same = absurd (omega (arith, two))
no_directory (a ∷ []) p text two is same = absurd (omega (arith, two))
no_directory (a ∷ b ∷ []) p text two is same = (same ∙ ap (λ (v : Vec ℕ Global). v.items) is, refl)
no_directory (a ∷ b ∷ c ∷ more) p text two is same = absurd (omega (arith, two))

pub other_directory : (is_all : Bool) (vectors : List (Vec ℕ Global)) (p d : Vec ℕ Global) (text next : List ℕ) → length vectors ≡ 2 → p ≡ get_or vectors 0 p → d ≡ get_or vectors 1 d
    → text ≡ p.items → next ≢ d.items → IsOfOtherDirectory (texts_of vectors) is_all (text ∷ next ∷ [])
other_directory is_all [] p d text next two is of same other = absurd (omega (arith, two))
other_directory is_all (a ∷ []) p d text next two is of same other = absurd (omega (arith, two))
other_directory is_all (a ∷ b ∷ []) p d text next two is of same other =
    (same ∙ ap (λ (v : Vec ℕ Global). v.items) is, λ equal. other (equal ∙ ap (λ (v : Vec ℕ Global). v.items) (sym of)))
other_directory is_all (a ∷ b ∷ c ∷ more) p d text next two is of same other = absurd (omega (arith, two))

-- a file of which nothing was read has no text
pub nothing_found : (file : List ℕ) (texts more : List (List ℕ)) → file ≡ [] → texts ≡ recovered file ++ more → texts ≡ more
nothing_found file texts more none is = is ∙ ap (λ (f : List ℕ). recovered f ++ more) none

-- ---- counting

size_least : (texts : List (List ℕ)) → length texts ≤ size_of texts
size_least [] = omega arith
size_least (text ∷ texts) = omega (arith, size_least texts)

-- there are no more texts than bytes
pub few : {D : Type 0} (found : D → List ℕ) (reading : Reading D) → IsReading found reading → length (recovered (found reading.device)) ≤ reading.end
few found reading is = omega (arith, size_least (recovered (found reading.device)), is.whole, is.end)

-- ---- items

stands_behind : (texts : List (List ℕ)) (text : List ℕ) → slice_get (texts ++ text ∷ []) (length texts) ≡ Some text
stands_behind [] text = refl
stands_behind (t ∷ texts) text = stands_behind texts text

-- a text that is that of no item
pub no_item : {D : Type 0} (found seen : D → List ℕ) (ds : Listing) (basis had : List (List ℕ)) (reading : Reading D) (text : List ℕ) (place : ℕ) (e : OpenFault)
    → recovered (found reading.device) ≡ had ++ text ∷ [] → 1 < place → place ≡ length had → e ≡ fault.BadItem place → ((x : Piece) → text ≡ spelling x.fields → ⊥)
    → AreShown found seen ds basis reading e
no_item found seen ds basis had reading text place e are behind is_at is none =
    subst (AreShown found seen ds basis reading) (sym is)
    (record {
      is_all = false;
      texts = had ++ text ∷ [];
      are_found = are;
      show = (text, behind, subst (λ (n : ℕ). slice_get (had ++ text ∷ []) n ≡ Some text) (sym is_at) (stands_behind had text), λ of. none of.0 of.1);
    })

-- memory ran out
pub no_memory : {D : Type 0} (found seen : D → List ℕ) (ds : Listing) (basis : List (List ℕ)) (reading : Reading D) (e : OpenFault) → e ≡ fault.Memory → AreShown found seen ds basis reading e
no_memory found seen ds basis reading e is =
    subst (AreShown found seen ds basis reading) (sym is) (record { is_all = false; texts = recovered (found reading.device); are_found = refl; show = tt })
