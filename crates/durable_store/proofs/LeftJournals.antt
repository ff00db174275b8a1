-- A file that keeps valid items shows no fault.
use Rattle.std.proofs.Common.{◌≡◌, ℕ, zero, suc, ◌<◌, Bool, true, false, List, [], ◌∷◌, ◌++◌, inr, refl, sym, ◌∙◌, ap, subst, Some, arith}
use Rattle.std.specs.Prelude.{slice_get}
use Rattle.std.specs.List.{Contains}
use Rattle.authenticators.specs.Directory.{Listing}
use Rattle.item_forms.specs.Pieces.{Piece}
use Rattle.item_forms.specs.Spelling.{spelling}
use Rattle.evidence_set.specs.ItemSets.{Has as IsIn, Items, insert_all, none}
use Rattle.evidence_set.specs.Valid.{AreValid}
use Rattle.evidence_set.proofs.Members.{first_member, later_member}
use Rattle.journal.specs.Journal.{recovered}
use Rattle.durable_store.specs.declared.fault.OpenFault.{OpenFault}
use Rattle.durable_store.specs.declared.fault.OpenFault.TheVariants as fault
use Rattle.durable_store.specs.Keeping.{Has, basis_of, spellings}
use Rattle.durable_store.specs.Opening.{AreOf, IsItemText, IsOfTexts, LeftJournalsAreOpened, Shows}
use Rattle.durable_store.proofs.Sets.{put_all}

-- ---- texts in front

record InFront (texts all : List (List ℕ)) : Type 0 where
  more : List (List ℕ)
  is : texts ++ more ≡ all

in_front : (is_all : Bool) (texts all : List (List ℕ)) → AreOf is_all texts all → InFront texts all
in_front true texts all same = record { more = []; is = append_nothing texts ∙ same }
  where
    append_nothing : (l : List (List ℕ)) → l ++ [] ≡ l
    append_nothing [] = refl
    append_nothing (t ∷ l) = ap (λ (r : List (List ℕ)). t ∷ r) (append_nothing l)
in_front false texts all front = record { more = front.0; is = front.1 }

still_at : (texts more : List (List ℕ)) (n : ℕ) (text : List ℕ) → slice_get texts n ≡ Some text → slice_get (texts ++ more) n ≡ Some text
still_at [] more n text is = absurd (cc is)
still_at (t ∷ texts) more zero text is = is
still_at (t ∷ texts) more (suc n) text is = still_at texts more n text is

-- ---- items

-- the text at a place of the spellings is that of an item
record IsOneOf (xs : List Piece) (text : List ℕ) : Type 0 where
  item : Piece
  among : Contains xs item
  is : text ≡ spelling item.fields

one_of : (xs : List Piece) (n : ℕ) (text : List ℕ) → slice_get (spellings xs) n ≡ Some text → IsOneOf xs text
one_of [] n text is = absurd (cc is)
one_of (x ∷ xs) zero text is = record { item = x; among = first_member x xs; is = cc is }
one_of (x ∷ xs) (suc n) text is = let o = one_of xs n text is in record { item = o.item; among = later_member x xs o.item o.among; is = o.is }

valid_text : (ds : Listing) (E : Items) (xs : List Piece) (text : List ℕ) → AreValid ds E → E ≡ insert_all none xs → IsOneOf xs text → IsItemText ds text
valid_text ds E xs text valid set o = (o.item, o.is, valid o.item (subst (λ (F : Items). IsIn F o.item) (sym set) (put_all none xs o.item (inr o.among))))

-- ---- a journal that is begun

module _ (ds : Listing) (E : Items) (program directory : List ℕ) (behind : List Piece) (valid : AreValid ds E) (set : E ≡ insert_all none behind) where
  abbrev all_texts : List (List ℕ)
  all_texts = program ∷ directory ∷ spellings behind

  same_program : (text : List ℕ) (texts : List (List ℕ)) → InFront (text ∷ texts) all_texts → text ≡ program
  same_program text texts front = cc front.is

  same_directory : (text next : List ℕ) (texts : List (List ℕ)) → InFront (text ∷ next ∷ texts) all_texts → next ≡ directory
  same_directory text next texts front = cc front.is

  no_bad_item : (n : ℕ) (text : List ℕ) → 1 < n → slice_get all_texts n ≡ Some text → (¬ IsItemText ds text) → ⊥
  no_bad_item zero text beyond at not_item = omega (arith, beyond)
  no_bad_item (suc zero) text beyond at not_item = omega (arith, beyond)
  no_bad_item (suc (suc n)) text beyond at not_item = not_item (valid_text ds E behind text valid set (one_of behind n text at))

  none_shown : (is_all : Bool) (texts : List (List ℕ)) (e : OpenFault) → AreOf is_all texts all_texts → IsOfTexts e → Shows ds (program ∷ directory ∷ []) is_all texts e → ⊥
  none_shown is_all texts fault.BadWorkers of told shows = told
  none_shown is_all texts fault.DiskFailed of told shows = told
  none_shown is_all texts fault.Damaged of told shows = told
  none_shown is_all texts fault.Memory of told shows = told
  none_shown is_all [] fault.OtherProgram of told shows = shows
  none_shown is_all (text ∷ texts) fault.OtherProgram of told shows = shows (same_program text texts (in_front is_all (text ∷ texts) all_texts of))
  none_shown is_all [] fault.OtherDirectory of told shows = shows
  none_shown true (text ∷ []) fault.OtherDirectory of told shows = cc of
  none_shown false (text ∷ []) fault.OtherDirectory of told shows = absurd (cc shows.1)
  none_shown is_all (text ∷ next ∷ texts) fault.OtherDirectory of told shows = shows.1 (same_directory text next texts (in_front is_all (text ∷ next ∷ texts) all_texts of))
  none_shown is_all texts (fault.BadItem n) of told shows =
      let front = in_front is_all texts all_texts of in
      no_bad_item n shows.0 shows.1 (subst (λ (l : List (List ℕ)). slice_get l n ≡ Some shows.0) front.is (still_at texts front.more n shows.0 shows.2)) shows.3

-- ---- a new journal

nothing_shown : (ds : Listing) (program directory : List ℕ) (is_all : Bool) (texts : List (List ℕ)) (e : OpenFault) → AreOf is_all texts [] → IsOfTexts e → Shows ds (program ∷ directory ∷ []) is_all texts e → ⊥
nothing_shown ds program directory is_all [] fault.OtherProgram of told shows = shows
nothing_shown ds program directory is_all [] fault.OtherDirectory of told shows = shows
nothing_shown ds program directory is_all [] (fault.BadItem n) of told shows = absurd (cc shows.2)
nothing_shown ds program directory is_all [] fault.BadWorkers of told shows = told
nothing_shown ds program directory is_all [] fault.DiskFailed of told shows = told
nothing_shown ds program directory is_all [] fault.Damaged of told shows = told
nothing_shown ds program directory is_all [] fault.Memory of told shows = told
nothing_shown ds program directory is_all (text ∷ texts) e of told shows = cc (in_front is_all (text ∷ texts) [] of).is

left : (name : List ℕ) (ds : Listing) (E : Items) (all : List (List ℕ)) (is_begun is_all : Bool) (texts : List (List ℕ)) (e : OpenFault)
    → Has is_begun (basis_of name ds) E all → AreValid ds E → AreOf is_all texts all → IsOfTexts e → Shows ds (basis_of name ds) is_all texts e → ⊥
left name ds E all true is_all texts e j valid of told shows =
    none_shown ds E _ _ j.behind valid j.set_is is_all texts e (subst (λ (l : List (List ℕ)). AreOf is_all texts l) j.texts_are of) told shows
left name ds E all false is_all texts e new valid of told shows =
    nothing_shown ds _ _ is_all texts e (subst (λ (l : List (List ℕ)). AreOf is_all texts l) new.0 of) told shows

pub opened : LeftJournalsAreOpened
opened name ds E file is_all texts e keeps valid of told shows = left name ds E (recovered file) keeps.is_begun is_all texts e keeps.just valid of told shows
