-- A store is filled from a journal.
use Rattle.std.proofs.Common.{◌≡◌, ⊎_elim, ℕ, zero, suc, ◌+◌, ◌<◌, Bool, true, false, List, [], ◌∷◌, ◌++◌, length, length-append, refl, sym, ◌∙◌, ap, subst, Some, arith}
use Rattle.std.specs.Prelude.{slice_get, option_map}
use Rattle.authenticators.specs.Directory.{Listing}
use Rattle.item_forms.specs.Pieces.{Piece}
use Rattle.item_forms.specs.Spelling.{spelling}
use Rattle.item_forms.specs.SpellingLaws.{ItemsHaveOneText}
use Rattle.evidence_item.specs.Validity.{IsValid}
use Rattle.evidence_set.specs.ItemSets.{Items, insert_all}
use Rattle.evidence.specs.Contents.{Contents, with_items}
use Rattle.journal.specs.Journal.{recovered}
use Rattle.journal.specs.declared.reading.Reading.{Reading}
use Rattle.durable_store.specs.declared.fault.OpenFault.{OpenFault}
use Rattle.durable_store.specs.declared.fault.OpenFault.TheVariants as fault
use Rattle.durable_store.specs.Keeping.{IsJournalOf, spellings}
use Rattle.durable_store.specs.Opening.{AreFound, AreShown, IsItemText}
use Rattle.durable_store.specs.within.Filling.{Filling}
use Rattle.durable_store.specs.within.Findings.{AreReached, IsBad, IsInvalid}
use Rattle.durable_store.proofs.Journalled.{more_items}

-- ---- places

front_skipped : (xs ys : List (List ℕ)) (n : ℕ) → slice_get (xs ++ ys) (length xs + n) ≡ slice_get ys n
front_skipped [] ys n = ap (slice_get ys) (plus n)
  where
    plus : (n : ℕ) → 0 + n ≡ n
    plus n = omega arith
front_skipped (x ∷ xs) ys n = ap (slice_get (x ∷ xs ++ ys)) (plus (length xs) n) ∙ front_skipped xs ys n
  where
    plus : (m n : ℕ) → suc m + n ≡ suc (m + n)
    plus m n = omega arith

spelled_at : (xs : List Piece) (n : ℕ) (x : Piece) → slice_get xs n ≡ Some x → slice_get (spellings xs) n ≡ Some (spelling x.fields)
spelled_at [] n x is = absurd (cc is)
spelled_at (y ∷ xs) zero x is = ap (option_map (λ (z : Piece). spelling z.fields)) is
spelled_at (y ∷ xs) (suc n) x is = spelled_at xs n x is

-- ---- an item that is not valid

is_found : {D : Type 0} (found seen : D → List ℕ) (may_leave : D → List ℕ → Type 0) (is_last : Bool) (texts : List (List ℕ)) (reading : Reading D)
    → AreReached found seen may_leave is_last texts reading → AreFound found seen reading is_last texts
is_found found seen may_leave true texts reading are = are.1
is_found found seen may_leave false texts reading are = are.1

is_invalid : ItemsHaveOneText → (ds : Listing) (item : Piece) → ¬ IsValid ds item.fields → ¬ IsItemText ds (spelling item.fields)
is_invalid one ds item invalid of = invalid (subst (λ (z : Piece). IsValid ds z.fields) (sym (one.item item of.0 of.1)) of.2)

pub bad_is_shown : {D : Type 0} (found seen : D → List ℕ) (may_leave : D → List ℕ → Type 0) → ItemsHaveOneText → (ds : Listing) (basis : List (List ℕ)) (is_last : Bool) (had : List (List ℕ)) (items : List Piece)
    (reading : Reading D) (before : ℕ) (e : OpenFault) → AreReached found seen may_leave is_last (had ++ spellings items) reading → 1 < before → before ≡ length had → IsBad ds items before e → AreShown found seen ds basis reading e
bad_is_shown found seen may_leave one ds basis is_last had items reading before e are beyond place = ⊎_elim memory bad
  where
    memory : e ≡ fault.Memory → AreShown found seen ds basis reading e
    memory is = subst (AreShown found seen ds basis reading) (sym is) (record { is_all = is_last; texts = had ++ spellings items; are_found = is_found found seen may_leave is_last (had ++ spellings items) reading are; show = tt })

    bad : IsInvalid ds items before e → AreShown found seen ds basis reading e
    bad is =
        let at : slice_get (had ++ spellings items) (before + is.place) ≡ Some (spelling is.item.fields) =
        ap (λ (k : ℕ). slice_get (had ++ spellings items) (k + is.place)) place ∙ front_skipped had (spellings items) is.place ∙ spelled_at items is.place is.item is.stands in
        subst (AreShown found seen ds basis reading) (sym is.is)
        (record {
          is_all = is_last;
          texts = had ++ spellings items;
          are_found = is_found found seen may_leave is_last (had ++ spellings items) reading are;
          show = (spelling is.item.fields, omega (arith, beyond), at, is_invalid one ds is.item is.invalid);
        })

-- ---- items more

pub filled : (basis had texts : List (List ℕ)) (old new : Contents) (items : List Piece) → IsJournalOf basis old.items had → texts ≡ had ++ spellings items → new ≡ with_items old (insert_all old.items items)
    → IsJournalOf basis new.items texts
filled basis had texts old new items j are is =
    subst (λ (E : Items). IsJournalOf basis E texts) (sym (ap (λ (c : Contents). c.items) is))
    (subst (λ (t : List (List ℕ)). IsJournalOf basis (insert_all old.items items) t) (sym are) (more_items basis had old.items items j))

length_spellings : (xs : List Piece) → length (spellings xs) ≡ length xs
length_spellings [] = refl
length_spellings (x ∷ xs) = omega (arith, length_spellings xs)

pub goes_on : {D : Type 0} (found seen : D → List ℕ) (may_leave : D → List ℕ → Type 0) (first old new : Reading D) (empty before behind : Contents) (items : List Piece) (is_last : Bool) (count more : ℕ)
    → is_last ≡ false → AreReached found seen may_leave is_last (recovered (found old.device) ++ spellings items) new → behind ≡ with_items before (insert_all before.items items) → more ≡ count + length items
    → Filling found first old empty before count → Filling found first new empty behind more
goes_on found seen may_leave first old new empty before behind items is_last count more goes are taken counted so_far =
    let next = subst (λ (b : Bool). AreReached found seen may_leave b (recovered (found old.device) ++ spellings items) new) goes are in
    record {
      reading = next.0;
      just = filled (recovered (found first.device)) (recovered (found old.device)) (recovered (found new.device)) before behind items so_far.just next.1 taken;
      behind_basis = omega (arith, counted, so_far.behind_basis);
      count_is = omega (arith, counted, so_far.count_is, ap length next.1, length-append (recovered (found old.device)) (spellings items), length_spellings items);
      directory = ap (λ (c : Contents). c.directory) taken ∙ so_far.directory;
    }
