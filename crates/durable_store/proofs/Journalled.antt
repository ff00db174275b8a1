-- What a journal of items has once more are added.
use Rattle.std.proofs.Common.{◌≡◌, ◌<◌, ◌⊎◌, arith, length, inl, inr, ⊎_elim, ℕ, Bool, true, false, not, cond, List, [], ◌∷◌, ◌++◌, append_assoc, refl, sym, ◌∙◌, ap, subst, Vec}
use Rattle.std.specs.declared.alloc.Global.{Global}
use Rattle.std.specs.List.{Contains}
use Rattle.std.proofs.lemmas.List.{append-nil, map-append}
use Rattle.item_forms.specs.Pieces.{Piece}
use Rattle.item_forms.specs.Spelling.{spelling}
use Rattle.evidence_set.specs.ItemSets.{Items, Has as IsIn, IsWithin, contains, insert_all, none}
use Rattle.evidence_set.proofs.Joins.{as_expected}
use Rattle.evidence_set.proofs.Members.{first_member, later_member, member_cases, nothing}
use Rattle.journal.specs.Journal.{IsBeforeOrAfter, StandsFor, texts_of}
use Rattle.durable_store.specs.Calls.{behind_basis, unheld}
use Rattle.durable_store.specs.Keeping.{Has, IsJournalOf, Keeps, spellings}
use Rattle.durable_store.proofs.Sets.{grows, in_all, one, put_all}

-- ---- members

both_ways : (b : Bool) → (b ≡ true) ⊎ (b ≡ false)
both_ways true = inl refl
both_ways false = inr refl

-- what is in the group and not in the set is written
module _ (E : Items) where
  stays : (x : Piece) (b : Bool) (xs : List Piece) (y : Piece) → not (contains E x) ≡ b → Contains (unheld E xs) y → Contains (cond b (x ∷ unheld E xs) (unheld E xs)) y
  stays x true xs y is c = later_member x (unheld E xs) y c
  stays x false xs y is c = c

  comes : (x : Piece) (b : Bool) (xs : List Piece) → not (contains E x) ≡ b → b ≡ true → Contains (cond b (x ∷ unheld E xs) (unheld E xs)) x
  comes x true xs is out = first_member x (unheld E xs)
  comes x false xs is out = absurd (cc out)

  pub is_written : (xs : List Piece) (y : Piece) → Contains xs y → contains E y ≡ false → Contains (unheld E xs) y
  is_written [] y c out = absurd (nothing y c)
  is_written (x ∷ xs) y c out = ⊎_elim first (λ later. stays x (not (contains E x)) xs y refl (is_written xs y later out)) (member_cases x xs y c)
    where
      first : x ≡ y → Contains (unheld E (x ∷ xs)) y
      first same = subst (λ (z : Piece). Contains (unheld E (x ∷ xs)) z) same (comes x (not (contains E x)) xs refl (ap (λ (z : Piece). not (contains E z)) same ∙ ap not out))

  from : (x : Piece) (b : Bool) (xs : List Piece) (y : Piece) → Contains (cond b (x ∷ unheld E xs) (unheld E xs)) y → (x ≡ y) ⊎ Contains (unheld E xs) y
  from x true xs y c = member_cases x (unheld E xs) y c
  from x false xs y c = inr c

  pub of_group : (xs : List Piece) (y : Piece) → Contains (unheld E xs) y → Contains xs y
  of_group [] y c = c
  of_group (x ∷ xs) y c = ⊎_elim (λ same. subst (λ (z : Piece). Contains (x ∷ xs) z) same (first_member x xs)) (λ later. later_member x xs y (of_group xs y later)) (from x (not (contains E x)) xs y c)

-- members of two lists, one behind the other
in_front : (xs ys : List Piece) (y : Piece) → Contains xs y → Contains (xs ++ ys) y
in_front [] ys y c = absurd (nothing y c)
in_front (x ∷ xs) ys y c = ⊎_elim (λ same. subst (λ (z : Piece). Contains (x ∷ xs ++ ys) z) same (first_member x (xs ++ ys))) (λ later. later_member x (xs ++ ys) y (in_front xs ys y later)) (member_cases x xs y c)

behind : (xs ys : List Piece) (y : Piece) → Contains ys y → Contains (xs ++ ys) y
behind [] ys y c = c
behind (x ∷ xs) ys y c = later_member x (xs ++ ys) y (behind xs ys y c)

either : (xs ys : List Piece) (y : Piece) → Contains (xs ++ ys) y → Contains xs y ⊎ Contains ys y
either [] ys y c = inr c
either (x ∷ xs) ys y c =
    ⊎_elim (λ same. inl (subst (λ (z : Piece). Contains (x ∷ xs) z) same (first_member x xs)))
    (λ later. ⊎_elim (λ l. inl (later_member x xs y l)) (λ r. inr r) (either xs ys y later)) (member_cases x (xs ++ ys) y c)

-- ---- sets

-- the set of what is there and of what is written is that with the group
with_written : (E : Items) (behind_it group : List Piece) → E ≡ insert_all none behind_it → insert_all E group ≡ insert_all none (behind_it ++ unheld E group)
with_written E old group is = one _ _ there back
  where
    was : (x : Piece) → IsIn E x → Contains old x
    was x has = ⊎_elim (λ h. absurd (as_expected.none x h)) (λ c. c) (in_all none old x (subst (λ (F : Items). IsIn F x) is has))

    put : (x : Piece) → Contains (old ++ unheld E group) x → IsIn (insert_all none (old ++ unheld E group)) x
    put x c = put_all none (old ++ unheld E group) x (inr c)

    of : (x : Piece) → Contains group x → IsIn (insert_all none (old ++ unheld E group)) x
    of x c = ⊎_elim (λ has. put x (in_front old (unheld E group) x (was x has))) (λ out. put x (behind old (unheld E group) x (is_written E group x c out))) (both_ways (contains E x))

    there : IsWithin (insert_all E group) (insert_all none (old ++ unheld E group))
    there x has = ⊎_elim (λ h. put x (in_front old (unheld E group) x (was x h))) (of x) (in_all E group x has)

    had : (x : Piece) → Contains old x → IsIn E x
    had x c = subst (λ (F : Items). IsIn F x) (sym is) (put_all none old x (inr c))

    back : IsWithin (insert_all none (old ++ unheld E group)) (insert_all E group)
    back x has =
        ⊎_elim (λ h. absurd (as_expected.none x h))
        (λ c. ⊎_elim (λ l. grows E group x (had x l)) (λ r. put_all E group x (inr (of_group E group x r))) (either old (unheld E group) x c))
        (in_all none (old ++ unheld E group) x has)

no_text : (xs : List Piece) → spellings xs ≡ [] → xs ≡ []
no_text [] is = refl
no_text (x ∷ xs) is = absurd (cc is)

-- where nothing of the group is written, all of it is there
all_there : (E : Items) (group : List Piece) → [] ≡ spellings (unheld E group) → E ≡ insert_all E group
all_there E group is = one _ _ (grows E group) back
  where
    nothing_new : unheld E group ≡ []
    nothing_new = no_text (unheld E group) (sym is)

    of : (x : Piece) → Contains group x → IsIn E x
    of x c = ⊎_elim (λ has. has) (λ out. absurd (nothing x (subst (λ (l : List Piece). Contains l x) nothing_new (is_written E group x c out)))) (both_ways (contains E x))

    back : IsWithin (insert_all E group) E
    back x has = ⊎_elim (λ h. h) (of x) (in_all E group x has)

-- ---- journals

more_texts : (basis texts : List (List ℕ)) (E : Items) (group : List Piece) → IsJournalOf basis E texts → IsJournalOf basis (insert_all E group) (texts ++ spellings (unheld E group))
more_texts basis texts E group j = record {
  behind = j.behind ++ unheld E group;
  texts_are = ap (λ (t : List (List ℕ)). t ++ spellings (unheld E group)) j.texts_are
      ∙ append_assoc basis (spellings j.behind) (spellings (unheld E group))
      ∙ ap (λ (t : List (List ℕ)). basis ++ t) (sym (map-append (λ (x : Piece). spelling x.fields) j.behind (unheld E group)));
  set_is = with_written E j.behind group j.set_is;
}

with_all : (E : Items) (old more : List Piece) → E ≡ insert_all none old → insert_all E more ≡ insert_all none (old ++ more)
with_all E old more is = one _ _ there back
  where
    there : IsWithin (insert_all E more) (insert_all none (old ++ more))
    there x has =
        put_all none (old ++ more) x
        (inr (⊎_elim (λ h. ⊎_elim (λ none_has. absurd (as_expected.none x none_has)) (λ c. in_front old more x c) (in_all none old x (subst (λ (F : Items). IsIn F x) is h))) (λ c. behind old more x c) (in_all E more x has)))

    back : IsWithin (insert_all none (old ++ more)) (insert_all E more)
    back x has =
        put_all E more x
        (⊎_elim (λ none_has. absurd (as_expected.none x none_has))
        (λ c. ⊎_elim (λ l. inl (subst (λ (F : Items). IsIn F x) (sym is) (put_all none old x (inr l)))) (λ r. inr r) (either old more x c))
        (in_all none (old ++ more) x has))

pub more_items : (basis texts : List (List ℕ)) (E : Items) (more : List Piece) → IsJournalOf basis E texts → IsJournalOf basis (insert_all E more) (texts ++ spellings more)
more_items basis texts E more j = record {
  behind = j.behind ++ more;
  texts_are = ap (λ (t : List (List ℕ)). t ++ spellings more) j.texts_are
      ∙ append_assoc basis (spellings j.behind) (spellings more)
      ∙ ap (λ (t : List (List ℕ)). basis ++ t) (sym (map-append (λ (x : Piece). spelling x.fields) j.behind more));
  set_is = with_all E j.behind more j.set_is;
}

first_texts : (basis : List (List ℕ)) (E : Items) → E ≡ none → IsJournalOf basis E basis
first_texts basis E is = record { behind = []; texts_are = sym (append-nil basis); set_is = is }

-- some texts of a group are written
grown : (is_begun : Bool) (basis had : List (List ℕ)) (E : Items) (group : List Piece) (text : List ℕ) (texts : List (List ℕ))
    → Has is_begun basis E had → text ∷ texts ≡ spellings (unheld E group) → IsJournalOf basis (insert_all E group) (had ++ behind_basis is_begun basis (text ∷ texts))
grown true basis had E group text texts has are =
    subst (λ (t : List (List ℕ)). IsJournalOf basis (insert_all E group) (had ++ t)) (sym are) (more_texts basis had E group has)
grown false basis had E group text texts has are =
    subst (λ (t : List (List ℕ)). IsJournalOf basis (insert_all E group) t) (sym (ap (λ (t : List (List ℕ)). t ++ (basis ++ text ∷ texts)) has.0))
    (subst (λ (t : List (List ℕ)). IsJournalOf basis (insert_all E group) (basis ++ t)) (sym are) (more_texts basis basis E group (first_texts basis E has.1)))

pub grown_by : (is_begun : Bool) (basis had texts : List (List ℕ)) (E : Items) (group : List Piece) → 0 < length texts
    → Has is_begun basis E had → texts ≡ spellings (unheld E group) → IsJournalOf basis (insert_all E group) (had ++ behind_basis is_begun basis texts)
grown_by is_begun basis had [] E group some has are = absurd (omega arith)
grown_by is_begun basis had (text ∷ texts) E group some has are = grown is_begun basis had E group text texts has are

-- no text is
pub same_by : (is_begun : Bool) (basis had : List (List ℕ)) (E : Items) (group : List Piece) → Has is_begun basis E had → [] ≡ spellings (unheld E group) → Has is_begun basis (insert_all E group) had
same_by is_begun basis had E group has are = subst (λ (F : Items). Has is_begun basis F had) (all_there E group are) has

-- ---- files

pub keeps : (is_begun : Bool) (basis had : List (List ℕ)) (E : Items) (file : List ℕ) → Has is_begun basis E had → StandsFor had file → Keeps basis E file
keeps is_begun basis had E file has stands = record {
  can = stands.1;
  is_begun = is_begun;
  just = subst (λ (t : List (List ℕ)). Has is_begun basis E t) (sym stands.0) has;
}

pub keeps_either : (is_begun : Bool) (basis had texts : List (List ℕ)) (E : Items) (group : List Piece) (file : List ℕ) → 0 < length texts
    → Has is_begun basis E had → texts ≡ spellings (unheld E group) → IsBeforeOrAfter had (behind_basis is_begun basis texts) file
    → Keeps basis E file ⊎ Keeps basis (insert_all E group) file
keeps_either is_begun basis had texts E group file some has are stands =
    ⊎_elim (λ old. inl (keeps is_begun basis had E file has old))
    (λ new. inr (keeps true basis (had ++ behind_basis is_begun basis texts) (insert_all E group) file (grown_by is_begun basis had texts E group some has are) new)) stands

pub some_texts : (vectors : List (Vec ℕ Global)) → 0 < length vectors → 0 < length (texts_of vectors)
some_texts [] some = absurd (omega arith)
some_texts (v ∷ vectors) some = omega arith

pub no_vector : (vectors : List (Vec ℕ Global)) → length vectors ≡ 0 → vectors ≡ []
no_vector [] none = refl
no_vector (v ∷ vectors) none = absurd (omega (arith, none))

-- a journal that is begun, in other words for its parts
pub begun_with : (is_begun : Bool) (basis own : List (List ℕ)) (E : Items) (texts had : List (List ℕ)) → is_begun ≡ true → own ≡ basis → had ≡ texts → IsJournalOf basis E texts → Has is_begun own E had
begun_with is_begun basis own E texts had begun same are j =
    subst (λ (b : Bool). Has b own E had) (sym begun) (subst (λ (t : List (List ℕ)). IsJournalOf t E had) (sym same) (subst (λ (t : List (List ℕ)). IsJournalOf basis E t) (sym are) j))
