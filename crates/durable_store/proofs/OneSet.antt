-- A file keeps one set of items.
use Rattle.std.proofs.Common.{◌≡◌, ℕ, Bool, true, false, List, [], ◌∷◌, ◌++◌, refl, sym, ◌∙◌, ap}
use Rattle.std.proofs.lemmas.List.{append_cancel_left}
use Rattle.item_forms.specs.Pieces.{Piece}
use Rattle.item_forms.specs.Spelling.{spelling}
use Rattle.item_forms.specs.SpellingLaws.{ItemsHaveOneText}
use Rattle.evidence_set.specs.ItemSets.{Items, insert_all, none}
use Rattle.journal.specs.Journal.{recovered}
use Rattle.durable_store.specs.Keeping.{Has, IsJournalOf, spellings}
use Rattle.durable_store.specs.Runs.{FilesKeepOneSet}

nothing_behind : (front behind : List (List ℕ)) → [] ≡ front ++ behind → behind ≡ []
nothing_behind [] behind is = sym is
nothing_behind (t ∷ front) behind is = absurd (cc is)

no_item : (xs : List Piece) → spellings xs ≡ [] → xs ≡ []
no_item [] is = refl
no_item (x ∷ xs) is = absurd (cc is)

head_is : (t u : List ℕ) (ts us : List (List ℕ)) → t ∷ ts ≡ u ∷ us → t ≡ u
head_is t u ts us is = cc is

tail_is : (t u : List ℕ) (ts us : List (List ℕ)) → t ∷ ts ≡ u ∷ us → ts ≡ us
tail_is t u ts us is = cc is

-- items are known by their texts
same_items : ItemsHaveOneText → (xs ys : List Piece) → spellings xs ≡ spellings ys → xs ≡ ys
same_items one [] [] is = refl
same_items one [] (y ∷ ys) is = absurd (cc is)
same_items one (x ∷ xs) [] is = absurd (cc is)
same_items one (x ∷ xs) (y ∷ ys) is =
    let head = one.item x y (head_is (spelling x.fields) (spelling y.fields) (spellings xs) (spellings ys) is) in
    let tail = same_items one xs ys (tail_is (spelling x.fields) (spelling y.fields) (spellings xs) (spellings ys) is) in
    ap (λ (z : Piece). z ∷ xs) head ∙ ap (λ (zs : List Piece). y ∷ zs) tail

empty : (basis : List (List ℕ)) (E : Items) (texts : List (List ℕ)) → texts ≡ [] → IsJournalOf basis E texts → E ≡ none
empty basis E texts none_there j =
    let behind = no_item j.behind (nothing_behind basis (spellings j.behind) (sym none_there ∙ j.texts_are)) in
    j.set_is ∙ ap (λ (l : List Piece). insert_all none l) behind

one_set : ItemsHaveOneText → (b c : Bool) (basis : List (List ℕ)) (E F : Items) (texts : List (List ℕ)) → Has b basis E texts → Has c basis F texts → E ≡ F
one_set one true true basis E F texts e f =
    let same = append_cancel_left basis (spellings e.behind) (spellings f.behind) (sym e.texts_are ∙ f.texts_are) in
    e.set_is ∙ ap (λ (l : List Piece). insert_all none l) (same_items one e.behind f.behind same) ∙ sym f.set_is
one_set one true false basis E F texts e f = empty basis E texts f.0 e ∙ sym f.1
one_set one false true basis E F texts e f = e.1 ∙ sym (empty basis F texts e.0 f)
one_set one false false basis E F texts e f = e.1 ∙ sym f.1

pub files : ItemsHaveOneText → FilesKeepOneSet
files one basis E F file e f = one_set one e.is_begun f.is_begun basis E F (recovered file) e.just f.just
