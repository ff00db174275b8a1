-- What an ascending list says of its set, item by item.
use Rattle.std.proofs.Common.{◌≡◌, ℕ, Bool, true, false, List, [], ◌∷◌, Some, None, ◌<◌, ◌≤◌, length, get_or, map, option_map, slice_get, refl, sym, ap, subst, ◌∙◌, inl, inr}
use Rattle.std.specs.Prelude.{◌↔◌, ◌&&◌, IsTrue}
use Rattle.std.specs.List.{Contains, list_all}
use Rattle.std.proofs.lemmas.Option.{slice_get-get_or, slice_get-map, slice_get_past}
use Rattle.item_forms.specs.Pieces.{Piece}
use Rattle.item_forms.specs.Spelling.{spelling}
use Rattle.evidence_item.specs.Checking.{Checked}
use Rattle.evidence_set.specs.ItemSets.{IsWithin, contains, listed, pieces, set_of}
use Rattle.kept_evidence.specs.Kept.{IsAscending, Keeps, is_kept}
use Rattle.kept_evidence.proofs.Added.{listed_is}
use Rattle.kept_evidence.proofs.Bridge.{set_has}
use Rattle.kept_evidence.proofs.Members.{first, here_or_later, later, none_here}
use Rattle.kept_evidence.proofs.Places.{kept_decides}

-- ---- places

item_is : (kept : List Checked) (n : ℕ) → IsAscending kept → slice_get (listed (set_of kept)) n ≡ option_map (λ (c : Checked). c.item) (slice_get kept n)
item_is kept n up = ap (λ (xs : List Piece). slice_get xs n) (listed_is kept up) ∙ slice_get-map (λ (c : Checked). c.item) kept n

-- none behind the end
pub past : (kept : List Checked) (n : ℕ) → IsAscending kept → length kept ≤ n → (None ≡ slice_get (listed (set_of kept)) n) × (None ≡ slice_get kept n)
past kept n up behind =
    let none = slice_get_past kept n behind in
    (sym (item_is kept n up ∙ ap (option_map (λ (c : Checked). c.item)) none), sym none)

-- and before it the one that stands there
pub at : (kept : List Checked) (n : ℕ) (c d : Checked) → IsAscending kept → n < length kept → c ≡ get_or kept n d → (Some c.item ≡ slice_get (listed (set_of kept)) n) × (Some c ≡ slice_get kept n)
at kept n c d up inside is =
    let some : slice_get kept n ≡ Some c = slice_get-get_or kept n d inside ∙ ap Some (sym is) in
    (sym (item_is kept n up ∙ ap (option_map (λ (c : Checked). c.item)) some), sym some)

-- ---- the texts

texts : (kept : List Checked) → map (λ (x : Piece). spelling x.fields) (pieces kept) ≡ map (λ (c : Checked). spelling c.item.fields) kept
texts [] = refl
texts (c ∷ kept) = ap (λ (l : List (List ℕ)). spelling c.item.fields ∷ l) (texts kept)

pub texts_are : (kept : List Checked) → IsAscending kept → map (λ (x : Piece). spelling x.fields) (listed (set_of kept)) ≡ map (λ (c : Checked). spelling c.item.fields) kept
texts_are kept up = ap (λ (xs : List Piece). map (λ (x : Piece). spelling x.fields) xs) (listed_is kept up) ∙ texts kept

-- ---- one item

same : (a b : Bool) → (a ≡ true → b ≡ true) → (b ≡ true → a ≡ true) → a ≡ b
same true true there back = refl
same true false there back = sym (there refl)
same false true there back = back refl
same false false there back = refl

pub kept_is_held : (kept : List Checked) (x : Piece) → is_kept kept x ≡ contains (set_of kept) x
kept_is_held kept x =
    same (is_kept kept x) (contains (set_of kept) x) (λ h. (set_has kept x).1 ((kept_decides kept x).0 h)) (λ h. (kept_decides kept x).1 ((set_has kept x).0 h))

-- ---- one set within another

both : (a b : Bool) → (a && b) ≡ true → (a ≡ true) × (b ≡ true)
both true b h = (refl, h)
both false b h = absurd cc

abbrev each_kept : List Checked → List Checked → Bool
each_kept kept others = list_all (λ (c : Checked). is_kept kept c.item) others

all_kept : (kept others : List Checked) → each_kept kept others ≡ true → (c : Checked) → Contains others c → is_kept kept c.item ≡ true
all_kept kept [] h c has = absurd (none_here c has)
all_kept kept (d ∷ others) h c has =
    let t = both (is_kept kept d.item) (each_kept kept others) h in
    elim (here_or_later d others c has) [
      | inl is ↦ subst (λ (e : Checked). is_kept kept e.item ≡ true) is t.0
      | inr more ↦ all_kept kept others t.1 c more
    ]

kept_all : (kept others : List Checked) → ((c : Checked) → Contains others c → is_kept kept c.item ≡ true) → each_kept kept others ≡ true
kept_all kept [] h = refl
kept_all kept (d ∷ others) h = rw (h d (first d others)) (kept_all kept others (λ c has. h c (later d others c has)))

pub within : (kept others : List Checked) → IsTrue (each_kept kept others) ↔ IsWithin (set_of others) (set_of kept)
within kept others = (
  λ h x has.
      let (c, in_others, is) = (set_has others x).0 has in
      (set_has kept x).1 (subst (Keeps kept) is ((kept_decides kept c.item).0 (all_kept kept others h c in_others))),
  λ h. kept_all kept others (λ c has. (kept_decides kept c.item).1 ((set_has kept c.item).0 (h c.item ((set_has others c.item).1 (c, has, refl))))),
)
