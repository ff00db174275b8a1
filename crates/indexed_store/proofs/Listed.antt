-- What the order says of the set of the items.
use Rattle.std.proofs.Common.{◌≡◌, ℕ, Bool, true, false, ◌&&◌, Result, Ok, Err, OnOk, List, [], ◌∷◌, ◌++◌, Option, Some, None, length, map, option_map, refl, sym, ap, subst, ◌∙◌}
use Rattle.std.proofs.lemmas.Option.{same_Some, slice_get-map}
use Rattle.std.specs.Prelude.{slice_get}
use Rattle.std.specs.List.{Contains, flat_map}
use Rattle.item_forms.specs.Spelling.{spelling}
use Rattle.containers.specs.Container.{container_text}
use Rattle.evidence.specs.Exports.{export_of, magic}
use Rattle.evidence_set.specs.Valid.{AreValid}
use Rattle.kept_evidence.proofs.Listed.{texts_are}
use Rattle.item_forms.specs.Pieces.{Piece}
use Rattle.evidence_item.specs.Checking.{Checked}
use Rattle.item_forms.specs.declared.forms.Fields.{Fields}
use Rattle.item_forms.specs.declared.forms.Fields.TheVariants as form
use Rattle.evidence_set.specs.Challenges.{is_against}
use Rattle.evidence_set.specs.ItemSets.{Items, count, listed, pieces, set_of}
use Rattle.authenticators.specs.Directory.{Listing}
use Rattle.replay_verifier.specs.Meaning.{Meaning}
use Rattle.evidence_item.specs.Validity.{IsValid}
use Rattle.kept_evidence.specs.Kept.{IsWhole}
use Rattle.kept_items.specs.Keeping.{is_challenge}
use Rattle.kept_evidence.proofs.Added.{counted, listed_is}
use Rattle.kept_evidence.proofs.Bridge.{set_has}
use Rattle.node_tables.specs.Places.{ArePlacesOf, IsAgainstAt, IsOpenAt, IsOrder, named_item}
use Rattle.node_tables.proofs.Joined.{kept_items}
use Rattle.node_tables.proofs.Meant.{one_set}
use Rattle.node_tables.proofs.RowLists.{same_length}

pub counts : (items : List Checked) (order : List ℕ) (is : IsOrder items order) → length order ≡ count (set_of items)
counts items order is =
    same_length (slice_get items) order is.kept is.places ∙ sym (counted is.kept is.ascending) ∙ ap count (one_set is.kept items (kept_items items order is) is.covers)

-- ---- the item at a place of the order

none_of : {X : Type 0} (o : Option X) → option_map Some o ≡ None → o ≡ None
none_of None h = refl
none_of (Some x) h = absurd cc

some_of : {X : Type 0} (o p : Option X) → option_map Some o ≡ Some p → o ≡ p
some_of None p h = absurd cc
some_of (Some x) p h = same_Some (Some x) p h

named : (items : List Checked) (order : List ℕ) (is : IsOrder items order) (n : ℕ) → option_map Some (slice_get is.kept n) ≡ option_map (slice_get items) (slice_get order n)
named items order is n = sym (slice_get-map Some is.kept n) ∙ sym (ap (λ (l : List (Option Checked)). slice_get l n) is.places) ∙ slice_get-map (slice_get items) order n

-- none behind the end
pub behind : (items : List Checked) (order : List ℕ) (is : IsOrder items order) (n : ℕ) → slice_get order n ≡ None → None ≡ slice_get is.kept n
behind items order is n at = sym (none_of (slice_get is.kept n) (named items order is n ∙ ap (option_map (slice_get items)) at))

-- and before it the one that the place names
pub at_place : (items : List Checked) (order : List ℕ) (is : IsOrder items order) (n i : ℕ) (o : Option Checked) → slice_get order n ≡ Some i → slice_get items i ≡ o → o ≡ slice_get is.kept n
at_place items order is n i o at there = sym (some_of (slice_get is.kept n) o (named items order is n ∙ ap (option_map (slice_get items)) at ∙ ap Some there))

pub item_is : (items : List Checked) (order : List ℕ) (is : IsOrder items order) (n : ℕ) (found : Option Checked) → found ≡ slice_get is.kept n → option_map (λ (c : Checked). c.item) found ≡ slice_get (listed (set_of items)) n
item_is items order is n found at =
    ap (option_map (λ (c : Checked). c.item)) at
    ∙ sym (slice_get-map (λ (c : Checked). c.item) is.kept n)
    ∙ sym (ap (λ (xs : List Piece). slice_get xs n) (listed_is is.kept is.ascending))
    ∙ ap (λ (s : Items). slice_get (listed s) n) (one_set is.kept items (kept_items items order is) is.covers)

-- ---- the text

-- what the places name, one after the other
pub lent_at : (items : List Checked) (order : List ℕ) → flat_map (λ (i : ℕ). named_item (slice_get items i)) order ≡ flat_map named_item (map (slice_get items) order)
lent_at items [] = refl
lent_at items (i ∷ order) = ap (λ (xs : List Piece). named_item (slice_get items i) ++ xs) (lent_at items order)

pub lent_kept : (kept : List Checked) → flat_map named_item (map Some kept) ≡ map (λ (c : Checked). c.item) kept
lent_kept [] = refl
lent_kept (c ∷ kept) = ap (λ (xs : List Piece). c.item ∷ xs) (lent_kept kept)

spelled : {X : Type 0} (f : X → Piece) (xs : List X) → map (λ (x : X). spelling (f x).fields) xs ≡ map (λ (x : Piece). spelling x.fields) (map f xs)
spelled f [] = refl
spelled f (x ∷ xs) = ap (λ (l : List (List ℕ)). spelling (f x).fields ∷ l) (spelled f xs)

pub text_of : {X : Type 0} (f : X → Piece) (lent : List X) (items : List Checked) (order : List ℕ) → IsOrder items order → map f lent ≡ flat_map (λ (i : ℕ). named_item (slice_get items i)) order → container_text magic (map (λ (x : X). spelling (f x).fields) lent) ≡ export_of (set_of items)
text_of f lent items order is lends =
    ap (container_text magic)
    (spelled f lent
    ∙ ap (map (λ (x : Piece). spelling x.fields)) (lends ∙ lent_at items order ∙ ap (flat_map named_item) is.places ∙ lent_kept is.kept)
    ∙ sym (spelled (λ (c : Checked). c.item) is.kept))
    ∙ sym (ap (container_text magic) (texts_are is.kept is.ascending))
    ∙ ap export_of (one_set is.kept items (kept_items items order is) is.covers)

-- ---- lending

-- what is told of the place that stands there is told of each that does
pub at_this : {A E : Type 0} (r : Result A E) (i : ℕ) (order : List ℕ) (n : ℕ) (f : ℕ → Type 0) → slice_get order n ≡ Some i → OnOk r (f i) → OnOk r ((j : ℕ) → slice_get order n ≡ Some j → f j)
at_this (Ok a) i order n f at told = λ j there. subst f (same_Some i j (sym at ∙ there)) told
at_this (Err e) i order n f at told = told

-- ---- challenges

-- what is against a node is a challenge
pub is_asked : (j : ℕ) (x : Fields) → is_against j x ≡ true → is_challenge x ≡ false → ⊥
is_asked j (form.Auth a) h s = cc h
is_asked j (form.Segment t) h s = cc h
is_asked j (form.Audit c) h s = cc s
is_asked j (form.Send m) h s = cc s
is_asked j (form.Ack a) h s = cc h

-- what no item answers is a challenge
pub open_against : (items : List Checked) (j i : ℕ) → IsOpenAt items j i → IsAgainstAt items j i
open_against items j i (c, at, h) = (c, at, both (is_against j c.item.fields) _ h)
  where
    both : (a b : Bool) → (a && b) ≡ true → a ≡ true
    both true b h = refl
    both false b h = absurd cc

-- the items at places are those that the places name
pub lent_named : (items : List Checked) (places : List ℕ) (named : List Checked) → ArePlacesOf items places named → flat_map (λ (i : ℕ). named_item (slice_get items i)) places ≡ pieces named
lent_named items places named is = lent_at items places ∙ ap (flat_map named_item) is ∙ lent_kept named

-- ---- valid items

pub all_valid : {S : Type 0} (ds : Listing) (program : Meaning S) (items : List Checked) → ((c : Checked) → Contains items c → IsWhole ds program c) → AreValid ds (set_of items)
all_valid ds program items whole x has =
    let (c, in_items, is) = (set_has items x).0 has in
    subst (λ (y : Piece). IsValid ds y.fields) is (whole c in_items).checked.valid
