-- A page stays one where pieces, or a part, are written behind it.
use Rattle.std.proofs.Common.{◌≡◌, ◌++◌, ◌+◌, ◌<◌, ℕ, length, get_or, take, Bool, true, false, List, [], ◌∷◌, Option, Some, None, fold, refl, ap, subst, sym, ◌∙◌}
use Rattle.std.specs.Prelude.{option_and_then}
use Rattle.std.proofs.lemmas.List.{append_assoc, append-nil, take_more}
use Rattle.std.proofs.lemmas.List.Concat.{flat_map-append}
use Rattle.page_text.specs.declared.page.Piece.{Piece}
use Rattle.page_text.specs.declared.places.Place.{Place}
use Rattle.page_text.specs.declared.places.Place.TheVariants.{Outside}
use Rattle.page_text.specs.Pages.{IsPage, all_written, behind, behind_all, head_of, written}
use Rattle.page_text.specs.within.Growing.{IsBeginning, IsGrown}

-- pieces behind pieces stand behind them
pub behind_both : (place : Option Place) (xs ys : List Piece) → behind_all place (xs ++ ys) ≡ behind_all (behind_all place xs) ys
behind_both place [] ys = refl
behind_both place (x ∷ xs) ys = behind_both (option_and_then (λ (p : Place). behind p x) place) xs ys

-- one piece more
pub one_more : (place here now : Option Place) (pieces : List Piece) (i : ℕ) (x : Piece) → here ≡ behind_all place (take i pieces) → i < length pieces
    → now ≡ option_and_then (λ (p : Place). behind p (get_or pieces i x)) here → now ≡ behind_all place (take (i + 1) pieces)
one_more place here now pieces i x before lt e =
    e ∙ ap (λ (h : Option Place). option_and_then (λ (p : Place). behind p (get_or pieces i x)) h) before
    ∙ sym (ap (behind_all place) (take_more pieces i x lt) ∙ behind_both place (take i pieces) (get_or pieces i x ∷ []))

pub begun : (has_head : Bool) (bytes : List ℕ) → IsBeginning has_head bytes → IsGrown has_head Outside bytes
begun has_head bytes h = record { beginning = bytes; begins = h; pieces = []; is = sym (append-nil bytes); places = refl }

grown : (beginning bytes before new more : List ℕ) → new ≡ bytes ++ more → bytes ≡ beginning ++ before → new ≡ beginning ++ (before ++ more)
grown beginning bytes before new more e is = e ∙ ap (λ (t : List ℕ). t ++ more) is ∙ append_assoc beginning before more

pub more : (has_head : Bool) (place next : Place) (bytes new : List ℕ) (behind : List Piece)
    → new ≡ bytes ++ all_written behind → IsGrown has_head place bytes → behind_all (Some place) behind ≡ Some next → IsGrown has_head next new
more has_head place next bytes new behind e p stands = record {
  beginning = p.beginning;
  begins = p.begins;
  pieces = p.pieces ++ behind;
  is = grown p.beginning bytes (all_written p.pieces) new (all_written behind) e p.is ∙ ap (λ (t : List ℕ). p.beginning ++ t) (sym (flat_map-append written p.pieces behind));
  places = behind_both (Some Outside) p.pieces behind ∙ ap (λ here. behind_all here behind) p.places ∙ stands;
}

-- a part behind a page
pub joined : (has_head : Bool) (bytes part new : List ℕ) → new ≡ bytes ++ part → IsGrown has_head Outside bytes → IsGrown false Outside part → IsGrown has_head Outside new
joined has_head bytes part new e p q =
    let is : part ≡ all_written q.pieces = q.is ∙ ap (λ (t : List ℕ). t ++ all_written q.pieces) q.begins in
    more has_head Outside Outside bytes new q.pieces (e ∙ ap (λ (t : List ℕ). bytes ++ t) is) p q.places

pub page : (bytes : List ℕ) → IsGrown true Outside bytes → IsPage bytes
page bytes p = record {
  title = p.begins.0;
  style = p.begins.1;
  pieces = p.pieces;
  is = p.is ∙ ap (λ (t : List ℕ). t ++ all_written p.pieces) p.begins.2;
  places = p.places;
}

-- ---- where it is known in which place the next piece stands

abbrev at : Place → Option Place
at place = Some place

same : (p q : Place) → at p ≡ at q → p ≡ q
same p q e = cc

nowhere : (pieces : List Piece) (next : Place) → behind_all None pieces ≡ at next → ⊥
nowhere [] next e = absurd cc
nowhere (x ∷ xs) next e = nowhere xs next e

pub begun_at : (has_head : Bool) (bytes : List ℕ) (place : Place) → at Outside ≡ at place → IsBeginning has_head bytes → IsGrown has_head place bytes
begun_at has_head bytes place e h = subst (λ (q : Place). IsGrown has_head q bytes) (same Outside place e) (begun has_head bytes h)

pub more_at : (has_head : Bool) (here : Option Place) (bytes new : List ℕ) (pieces : List Piece) (next : Place)
    → ((p : Place) → here ≡ at p → IsGrown has_head p bytes) → new ≡ bytes ++ all_written pieces → behind_all here pieces ≡ at next → IsGrown has_head next new
more_at has_head (Some p) bytes new pieces next kept e stands = more has_head p next bytes new pieces e (kept p refl) stands
more_at has_head None bytes new pieces next kept e stands = absurd (nowhere pieces next stands)

pub joined_at : (has_head part_head : Bool) (here there : Option Place) (bytes part new : List ℕ) (next : Place)
    → ((p : Place) → here ≡ at p → IsGrown has_head p bytes) → ((p : Place) → there ≡ at p → IsGrown part_head p part) → new ≡ bytes ++ part
    → (next ≡ Outside) × (here ≡ at Outside) × (there ≡ at Outside) × (part_head ≡ false) → IsGrown has_head next new
joined_at has_head part_head here there bytes part new next kept kept_part e told =
    let q : IsGrown false Outside part = subst (λ (h : Bool). IsGrown h Outside part) told.3 (kept_part Outside told.2) in
    subst (λ (n : Place). IsGrown has_head n new) (sym told.0) (joined has_head bytes part new e (kept Outside told.1) q)

pub page_at : (has_head : Bool) (here : Option Place) (bytes : List ℕ) → ((p : Place) → here ≡ at p → IsGrown has_head p bytes) → (has_head ≡ true) × (here ≡ at Outside) → IsPage bytes
page_at has_head here bytes kept told = page bytes (subst (λ (h : Bool). IsGrown h Outside bytes) told.0 (kept Outside told.1))
