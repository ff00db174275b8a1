-- Checked items that are kept one after the other.
use Rattle.std.proofs.Common.{◌≡◌, Bool, cond, not, true, false, List, [], ◌∷◌, ◌++◌, All, length, refl, sym, ap, subst, append_assoc, append-nil, ◌∙◌, inl, ⊎_elim, arith}
use Rattle.std.specs.List.{Contains, filter}
use Rattle.std.proofs.lemmas.List.{map_push}
use Rattle.std.proofs.lemmas.List.Elements.{Contains-push_cases}
use Rattle.authenticators.specs.Directory.{Listing}
use Rattle.authenticators.proofs.AscendingLists.{cons_has}
use Rattle.replay_verifier.specs.Meaning.{Meaning}
use Rattle.item_forms.specs.Pieces.{Piece}
use Rattle.evidence_item.specs.Checking.{Checked, IsChecked}
use Rattle.evidence_set.specs.ItemSets.{pieces}
use Rattle.kept_evidence.specs.Kept.{IsWhole, is_kept}

module _ {S : Type 0} (ds : Listing) (program : Meaning S) (items : List Checked) where
  -- Those that are not kept yet.
  abbrev pub missing : List Checked → List Checked
  missing xs = filter (λ (c : Checked). not (is_kept items c.item)) xs

  missing_new : (x : Checked) (after : List Checked) → is_kept items x.item ≡ false → missing (x ∷ after) ≡ x ∷ missing after
  missing_new x after e = ap (λ (b : Bool). cond (not b) (x ∷ missing after) (missing after)) e

  missing_held : (x : Checked) (after : List Checked) → is_kept items x.item ≡ true → missing (x ∷ after) ≡ missing after
  missing_held x after e = ap (λ (b : Bool). cond (not b) (x ∷ missing after) (missing after)) e

  -- Some of the items were kept, and these are left.
  pub record Gathers (all kept rest : List Checked) : Type 0 where
    pub pieces : pieces (missing all) ≡ pieces kept ++ pieces (missing rest)
    pub whole : (c : Checked) → Contains kept c → IsWhole ds program c
    pub checked : (c : Checked) → Contains rest c → IsChecked ds program c

  pub begins : (all kept rest : List Checked) → kept ≡ [] → rest ≡ all → All (IsChecked ds program) all → Gathers all kept rest
  begins all kept rest none same each = record {
    pieces = ap (λ (l : List Checked). pieces (missing l)) (sym same) ∙ ap (λ (l : List Checked). pieces l ++ pieces (missing rest)) (sym none);
    whole = λ c has. absurd (nothing c (subst (λ (l : List Checked). Contains l c) none has));
    checked = λ c has. let (i, inside, is) = subst (λ (l : List Checked). Contains l c) same has in subst (IsChecked ds program) is (each i c inside);
  }
    where
      nothing : (c : Checked) → Contains [] c → ⊥
      nothing c (i, inside, is) = omega (arith, inside)

  pub next_checked : (all kept rest after : List Checked) (x : Checked) → rest ≡ x ∷ after → Gathers all kept rest → IsChecked ds program x
  next_checked all kept rest after x is so_far = so_far.checked x (subst (λ (l : List Checked). Contains l x) (sym is) (0, omega arith, refl))

  pub goes_on : (all kept more rest after : List Checked) (x y : Checked) → rest ≡ x ∷ after → is_kept items x.item ≡ false → more ≡ kept ++ y ∷ [] → y.item ≡ x.item → IsWhole ds program y → Gathers all kept rest → Gathers all more after
  goes_on all kept more rest after x y is new grown same whole so_far = record {
    pieces = so_far.pieces ∙ ap (λ (l : List Checked). pieces kept ++ pieces (missing l)) is ∙ ap (λ (l : List Checked). pieces kept ++ pieces l) (missing_new x after new) ∙ moved;
    whole = λ c has. ⊎_elim (λ old. so_far.whole c old) (λ one. subst (IsWhole ds program) one whole) (Contains-push_cases kept y c (subst (λ (l : List Checked). Contains l c) grown has));
    checked = λ c has. so_far.checked c (subst (λ (l : List Checked). Contains l c) (sym is) (cons_has x after c (inl has)));
  }
    where
      moved : pieces kept ++ x.item ∷ pieces (missing after) ≡ pieces more ++ pieces (missing after)
      moved =
          sym (append_assoc (pieces kept) (x.item ∷ []) (pieces (missing after)))
          ∙ ap (λ (p : Piece). (pieces kept ++ p ∷ []) ++ pieces (missing after)) (sym same)
          ∙ ap (λ (l : List Piece). l ++ pieces (missing after)) (sym (map_push (λ (c : Checked). c.item) kept y))
          ∙ ap (λ (l : List Checked). pieces l ++ pieces (missing after)) (sym grown)

  -- An item that is kept already is passed over.
  pub passes_over : (all kept rest after : List Checked) (x : Checked) → rest ≡ x ∷ after → is_kept items x.item ≡ true → Gathers all kept rest → Gathers all kept after
  passes_over all kept rest after x is held so_far = record {
    pieces = so_far.pieces ∙ ap (λ (l : List Checked). pieces kept ++ pieces (missing l)) is ∙ ap (λ (l : List Checked). pieces kept ++ pieces l) (missing_held x after held);
    whole = so_far.whole;
    checked = λ c has. so_far.checked c (subst (λ (l : List Checked). Contains l c) (sym is) (cons_has x after c (inl has)));
  }

  pub ends : (all kept rest : List Checked) → length rest ≡ 0 → Gathers all kept rest → pieces kept ≡ pieces (missing all)
  ends all kept [] none so_far = sym (so_far.pieces ∙ append-nil (pieces kept))
  ends all kept (x ∷ rest) none so_far = absurd (omega (arith, none))
