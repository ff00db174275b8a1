-- What every store keeps.
use Rattle.std.proofs.Common.{◌≡◌, List, [], sym, ap, subst}
use Rattle.std.specs.List.Sorted.{IsStrictlySortedBy}
use Rattle.authenticators.specs.declared.authenticator.Authenticator.{Authenticator}
use Rattle.authenticators.specs.Directory.{Listing}
use Rattle.replay_verifier.specs.Meaning.{Meaning}
use Rattle.item_forms.specs.Pieces.{Piece}
use Rattle.evidence_item.specs.Checking.{Checked}
use Rattle.evidence_item.specs.Validity.{IsValid}
use Rattle.evidence_set.specs.Valid.{AreValid}
use Rattle.evidence_set.specs.ItemSets.{Items, Join, set_of}
use Rattle.evidence.specs.Contents.{Contents, with_items}
use Rattle.kept_evidence.specs.Kept.{AreKept, IsStore}
use Rattle.kept_evidence.proofs.Bridge.{set_has}
use Rattle.kept_evidence.proofs.Members.{none_here}

module _ {S : Type 0} (ds : Listing) (program : Meaning S) where
  -- A store keeps valid items.
  pub all_valid : (kept : List Checked) → AreKept ds program kept → AreValid ds (set_of kept)
  all_valid kept items x has =
      let (c, in_kept, is) = (set_has kept x).0 has in
      subst (λ (y : Piece). IsValid ds y.fields) is (items.whole c in_kept).checked.valid

  -- Nothing is a store.
  nothing : IsStore ds program [] []
  unfolding IsStrictlySortedBy
  nothing = record {
    items = record { ascending = tt; whole = λ c has. absurd (none_here c has) };
    statements = λ a. (λ has. absurd (none_here a has), λ s. absurd (none_here s.0 s.1));
  }

  pub of_nothing : (kept : List Checked) (held : List Authenticator) → kept ≡ [] → held ≡ [] → IsStore ds program kept held
  of_nothing kept held no_items no_statements =
      subst (λ (l : List Checked). IsStore ds program l held) (sym no_items) (subst (λ (l : List Authenticator). IsStore ds program [] l) (sym no_statements) nothing)

-- A store whose items were joined with others.
pub joined_is : (s : Contents) (ds : Listing) (E F added : Items) → record { directory = ds; items = E } ≡ s → F ≡ Join E added → record { directory = ds; items = F } ≡ with_items s (Join s.items added)
joined_is s ds E F added is joined =
    subst (λ (t : Contents). record { directory = ds; items = F } ≡ with_items t (Join t.items added)) is (ap (λ (G : Items). record { directory = ds; items = G }) joined)
