-- Checked items that ascend can be kept.
use Rattle.std.proofs.Common.{◌≡◌, List, [], ◌∷◌, sym, subst}
use Rattle.std.specs.declared.cmp.Ordering.TheVariants.{Less}
use Rattle.std.specs.List.{All, AllByRecursion}
use Rattle.std.specs.List.Sorted.{IsStrictlySortedBy}
use Rattle.std.proofs.lemmas.List.Elements.{All-contains}
use Rattle.authenticators.specs.Directory.{Listing}
use Rattle.replay_verifier.specs.Meaning.{Meaning}
use Rattle.item_forms.specs.Pieces.{Piece, by_bytes}
use Rattle.evidence_item.specs.Checking.{Checked}
use Rattle.evidence_set.specs.ItemSets.{pieces}
use Rattle.kept_evidence.specs.Kept.{AreKept, IsAscending, IsWhole, by_item}

-- the list ascends as its items do
ascends : (kept : List Checked) → IsStrictlySortedBy by_bytes (pieces kept) → IsAscending kept
unfolding IsStrictlySortedBy
ascends [] up = tt
ascends (c ∷ kept) up = (below c kept up.0, ascends kept up.1)
  where
    below : (c : Checked) (kept : List Checked) → AllByRecursion (λ x. by_bytes c.item x ≡ Less) (pieces kept) → AllByRecursion (λ d. by_item c d ≡ Less) kept
    below c [] h = tt
    below c (d ∷ kept) h = (h.0, below c kept h.1)

pub can_be_kept : {S : Type 0} (ds : Listing) (program : Meaning S) (old found : List Checked) → pieces found ≡ pieces old → IsStrictlySortedBy by_bytes (pieces old) → All (IsWhole ds program) found → AreKept ds program found
can_be_kept ds program old found same up whole = record {
  ascending = ascends found (subst (λ (t : List Piece). IsStrictlySortedBy by_bytes t) (sym same) up);
  whole = λ c has. All-contains (IsWhole ds program) found c whole has;
}
