-- Items of which what checking finds is found one after the other.
use Rattle.std.proofs.Common.{◌≡◌, ◌+◌, ◌<◌, ◌≤◌, ℕ, zero, suc, List, [], ◌∷◌, ◌++◌, length, get_or, set, take, sym, ap, subst, ◌∙◌, arith}
use Rattle.std.specs.List.{All}
use Rattle.std.proofs.lemmas.List.{take_more_set, take_all}
use Rattle.std.proofs.lemmas.List.Elements.{All-push, All-same, All-set}
use Rattle.std.proofs.Math.Seq.{take-append_seam}
use Rattle.authenticators.specs.Directory.{Listing}
use Rattle.replay_verifier.specs.Meaning.{Meaning}
use Rattle.item_forms.specs.Pieces.{Piece}
use Rattle.evidence_item.specs.Checking.{Checked, IsChecked}
use Rattle.evidence_set.specs.ItemSets.{pieces}
use Rattle.kept_evidence.specs.Kept.{IsWhole}

-- an item in the place of an equal one
same_pieces : (xs : List Checked) (i : ℕ) (c d : Checked) → i < length xs → c.item ≡ (get_or xs i d).item → pieces (set xs i c) ≡ pieces xs
same_pieces [] i c d inside is = absurd (omega (arith, inside))
same_pieces (x ∷ xs) zero c d inside is = ap (λ (p : Piece). p ∷ pieces xs) is
same_pieces (x ∷ xs) (suc i) c d inside is = ap (λ (l : List Piece). x.item ∷ l) (same_pieces xs i c d (omega (arith, inside)) is)

module _ {S : Type 0} (ds : Listing) (program : Meaning S) where
  -- One more is found.
  pub one_more : (xs : List Checked) (ps : List Piece) (i : ℕ) (c d : Checked) → i < length xs → c.item ≡ (get_or xs i d).item → IsChecked ds program c → IsWhole ds program c
      → (pieces xs ≡ ps) × All (IsChecked ds program) xs × All (IsWhole ds program) (take i xs)
      → (pieces (set xs i c) ≡ ps) × All (IsChecked ds program) (set xs i c) × All (IsWhole ds program) (take (i + 1) (set xs i c))
  one_more xs ps i c d inside is checked whole before = (
    same_pieces xs i c d inside is ∙ before.0,
    All-set (IsChecked ds program) xs i c checked before.1,
    All-same (IsWhole ds program) _ _ (take_more_set xs i c inside) (All-push (IsWhole ds program) (take i xs) c before.2 whole),
  )

  -- All are found.
  pub all_of : (xs ys : List Checked) (n i : ℕ) → length xs ≡ n → n ≤ i → All (IsWhole ds program) (take i xs) → All (IsWhole ds program) (take n (xs ++ ys))
  all_of xs ys n i len done whole =
      let seam : take n (xs ++ ys) ≡ xs = subst (λ m. take m (xs ++ ys) ≡ xs) len (take-append_seam xs ys) in
      All-same (IsWhole ds program) _ _ seam (All-same (IsWhole ds program) _ _ (sym (take_all i xs (omega (arith, len, done)))) whole)
