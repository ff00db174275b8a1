-- The answers to the items of a journal, one after the other.
use Rattle.std.proofs.Common.{◌≡◌, ◌⊎◌, inl, inr, ⊎_elim, ℕ, suc, ◌+◌, List, [], ◌∷◌, ◌++◌, append_assoc, Result, Ok, Err, Option, Some, None, length, length-append, refl, sym, ◌∙◌, ap, subst, arith}
use Rattle.std.specs.Prelude.{slice_get}
use Rattle.std.specs.List.{All}
use Rattle.std.proofs.lemmas.List.{append-nil, map-append}
use Rattle.std.proofs.lemmas.List.Elements.{All-push, All-same}
use Rattle.authenticators.specs.Directory.{Listing}
use Rattle.log_chain.specs.History.{unless}
use Rattle.replay_verifier.specs.Meaning.{Meaning}
use Rattle.item_forms.specs.Pieces.{Piece}
use Rattle.evidence_item.specs.Checking.{Checked, IsChecked}
use Rattle.evidence_item.specs.Validity.{ValidItemsHaveNoFault, fault_of}
use Rattle.evidence_item.specs.declared.fault.ItemFault.{ItemFault}
use Rattle.evidence_item.specs.declared.fault.ItemFault.TheVariants as item
use Rattle.evidence_set.specs.ItemSets.{pieces}
use Rattle.parallel_checking.specs.Checks.{AreAnswers, IsAnswer}
use Rattle.durable_store.specs.declared.fault.OpenFault.{OpenFault}
use Rattle.durable_store.specs.declared.fault.OpenFault.TheVariants as fault
use Rattle.durable_store.specs.within.Answered.{Checking, CheckingAll}
use Rattle.durable_store.specs.within.Findings.{IsBad, IsInvalid, refusal_of}

-- an item that was given back is the one that was asked for
given : (o : Option ItemFault) (x y : Piece) → unless o x ≡ Ok y → y ≡ x
given None x y e = cc e
given (Some f) x y e = absurd (cc e)

-- one that was refused has the fault
faulty : (o : Option ItemFault) (x : Piece) (f : ItemFault) → unless o x ≡ Err f → o ≡ Some f
faulty None x f e = absurd (cc e)
faulty (Some g) x f e = ap Some (same g f x e)
  where
    same : (g f : ItemFault) (x : Piece) → ◌≡◌ {A = Result Piece ItemFault} (Err g) (Err f) → g ≡ f
    same g f x e = cc e

-- a refusal is of memory, or of the place
kinds : (place : ℕ) (f : ItemFault) → (refusal_of place f ≡ fault.Memory) ⊎ (refusal_of place f ≡ fault.BadItem place)
kinds place item.UnknownNode = inr refl
kinds place item.SelfMessage = inr refl
kinds place item.EmptySegment = inr refl
kinds place item.BadStart = inr refl
kinds place item.BadRange = inr refl
kinds place item.BadSignature = inr refl
kinds place item.Memory = inl refl

stands_at : (xs ys : List Piece) (x : Piece) → slice_get (xs ++ x ∷ ys) (length xs) ≡ Some x
stands_at [] ys x = refl
stands_at (z ∷ xs) ys x = stands_at xs ys x

length_pieces : (valid : List Checked) → length (pieces valid) ≡ length valid
length_pieces [] = refl
length_pieces (c ∷ valid) = omega (arith, length_pieces valid)

module _ {S : Type 0} (program : Meaning S) where
  -- the answer at the front is that of the item at the front, and the others are those of the others
  first_answer : (ds : Listing) (x : Piece) (items : List Piece) (a : Result Checked ItemFault) (answers : List (Result Checked ItemFault)) → AreAnswers ds program (x ∷ items) (a ∷ answers) → IsAnswer ds program x a
  first_answer ds x items a answers are = are.each 0 a (omega arith) x

  other_answers : (ds : Listing) (x : Piece) (items : List Piece) (a : Result Checked ItemFault) (answers : List (Result Checked ItemFault)) → AreAnswers ds program (x ∷ items) (a ∷ answers) → AreAnswers ds program items answers
  other_answers ds x items a answers are = record { count = omega (arith, are.count); each = λ n d below. are.each (suc n) d (omega (arith, below)) }

  -- an item that was given back is put behind the others
  one_more : (ds : Listing) (items : List Piece) (old new : List Checked) (c : Checked) (answers rest : List (Result Checked ItemFault)) → answers ≡ Ok c ∷ rest → new ≡ old ++ c ∷ [] → Checking ds program items old answers → Checking ds program items new rest
  one_more ds items old new c answers rest next pushed so_far = go so_far.left so_far.items_are (subst (AreAnswers ds program so_far.left) next so_far.answered)
    where
      go : (left : List Piece) → pieces old ++ left ≡ items → AreAnswers ds program left (Ok c ∷ rest) → Checking ds program items new rest
      go [] is are = absurd (omega (arith, are.count))
      go (x ∷ left) is are =
          let answer = first_answer ds x left (Ok c) rest are in
          let same : c.item ≡ x = given (fault_of ds x.fields) x c.item answer.exact in
          record {
            left = left;
            items_are = rw (pushed, map-append, append_assoc, same) is;
            checked = All-same (IsChecked ds program) _ _ pushed (All-push (IsChecked ds program) _ _ so_far.checked answer.checked);
            answered = other_answers ds x left (Ok c) rest are;
          }

  pub goes_on : (all : List (Result Checked ItemFault)) (before : ℕ) (old new : List Checked) (c : Checked) (answers rest : List (Result Checked ItemFault)) → answers ≡ Ok c ∷ rest → new ≡ old ++ c ∷ []
      → CheckingAll program all before old answers → CheckingAll program all before new rest
  goes_on all before old new c answers rest next pushed so_far = record {
    each = λ ds items are. one_more ds items old new c answers rest next pushed (so_far.each ds items are);
    fits = omega (arith, so_far.fits, ap length next, ap length pushed, length-append old (c ∷ []));
  }

  -- where no answer is left, each item was checked
  pub ends : (ds : Listing) (items : List Piece) (valid : List Checked) (answers : List (Result Checked ItemFault)) → length answers ≡ 0 → Checking ds program items valid answers
      → (pieces valid ≡ items) × All (IsChecked ds program) valid
  ends ds items valid answers none c = (nothing c.left c.items_are (omega (arith, c.answered.count, none)), c.checked)
    where
      nothing : (left : List Piece) → pieces valid ++ left ≡ items → length left ≡ 0 → pieces valid ≡ items
      nothing [] is zero = sym (append-nil (pieces valid)) ∙ is
      nothing (x ∷ left) is zero = absurd (omega (arith, zero))

  -- the item of an answer that refuses it is not valid
  invalid : ValidItemsHaveNoFault → (ds : Listing) (items : List Piece) (before : ℕ) (valid : List Checked) (x : Piece) (left : List Piece) (f : ItemFault) (e : OpenFault)
      → pieces valid ++ x ∷ left ≡ items → unless (fault_of ds x.fields) x ≡ Err f → e ≡ fault.BadItem (before + length valid) → IsInvalid ds items before e
  invalid law ds items before valid x left f e are refused is = record {
    place = length valid;
    item = x;
    stands = subst (λ (l : List Piece). slice_get l (length valid) ≡ Some x) are
        (subst (λ (n : ℕ). slice_get (pieces valid ++ x ∷ left) n ≡ Some x) (length_pieces valid) (stands_at (pieces valid) left x));
    is = is;
    invalid = λ is_valid. cc (faulty (fault_of ds x.fields) x f refused, (law ds x.fields).0 is_valid);
  }

  pub bad : ValidItemsHaveNoFault → (ds : Listing) (items : List Piece) (before : ℕ) (valid : List Checked) (f : ItemFault) (answers rest : List (Result Checked ItemFault)) → answers ≡ Err f ∷ rest
      → Checking ds program items valid answers → IsBad ds items before (refusal_of (before + length valid) f)
  bad law ds items before valid f answers rest next c = go c.left c.items_are (subst (AreAnswers ds program c.left) next c.answered)
    where
      go : (left : List Piece) → pieces valid ++ left ≡ items → AreAnswers ds program left (Err f ∷ rest) → IsBad ds items before (refusal_of (before + length valid) f)
      go [] is are = absurd (omega (arith, are.count))
      go (x ∷ left) is are =
          ⊎_elim (λ memory. inl (ap (refusal_of (before + length valid)) memory))
          (λ refused. ⊎_elim (λ memory. inl memory) (λ of_place. inr (invalid law ds items before valid x left f (refusal_of (before + length valid) f) is refused of_place)) (kinds (before + length valid) f))
          (first_answer ds x left (Err f) rest are).exact
