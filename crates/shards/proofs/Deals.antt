-- Items beside the parts that they go to.
use Rattle.std.proofs.Common.{◌≡◌, ◌∙◌, ℕ, Bool, true, false, cond, ◌||◌, List, [], ◌∷◌, map, refl, sym, ap, subst}
use Rattle.std.specs.Prelude.{◌==◌}
use Rattle.std.specs.List.{filter, list_any}
use Rattle.std.specs.List.Sorted.{IsStrictlySortedBy}
use Rattle.item_forms.specs.Pieces.{Piece, by_bytes}
use Rattle.evidence_item.specs.Validity.{nodes_of}
use Rattle.localities.specs.Concerning.{named_in}
use Rattle.localities.specs.Shards.{in_turn}
use Rattle.shards.specs.declared.dealing.Dealing.{Dealing}
use Rattle.shards.specs.declared.dealing.Dealing.TheVariants.{ByNode, Extracts}
use Rattle.shards.specs.Parts.{Parted, is_dealt}
use Rattle.shards.specs.within.Deals.{AreDealt, Deal, deal_of, goes_to, numbers_of}

-- The test of the parts is that of what is dealt to them.
same_test : {X : Type 0} (deal : X → ℕ) (k : ℕ) (xs : List X) → list_any (λ n. n == k) (map deal xs) ≡ list_any (λ x. deal x == k) xs
same_test deal k [] = refl
same_test deal k (x ∷ xs) = ap (λ r. (deal x == k) || r) (same_test deal k xs)

tested : (dealing : Dealing) (k : ℕ) (x : Piece) → list_any (λ n. n == k) (numbers_of dealing x.fields) ≡ is_dealt dealing k x
tested (ByNode shards) k x = same_test (in_turn shards) k (named_in x.fields)
tested (Extracts shards) k x = same_test (in_turn shards) k (nodes_of x.fields)

abbrev first : Deal → Piece
first d = d.0

one : (a b : Bool) (d : Deal) (ds : List Deal) (xs : List Piece) → a ≡ b → map first ds ≡ xs → map first (cond a (d ∷ ds) ds) ≡ cond b (d.0 ∷ xs) xs
one true true d ds xs e h = ap (λ (ys : List Piece). d.0 ∷ ys) h
one true false d ds xs e h = absurd cc
one false true d ds xs e h = absurd cc
one false false d ds xs e h = h

module _ (dealing : Dealing) where
  -- Of the items with their parts those that go to one are those that the part has.
  those_of : (k : ℕ) (xs : List Piece) → map (λ (d : Deal). d.0) (filter (goes_to k) (map (deal_of dealing) xs)) ≡ filter (is_dealt dealing k) xs
  those_of k [] = refl
  those_of k (x ∷ xs) = one (goes_to k (deal_of dealing x)) (is_dealt dealing k x) (deal_of dealing x) (filter (goes_to k) (map (deal_of dealing) xs)) (filter (is_dealt dealing k) xs)
      (tested dealing k x) (those_of k xs)

-- The items themselves.
pub items_of : (dealing : Dealing) (xs : List Piece) → map (λ (d : Deal). d.0) (map (deal_of dealing) xs) ≡ xs
items_of dealing [] = refl
items_of dealing (x ∷ xs) = ap (λ (ys : List Piece). x ∷ ys) (items_of dealing xs)

-- Items that ascend, each with its parts.
pub are_dealt : (dealing : Dealing) (deals : List Deal) (xs : List Piece) → deals ≡ map (deal_of dealing) xs → IsStrictlySortedBy by_bytes xs → AreDealt dealing deals
are_dealt dealing deals xs is sorted =
    let same : map first deals ≡ xs = ap (map first) is ∙ items_of dealing xs in
    record {
      ascending = subst (IsStrictlySortedBy by_bytes) (sym same) sorted;
      right = is ∙ ap (map (deal_of dealing)) (sym same);
    }

-- Those that go to a part are those that the part has.
pub lent_are : (dealing : Dealing) (k : ℕ) (deals : List Deal) (xs lent : List Piece) → AreDealt dealing deals → map (λ (d : Deal). d.0) deals ≡ xs → lent ≡ map (λ (d : Deal). d.0) (filter (goes_to k) deals)
    → lent ≡ filter (is_dealt dealing k) xs
lent_are dealing k deals xs lent dealt same is =
    is
    ∙ ap (λ (ds : List Deal). map first (filter (goes_to k) ds)) dealt.right
    ∙ those_of dealing k (map first deals)
    ∙ ap (filter (is_dealt dealing k)) same

abbrev pub parted : Dealing → List Piece → Parted
parted dealing xs = record { dealing = dealing; items = xs }
