-- A directory lists each number and each key once.
use Rattle.std.proofs.Common.{◌≡◌, ℕ, ◌||◌, Bool, true, false, List, [], ◌∷◌, ◌++◌, refl, ap, ◌∙◌, subst}
use Rattle.std.specs.Bool.{Decides}
use Rattle.std.specs.Prelude.{map, nat_eq}
use Rattle.std.specs.List.{AllByRecursion, IsDistinct, flat_map}
use Rattle.std.proofs.lemmas.Bool.{eqb-true, eq-eqb}
use Rattle.std.proofs.lemmas.Map.Made.{AllPairs-from_IsDistinct}
use Rattle.lms_sign.specs.declared.key.PublicKey.{PublicKey}
use Rattle.authenticators.specs.Directory.{Listing, is_listed, same_key, is_among, has_key, some_known}
use Rattle.authenticators.specs.DirectoryText.{AreNew, IsDirectory, ListsEachOnce}
use Rattle.authenticators.proofs.DirectoriesGrow.{or_false, listed_append, has_append, among_append}
use Rattle.authenticators.proofs.SameKeys.{same_keys, same_key-refl}

-- ---- what tests answer

or_true : (a b : Bool) → b ≡ true → (a || b) ≡ true
or_true true b e = refl
or_true false b e = e

has_last : (a b : Bool) → b ≡ true → (a || (b || false)) ≡ true
has_last a b e = or_true a (b || false) (ap (λ (v : Bool). v || false) e)

last_listed : (before : Listing) (p : ℕ × List PublicKey) → is_listed (before ++ p ∷ []) p.0 ≡ true
last_listed before p = listed_append before p p.0 ∙ or_true (is_listed before p.0) (is_listed (p ∷ []) p.0) (rw (eq-eqb p.0 p.0 refl) refl)

among_last : (own : List PublicKey) (k : PublicKey) → is_among k (own ++ k ∷ []) ≡ true
among_last own k = among_append own (k ∷ []) k ∙ has_last (is_among k own) (same_key k k) (same_key-refl k)

nat_same : (a b : ℕ) → Decides (nat_eq a b) (a ≡ b)
nat_same a b = (eqb-true a b, eq-eqb a b)

key_same : (a b : PublicKey) → Decides (same_key a b) (a ≡ b)
key_same a b = (same_keys a b, λ e. subst (λ (k : PublicKey). same_key a k ≡ true) e (same_key-refl a))

-- ---- numbers

-- a number that is listed before is none of those that are new
other_numbers : (before ps : Listing) (n : ℕ) → AreNew before ps → is_listed before n ≡ true → AllByRecursion (λ m. nat_eq n m ≡ false) (map (λ p. p.0) ps)
other_numbers before [] n new listed = tt
other_numbers before (p ∷ ps) n new listed = (go (nat_eq n p.0) refl, other_numbers (before ++ p ∷ []) ps n new.3 more)
  where
    go : (b : Bool) → nat_eq n p.0 ≡ b → nat_eq n p.0 ≡ false
    go false e = e
    go true e = let same : is_listed before p.0 ≡ true = subst (λ (m : ℕ). is_listed before m ≡ true) (eqb-true _ _ e) listed in let other = new.1 in absurd cc

    more : is_listed (before ++ p ∷ []) n ≡ true
    more = listed_append before p n ∙ ap (λ (b : Bool). b || is_listed (p ∷ []) n) listed

numbers_once : (before ps : Listing) → AreNew before ps → IsDistinct nat_eq (map (λ p. p.0) ps)
unfolding IsDistinct
numbers_once before [] new = tt
numbers_once before (p ∷ ps) new = (other_numbers (before ++ p ∷ []) ps p.0 new.3 (last_listed before p), numbers_once (before ++ p ∷ []) ps new.3)

-- ---- keys

all_append : {X : Type 0} (P : X → Type 0) (xs ys : List X) → AllByRecursion P xs → AllByRecursion P ys → AllByRecursion P (xs ++ ys)
all_append P [] ys a b = b
all_append P (x ∷ xs) ys a b = (a.0, all_append P xs ys a.1 b)

-- a key that has what another lacks is another
apart : (test : PublicKey → Bool) (a b : PublicKey) → test a ≡ true → test b ≡ false → same_key a b ≡ false
apart test a b is other = go (same_key a b) refl
  where
    go : (v : Bool) → same_key a b ≡ v → same_key a b ≡ false
    go false e = e
    go true e = let same : test b ≡ true = subst (λ (k : PublicKey). test k ≡ true) (same_keys a b e) is in absurd cc

-- the keys that may be added are none of the directory's
unknown : (ds : Listing) (own keys : List PublicKey) → some_known ds own keys ≡ false → AllByRecursion (λ k. has_key ds k ≡ false) keys
unknown ds own [] e = tt
unknown ds own (k ∷ keys) e =
    let a = or_false (has_key ds k || is_among k own) (some_known ds (own ++ k ∷ []) keys) e in
    ((or_false (has_key ds k) (is_among k own) a.0).0, unknown ds (own ++ k ∷ []) keys a.1)

-- nor a key before them
other_keys : (ds : Listing) (own keys : List PublicKey) (key : PublicKey) → some_known ds own keys ≡ false → is_among key own ≡ true → AllByRecursion (λ k. same_key key k ≡ false) keys
other_keys ds own [] key e is = tt
other_keys ds own (k ∷ keys) key e is =
    let a = or_false (has_key ds k || is_among k own) (some_known ds (own ++ k ∷ []) keys) e in
    let b = or_false (has_key ds k) (is_among k own) a.0 in
    let more : is_among key (own ++ k ∷ []) ≡ true = among_append own (k ∷ []) key ∙ ap (λ (v : Bool). v || is_among key (k ∷ [])) is in
    (apart (λ x. is_among x own) key k is b.1, other_keys ds (own ++ k ∷ []) keys key a.1 more)

keys_once : (ds : Listing) (own keys : List PublicKey) → some_known ds own keys ≡ false → IsDistinct same_key keys
unfolding IsDistinct
keys_once ds own [] e = tt
keys_once ds own (k ∷ keys) e =
    let a = or_false (has_key ds k || is_among k own) (some_known ds (own ++ k ∷ []) keys) e in
    (other_keys ds (own ++ k ∷ []) keys k a.1 (among_last own k), keys_once ds (own ++ k ∷ []) keys a.1)

-- a key that is listed before is none of those of new nodes
key_before : (before ps : Listing) (key : PublicKey) → AreNew before ps → has_key before key ≡ true → AllByRecursion (λ k. same_key key k ≡ false) (flat_map (λ p. p.1) ps)
key_before before [] key new has = tt
key_before before (p ∷ ps) key new has =
    all_append (λ k. same_key key k ≡ false) p.1 (flat_map (λ p. p.1) ps) (each p.1 (unknown before [] p.1 new.2))
    (key_before (before ++ p ∷ []) ps key new.3 (has_append before p key ∙ ap (λ (v : Bool). v || has_key (p ∷ []) key) has))
  where
    each : (keys : List PublicKey) → AllByRecursion (λ k. has_key before k ≡ false) keys → AllByRecursion (λ k. same_key key k ≡ false) keys
    each [] all = tt
    each (k ∷ keys) all = (apart (has_key before) key k has all.0, each keys all.1)

-- these keys are different, and so are the others, and none is among the others
joined : (keys others : List PublicKey) → IsDistinct same_key keys → IsDistinct same_key others
    → ((key : PublicKey) → is_among key keys ≡ true → AllByRecursion (λ k. same_key key k ≡ false) others) → IsDistinct same_key (keys ++ others)
unfolding IsDistinct
joined [] others a b other = b
joined (k ∷ keys) others a b other = (
  all_append (λ x. same_key k x ≡ false) keys others a.0 (other k (ap (λ (v : Bool). v || is_among k keys) (same_key-refl k))),
  joined keys others a.1 b (λ key is. other key (or_true (same_key key k) (is_among key keys) is)),
)

all_keys_once : (before ps : Listing) → AreNew before ps → IsDistinct same_key (flat_map (λ p. p.1) ps)
unfolding IsDistinct
all_keys_once before [] new = tt
all_keys_once before (p ∷ ps) new =
    joined p.1 (flat_map (λ p. p.1) ps) (keys_once before [] p.1 new.2) (all_keys_once (before ++ p ∷ []) ps new.3)
    (λ key is. key_before (before ++ p ∷ []) ps key new.3 (has_append before p key ∙ has_last (has_key before key) (is_among key p.1) is))

-- ---- both

pub listed_once : (ds : Listing) → IsDirectory ds → ListsEachOnce ds
listed_once ds h = record {
  numbers = AllPairs-from_IsDistinct nat_same _ (numbers_once [] ds h.nodes);
  keys = AllPairs-from_IsDistinct key_same _ (all_keys_once [] ds h.nodes);
}
