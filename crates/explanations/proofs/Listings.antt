-- The numbers of a directory's nodes differ, and each node that is listed is among them.
use Rattle.std.proofs.Common.{◌≡◌, ◌∙◌, ◌<◌, ◌||◌, ℕ, Bool, true, false, cond, List, [], ◌∷◌, ◌++◌, length, get_or, refl, sym, ap, arith}
use Rattle.std.specs.Prelude.{◌↔◌, map, is_some, nat_eq, IsTrue, Some}
use Rattle.std.specs.List.{AllByRecursion, Contains, IsDistinct, list_any}
use Rattle.std.specs.List.Sorted.{IsNonDecreasing, IsPermutation, IsStrictlyIncreasing}
use Rattle.std.proofs.lemmas.Bool.{eq-eqb, eqb-true}
use Rattle.std.proofs.lemmas.List.Folds.{list_any_at}
use Rattle.std.proofs.lemmas.List.Sorted.{Contains-permutation, IsPermutation-sym}
use Rattle.std.proofs.lemmas.Map.Keys.{IsDistinct-IsPermutation, IsStrictlyIncreasing-from_distinct}
use Rattle.std.proofs.lemmas.Map.Views.{Contains-from_any}
use Rattle.std.specs.Map.{lookup}
use Rattle.lms_sign.specs.declared.key.PublicKey.{PublicKey}
use Rattle.authenticators.specs.Directory.{Listing, is_listed, keys_at}
use Rattle.authenticators.specs.DirectoryText.{AreNew}

-- a listed node stays listed behind a node more
stays : (ds : Listing) (p : ℕ × List PublicKey) (n : ℕ) → is_listed ds n ≡ true → is_listed (ds ++ p ∷ []) n ≡ true
stays [] p n h = absurd cc
stays (q ∷ qs) p n h = go (nat_eq n q.0) h (stays qs p n)
  where
    go : (b : Bool) → is_some (cond b (Some q.1) (lookup (nat_eq n) qs)) ≡ true → (is_listed qs n ≡ true → is_listed (qs ++ p ∷ []) n ≡ true) → is_some (cond b (Some q.1) (lookup (nat_eq n) (qs ++ p ∷ []))) ≡ true
    go true h more = refl
    go false h more = more h

same : (n : ℕ) → nat_eq n n ≡ true
same n = grind arith

-- the node at the end is listed
ends : (ds : Listing) (p : ℕ × List PublicKey) → is_listed (ds ++ p ∷ []) p.0 ≡ true
ends [] p = here (nat_eq p.0 p.0) (same p.0)
  where
    here : (b : Bool) → b ≡ true → is_some (cond b (Some p.1) (lookup (nat_eq p.0) [])) ≡ true
    here true h = refl
    here false h = absurd cc
ends (q ∷ qs) p = go (nat_eq p.0 q.0) (ends qs p)
  where
    go : (b : Bool) → is_listed (qs ++ p ∷ []) p.0 ≡ true → is_some (cond b (Some q.1) (lookup (nat_eq p.0) (qs ++ p ∷ []))) ≡ true
    go true h = refl
    go false h = h

differs : (before : Listing) (n m : ℕ) → is_listed before n ≡ true → is_listed before m ≡ false → nat_eq n m ≡ false
differs before n m h k = go (nat_eq n m) refl
  where
    go : (b : Bool) → nat_eq n m ≡ b → nat_eq n m ≡ false
    go false e = e
    go true e =
        let one : n ≡ m = grind arith in
        let both : is_listed before n ≡ is_listed before m = ap (is_listed before) one in
        absurd cc

apart : (before ds : Listing) (n : ℕ) → AreNew before ds → is_listed before n ≡ true → AllByRecursion (λ y. nat_eq n y ≡ false) (map (λ p. p.0) ds)
apart before [] n new h = tt
apart before (p ∷ ps) n new h = (differs before n p.0 h new.1, apart (before ++ p ∷ []) ps n new.3 (stays before p n h))

pub distinct : (before ds : Listing) → AreNew before ds → IsDistinct nat_eq (map (λ p. p.0) ds)
unfolding IsDistinct
distinct before [] new = tt
distinct before (p ∷ ps) new = (apart (before ++ p ∷ []) ps p.0 new.3 (ends before p), distinct (before ++ p ∷ []) ps new.3)

-- equality of numbers turns round
pub turns : (n m : ℕ) → nat_eq n m ≡ nat_eq m n
turns n m = grind arith

-- numbers that do not fall, and are those of the nodes in another order, rise
pub rises : (ds : Listing) (nodes sorted : List ℕ) → AreNew [] ds → nodes ≡ map (λ p. p.0) ds → IsPermutation nodes sorted → IsNonDecreasing sorted → IsStrictlyIncreasing sorted
rises ds nodes sorted new is moved up =
    let apart : IsDistinct nat_eq nodes = rw is (distinct [] ds new) in
    IsStrictlyIncreasing-from_distinct sorted up (IsDistinct-IsPermutation nat_eq turns nodes sorted moved apart)

-- a node is listed where its number is among them
listed_any : (node : ℕ) (ds : Listing) → is_listed ds node ≡ list_any (nat_eq node) (map (λ p. p.0) ds)
listed_any node [] = refl
listed_any node (p ∷ ps) = here (nat_eq node p.0) (listed_any node ps)
  where
    here : (b : Bool) → is_listed ps node ≡ list_any (nat_eq node) (map (λ p. p.0) ps) → is_some (cond b (Some p.1) (keys_at ps node)) ≡ (b || list_any (nat_eq node) (map (λ p. p.0) ps))
    here true h = refl
    here false h = h

any_there : (node : ℕ) (xs : List ℕ) (k : ℕ) → k < length xs → get_or xs k node ≡ node → list_any (nat_eq node) xs ≡ true
any_there node xs k below is = list_any_at (nat_eq node) xs k node below (eq-eqb node (get_or xs k node) (sym is))

-- the listed nodes and no others are among the numbers in another order
pub there : (ds : Listing) (nodes sorted : List ℕ) (node : ℕ) → nodes ≡ map (λ p. p.0) ds → IsPermutation nodes sorted → Contains sorted node ↔ IsTrue (is_listed ds node)
there ds nodes sorted node is moved =
    let listed : is_listed ds node ≡ list_any (nat_eq node) nodes = listed_any node ds ∙ ap (list_any (nat_eq node)) (sym is) in (
      λ h.
          let back = Contains-permutation sorted nodes node (IsPermutation-sym nodes sorted moved) h in
          listed ∙ any_there node nodes back.0 back.1 back.2,
      λ h. Contains-permutation nodes sorted node moved (Contains-from_any eqb-true node nodes (sym listed ∙ h)),
    )
