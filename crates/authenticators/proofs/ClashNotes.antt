-- Which numbers are noted, and that with them a set keeps a clash of each node that has one.
use Rattle.std.proofs.Common.{◌≡◌, ℕ, zero, suc, ◌<◌, ◌≤◌, List, [], ◌∷◌, ◌++◌, length, map, get_or, insert, set, ◌⊎◌, inl, inr, ⊎_elim, refl, sym, ap, subst, ◌∙◌, arith}
use Rattle.std.specs.Prelude.{◌↔◌, Ok, Err}
use Rattle.std.specs.Cmp.{IsTotalOrder}
use Rattle.std.specs.List.{Contains}
use Rattle.std.specs.List.Sorted.{IsBinarySearchResult, IsNonDecreasingBy, IsStrictlySortedBy}
use Rattle.std.specs.Ordering.{nat_cmp, ordering_index}
use Rattle.std.specs.declared.cmp.Ordering.TheVariants.{Less, Equal, Greater}
use Rattle.std.proofs.lemmas.Bool.{cases_lt}
use Rattle.std.proofs.lemmas.Cmp.{nat_cmp_total, on_total, ranked, tied_itself}
use Rattle.std.proofs.lemmas.List.{get_or-map, get_or-set_same, length-map, length-set}
use Rattle.std.proofs.lemmas.List.Elements.{All-from_recursion, AllWithin-set, recursion_from_All}
use Rattle.authenticators.specs.declared.authenticator.Authenticator.{Authenticator}
use Rattle.authenticators.specs.declared.clash.Clash.{Clash}
use Rattle.authenticators.specs.StatementSet.{Conflict, IsInRange, IsPart, IsUnion, NoConflict, NoConflictOf}
use Rattle.authenticators.specs.within.Noted.{AreClashesOf, AreNoted, HasOf, HasUpTo, IsClash, by_node, point_of}
use Rattle.authenticators.proofs.AscendingLists.{cons_has, in_cons, members-insert, searchable, sorted-insert, sorted-nil}

by_node_total : IsTotalOrder by_node
by_node_total = on_total (λ (p : Clash). p.node) nat_cmp_total

-- ---- the clash of a node

module _ (clashes : List Clash) (node : ℕ) (up : IsStrictlySortedBy by_node clashes) where
  -- what the search finds is of the node
  pub found : (i : ℕ) → i < length clashes → IsBinarySearchResult (λ (p : Clash). nat_cmp p.node node) clashes (Ok i) → (d : Clash) → (get_or clashes i d).node ≡ node
  found i inside told d = ranked (get_or clashes i d).node node Equal (sym (told d))

  -- what it does not find is nowhere
  pub nowhere : (i : ℕ) → IsBinarySearchResult (λ (p : Clash). nat_cmp p.node node) clashes (Err i) → HasOf clashes node → ⊥
  nowhere i place (p, (k, inside, is), same) =
      let rising : IsNonDecreasingBy (λ (q : Clash). ordering_index (nat_cmp q.node node)) clashes = subst (λ n. IsNonDecreasingBy (λ (q : Clash). ordering_index (nat_cmp q.node n)) clashes) same (searchable by_node by_node_total clashes p up) in
      let parts = place rising in
      let tied : nat_cmp p.node node ≡ Equal = ap (nat_cmp p.node) (sym same) ∙ tied_itself nat_cmp_total p.node in
      ⊎_elim
      (λ lt. let less : nat_cmp p.node node ≡ Less = ap (λ (q : Clash). nat_cmp q.node node) (sym is) ∙ parts.0 k p (omega arith) lt in cc (tied, less))
      (λ le. let more : nat_cmp p.node node ≡ Greater = ap (λ (q : Clash). nat_cmp q.node node) (sym is) ∙ parts.1 k p le inside in cc (tied, more))
      (cases_lt k i)

module _ (clashes : List Clash) (p : Clash) (i : ℕ) (inside : i ≤ length clashes) (up : IsStrictlySortedBy by_node clashes) (place : IsBinarySearchResult (λ (q : Clash). nat_cmp q.node p.node) clashes (Err i)) where
  -- put in its place it leaves the others in order
  pub put_ascends : IsStrictlySortedBy by_node (insert clashes i p)
  put_ascends = let parts = place (searchable by_node by_node_total clashes p up) in sorted-insert by_node by_node_total p clashes i inside up parts.0 parts.1

  pub put_keeps : (q : Clash) → Contains clashes q → HasUpTo (insert clashes i p) q
  put_keeps q has = (q, (members-insert clashes i p q).1 (inl has), refl, omega arith)

  pub put_only : (q : Clash) → Contains (insert clashes i p) q → Contains clashes q ⊎ (q ≡ p)
  put_only q has = (members-insert clashes i p q).0 has

  pub put_has : HasUpTo (insert clashes i p) p
  put_has = (p, (members-insert clashes i p p).1 (inr refl), refl, omega arith)

-- ---- in the place of another of its node

-- in its place they are in order
pub swap_ascends : (xs : List Clash) (i : ℕ) (y d : Clash) → i < length xs → (get_or xs i d).node ≡ y.node → IsStrictlySortedBy by_node xs → IsStrictlySortedBy by_node (set xs i y)
unfolding IsStrictlySortedBy
swap_ascends [] i y d inside same up = absurd (omega (arith, inside))
swap_ascends (x ∷ xs) zero y d inside same up =
    (recursion_from_All (λ (z : Clash). by_node y z ≡ Less) xs (λ k e lt. subst (λ n. nat_cmp n (get_or xs k e).node ≡ Less) same (All-from_recursion (λ (z : Clash). by_node x z ≡ Less) xs up.0 k e lt)), up.1)
swap_ascends (x ∷ xs) (suc i) y d inside same up =
    let below = All-from_recursion (λ (z : Clash). by_node x z ≡ Less) xs up.0 in
    let mine : by_node x y ≡ Less = subst (λ n. nat_cmp x.node n ≡ Less) same (below i d (omega (arith, inside))) in
    let others = AllWithin-set (λ (z : Clash). by_node x z ≡ Less) xs 0 (length xs) i y (omega (arith, inside)) mine (λ k e low high. below k e high) in
    (recursion_from_All (λ (z : Clash). by_node x z ≡ Less) (set xs i y) (λ k e lt. others k e (omega arith) (omega (arith, lt, length-set xs i y))), swap_ascends xs i y d (omega (arith, inside)) same up.1)

-- nothing else came
pub swap_only : (xs : List Clash) (i : ℕ) (y q : Clash) → Contains (set xs i y) q → Contains xs q ⊎ (q ≡ y)
swap_only [] i y q has = absurd (omega (arith, has.1))
swap_only (x ∷ xs) zero y q has = ⊎_elim (λ there. inl (cons_has x xs q (inl there))) (λ is. inr is) (in_cons y xs q has)
swap_only (x ∷ xs) (suc i) y q has = ⊎_elim
    (λ there. ⊎_elim (λ old. inl (cons_has x xs q (inl old))) (λ is. inr is) (swap_only xs i y q there))
    (λ is. inl (cons_has x xs q (inr is)))
    (in_cons x (set xs i y) q has)

-- and each node still has one, at no greater number
pub swap_has : (xs : List Clash) (i : ℕ) (y d q : Clash) → (get_or xs i d).node ≡ y.node → y.seq ≤ (get_or xs i d).seq → Contains xs q → HasUpTo (set xs i y) q
swap_has [] i y d q same least has = absurd (omega (arith, has.1))
swap_has (x ∷ xs) zero y d q same least has = ⊎_elim
    (λ there. (q, cons_has y xs q (inl there), refl, omega arith))
    (λ (is : q ≡ x). (y, cons_has y xs y (inr refl), subst (λ (r : Clash). y.node ≡ r.node) (sym is) (sym same), subst (λ (r : Clash). y.seq ≤ r.seq) (sym is) least))
    (in_cons x xs q has)
swap_has (x ∷ xs) (suc i) y d q same least has = ⊎_elim
    (λ there. let (p, in_xs, own, le) = swap_has xs i y d q same least there in (p, cons_has x (set xs i y) p (inl in_xs), own, le))
    (λ (is : q ≡ x). (q, cons_has x (set xs i y) q (inr is), refl, omega arith))
    (in_cons x xs q has)

-- it stands there itself
pub swap_there : (xs : List Clash) (i : ℕ) (y : Clash) → i < length xs → Contains (set xs i y) y
swap_there xs i y inside = (i, omega (arith, inside, length-set xs i y), get_or-set_same xs i y y inside)

-- a node has one clash
pub one_each : (xs : List Clash) (p q : Clash) → IsStrictlySortedBy by_node xs → Contains xs p → Contains xs q → p.node ≡ q.node → p ≡ q
unfolding IsStrictlySortedBy
one_each [] p q up in_p in_q same = absurd (omega (arith, in_p.1))
one_each (x ∷ xs) p q up in_p in_q same = ⊎_elim
    (λ p_there. ⊎_elim (λ q_there. one_each xs p q up.1 p_there q_there same) (λ (is : q ≡ x). absurd (apart p p_there (same ∙ ap (λ (r : Clash). r.node) is))) (in_cons x xs q in_q))
    (λ (is : p ≡ x). ⊎_elim (λ q_there. absurd (apart q q_there (sym same ∙ ap (λ (r : Clash). r.node) is))) (λ (also : q ≡ x). is ∙ sym also) (in_cons x xs q in_q))
    (in_cons x xs p in_p)
  where
    apart : (r : Clash) → Contains xs r → r.node ≡ x.node → ⊥
    apart r (k, lt, at) equal =
        let less : nat_cmp x.node r.node ≡ Less = subst (λ (z : Clash). by_node x z ≡ Less) at (All-from_recursion (λ (z : Clash). by_node x z ≡ Less) xs up.0 k r lt) in
        let tied : nat_cmp x.node r.node ≡ Equal = ap (nat_cmp x.node) equal ∙ tied_itself nat_cmp_total x.node in
        cc (less, tied)

-- ---- two in conflict at a number

module _ (held part : List Authenticator) (p : Clash) (is : IsPart (IsInRange p.node p.seq p.seq) held part) where
  -- the statements there are of one node and number
  pub one_point : (a b : Authenticator) → Contains part a → Contains part b → (a.node ≡ b.node) × (a.seq ≡ b.seq)
  one_point a b in_a in_b =
      let of_a = ((is.members a).0 in_a).1 in
      let of_b = ((is.members b).0 in_b).1 in
      (of_a.0 ∙ sym of_b.0, omega (arith, of_a.1, of_a.2, of_b.1, of_b.2))

  -- two of them in conflict are a clash
  pub clash_by : (a b : Authenticator) → Contains part a → Contains part b → Conflict a b → IsClash held p
  clash_by a b in_a in_b clash =
      let of_a = (is.members a).0 in_a in
      record {
        one = a;
        other = b;
        has_one = of_a.0;
        has_other = ((is.members b).0 in_b).0;
        here = (of_a.1.0, omega (arith, of_a.1.1, of_a.1.2));
        conflict = clash;
      }

  -- and a clash is two of them in conflict
  pub no_clash : NoConflict part → IsClash held p → ⊥
  no_clash none clash =
      none clash.one clash.other
      ((is.members clash.one).1 (clash.has_one, (clash.here.0, omega (arith, clash.here.1), omega (arith, clash.here.1))))
      ((is.members clash.other).1 (clash.has_other, (sym clash.conflict.one_node ∙ clash.here.0, omega (arith, clash.here.1, clash.conflict.one_number), omega (arith, clash.here.1, clash.conflict.one_number))))
      clash.conflict

-- ---- noting one point after the other

-- what is up to another's number is up to each greater one's
up_to : (clashes : List Clash) (p q : Clash) → p.node ≡ q.node → p.seq ≤ q.seq → HasUpTo clashes p → HasUpTo clashes q
up_to clashes p q same le (r, has, own, least) = (r, has, own ∙ same, omega (arith, le, least))

pub none_noted : (held : List Authenticator) (clashes : List Clash) → IsStrictlySortedBy by_node clashes → AreNoted held [] clashes clashes
none_noted held clashes up = record {
  ascending = up;
  kept = λ p has. (p, has, refl, omega arith);
  only = λ p has. inl has;
  found = λ p has. absurd (omega (arith, has.1));
}

-- a list of one point
the_one : (q p : Clash) → Contains (q ∷ []) p → q ≡ p
the_one q p (zero, inside, at) = at
the_one q p (suc i, inside, at) = absurd (omega (arith, inside))

-- one point, where nothing is in conflict
pub nothing_there : (held : List Authenticator) (clashes : List Clash) (q : Clash) → IsStrictlySortedBy by_node clashes → (IsClash held q → ⊥) → AreNoted held (q ∷ []) clashes clashes
nothing_there held clashes q up absent = record {
  ascending = up;
  kept = λ p has. (p, has, refl, omega arith);
  only = λ p has. inl has;
  found = λ p has clash. absurd (absent (subst (IsClash held) (sym (the_one q p has)) clash));
}

-- one point, where statements are
pub clash_there : (held : List Authenticator) (old new : List Clash) (q : Clash) → IsStrictlySortedBy by_node new → ((p : Clash) → Contains old p → HasUpTo new p)
    → ((p : Clash) → Contains new p → Contains old p ⊎ (p ≡ q)) → HasUpTo new q → IsClash held q → AreNoted held (q ∷ []) old new
clash_there held old new q up kept only has clash = record {
  ascending = up;
  kept = kept;
  only = λ p h. ⊎_elim (λ earlier. inl earlier) (λ (is : p ≡ q). inr (subst (IsClash held) (sym is) clash)) (only p h);
  found = λ p h _. subst (HasUpTo new) (the_one q p h) has;
}

-- one point more
pub one_more : (held : List Authenticator) (points old mid new : List Clash) (q : Clash) → AreNoted held points old mid → AreNoted held (q ∷ []) mid new
    → ((p : Clash) → Contains (points ++ q ∷ []) p → Contains points p ⊎ (q ≡ p)) → AreNoted held (points ++ q ∷ []) old new
one_more held points old mid new q noted more cases = record {
  ascending = more.ascending;
  kept = λ p has. again p (noted.kept p has);
  only = λ p has. ⊎_elim (λ in_mid. noted.only p in_mid) (λ clash. inr clash) (more.only p has);
  found = λ p has clash. ⊎_elim
      (λ earlier. again p (noted.found p earlier clash))
      (λ (is : q ≡ p). more.found p (0, omega arith, is) clash)
      (cases p has);
}
  where
    again : (p : Clash) → HasUpTo mid p → HasUpTo new p
    again p (r, in_mid, own, le) = up_to new r p own le (more.kept r in_mid)

-- ---- a set with more statements

-- the points of statements
pub point_there : (statements : List Authenticator) (points : List Clash) → points ≡ map point_of statements → (a : Authenticator) → Contains statements a → Contains points (point_of a)
point_there statements points is a (k, inside, at) =
    subst (λ (l : List Clash). Contains l (point_of a)) (sym is)
    (k, omega (arith, inside, length-map statements point_of), get_or-map point_of statements k a (point_of a) inside ∙ ap point_of at)

-- a list of one
one_of : (a x : Authenticator) → Contains (a ∷ []) x → x ≡ a
one_of a x (zero, inside, at) = sym at
one_of a x (suc i, inside, at) = absurd (omega (arith, inside))

-- a union with one statement
pub union_one : (held : List Authenticator) (a : Authenticator) (all : List Authenticator) → ((x : Authenticator) → Contains all x ↔ (Contains held x ⊎ (x ≡ a))) → IsUnion held (a ∷ []) all
union_one held a all added = λ x. (
  λ has. ⊎_elim (λ old. inl old) (λ (same : x ≡ a). inr (0, omega arith, sym same)) ((added x).0 has),
  λ h. (added x).1 (⊎_elim (λ old. inl old) (λ new. inr (one_of a x new)) h),
)

module _ (held new all : List Authenticator) (union : IsUnion held new all) (points old kept : List Clash) (before : AreClashesOf held old) (there : (a : Authenticator) → Contains new a → Contains points (point_of a)) (noted : AreNoted all points old kept) where
  still : (p : Clash) → IsClash held p → IsClash all p
  still p clash = record {
    one = clash.one;
    other = clash.other;
    has_one = (union clash.one).1 (inl clash.has_one);
    has_other = (union clash.other).1 (inl clash.has_other);
    here = clash.here;
    conflict = clash.conflict;
  }

  turned : (a b : Authenticator) → Conflict a b → Conflict b a
  turned a b clash = record { one_node = sym clash.one_node; one_number = sym clash.one_number; two_hashes = λ same. clash.two_hashes (sym same) }

  -- a clash at a statement that came
  at_new : (a b : Authenticator) → Contains new a → Contains all a → Contains all b → Conflict a b → HasUpTo kept (point_of a)
  at_new a b in_new in_a in_b clash = noted.found (point_of a) (there a in_new) (record { one = a; other = b; has_one = in_a; has_other = in_b; here = (refl, refl); conflict = clash })

  pub clashes_more : AreClashesOf all kept
  clashes_more = record {
    ascending = noted.ascending;
    each = λ p has. ⊎_elim (λ earlier. still p (before.each p earlier)) (λ clash. clash) (noted.only p has);
    all = λ a b in_a in_b clash. ⊎_elim
        (λ old_a. ⊎_elim
        (λ old_b. let (p, has, own, le) = before.all a b old_a old_b clash in up_to kept p (point_of a) own le (noted.kept p has))
        (λ new_b. up_to kept (point_of b) (point_of a) (sym clash.one_node) (omega (arith, clash.one_number)) (at_new b a new_b in_b in_a (turned a b clash)))
        ((union b).0 in_b))
        (λ new_a. at_new a b new_a in_a in_b clash)
        ((union a).0 in_a);
  }

-- the same where a list is equal
pub clashes_same : (held same : List Authenticator) (clashes : List Clash) → same ≡ held → AreClashesOf held clashes → AreClashesOf same clashes
clashes_same held same clashes is before = subst (λ (l : List Authenticator). AreClashesOf l clashes) (sym is) before

-- a set with nothing
pub no_clashes : (held : List Authenticator) (clashes : List Clash) → held ≡ [] → clashes ≡ [] → AreClashesOf held clashes
no_clashes held clashes none nothing =
    subst (λ (l : List Authenticator). AreClashesOf l clashes) (sym none)
    (subst (AreClashesOf []) (sym nothing) (record {
      ascending = sorted-nil by_node;
      each = λ p has. absurd (omega (arith, has.1));
      all = λ a b in_a in_b clash. absurd (omega (arith, in_a.1));
    }))

-- ---- what a node's clash tells

pub none_of : (node : ℕ) (held : List Authenticator) (clashes : List Clash) → AreClashesOf held clashes → (HasOf clashes node → ⊥) → NoConflictOf node held
none_of node held clashes are none a b in_a in_b of clash = let (p, has, own, le) = are.all a b in_a in_b clash in none (p, has, own ∙ of)

-- no two are in conflict at a number below
pub least_of : (held : List Authenticator) (clashes : List Clash) (p : Clash) → AreClashesOf held clashes → Contains clashes p
    → (a b : Authenticator) → Contains held a → Contains held b → a.node ≡ p.node → Conflict a b → p.seq ≤ a.seq
least_of held clashes p are has a b in_a in_b of clash =
    let (q, has_q, own, le) = are.all a b in_a in_b clash in
    let one : q ≡ p = one_each clashes q p are.ascending has_q has (own ∙ of) in
    subst (λ (r : Clash). r.seq ≤ a.seq) one le

-- the same clash, its node told by another name
pub clash_at : (held : List Authenticator) (p : Clash) (node : ℕ) → p.node ≡ node → IsClash held p → IsClash held (record { node = node; seq = p.seq })
clash_at held p node same clash = record {
  one = clash.one;
  other = clash.other;
  has_one = clash.has_one;
  has_other = clash.has_other;
  here = (clash.here.0 ∙ same, clash.here.1);
  conflict = clash.conflict;
}
