-- The nodes of a directory, and which of them are exposed.
use borrow.Author.Count.{below_more}
use Rattle.std.proofs.Common.{◌≡◌, ◌∙◌, ◌+◌, ◌<◌, ◌≤◌, ◌||◌, ℕ, zero, suc, Bool, true, false, cond, List, [], ◌∷◌, length, get_or, Option, Some, nat_eq, refl, sym, ap, subst, arith, eq-eqb}
use Rattle.std.specs.Prelude.{map, is_some, IsSome, IsTrue, ◌↔◌}
use Rattle.std.specs.List.{list_any}
use Rattle.std.proofs.lemmas.Bool.{eqb-true}
use Rattle.std.proofs.lemmas.Grind.{get_or_default_zero}
use Rattle.authenticators.specs.Directory.{Listing, is_listed, keys_at}
use Rattle.replay_verifier.specs.Meaning.{Meaning}
use Rattle.evidence_set.specs.declared.indication.Indication.{Indication}
use Rattle.evidence_set.specs.declared.indication.Indication.TheVariants.{Trusted, Suspected, Exposed}
use Rattle.evidence_set.specs.Indications.{IsExposed, IsIndication}
use Rattle.evidence_set.specs.ItemSets.{Items}

abbrev pub numbers : Listing → List ℕ
numbers ds = map (λ p. p.0) ds

-- ---- a node at a place is listed

behind : {K : Type 0} (b : Bool) (key : K) (rest : Option K) → IsSome rest → IsSome (cond b (Some key) rest)
behind true key rest h = refl
behind false key rest h = h

here : {K : Type 0} (b : Bool) (key : K) (rest : Option K) → b ≡ true → IsSome (cond b (Some key) rest)
here true key rest h = refl
here false key rest h = absurd cc

pub listed_at : (ds : Listing) (k node : ℕ) → k < length (numbers ds) → get_or (numbers ds) k 0 ≡ node → IsSome (keys_at ds node)
listed_at [] k node below is = absurd (omega (arith, below))
listed_at (p ∷ ps) zero node below is = here (nat_eq node p.0) p.1 (keys_at ps node) (eq-eqb node p.0 (sym is))
listed_at (p ∷ ps) (suc k) node below is = behind (nat_eq node p.0) p.1 (keys_at ps node) (listed_at ps k node (omega (arith, below)) is)

-- ---- a node is listed where its number is among those of the directory

any_or : {K : Type 0} (node : ℕ) (key : K) (rest : Option K) (ns : List ℕ) (b : Bool) → is_some rest ≡ list_any (nat_eq node) ns → is_some (cond b (Some key) rest) ≡ (b || list_any (nat_eq node) ns)
any_or node key rest ns true h = refl
any_or node key rest ns false h = h

pub listed_any : (node : ℕ) (ds : Listing) → is_listed ds node ≡ list_any (nat_eq node) (numbers ds)
listed_any node [] = refl
listed_any node (p ∷ ps) = any_or node p.1 (keys_at ps node) (numbers ps) (nat_eq node p.0) (listed_any node ps)

-- ---- a listed node stands at a place

abbrev pub Place : Listing → ℕ → Type 0
Place ds node = (k : ℕ) × (k < length (numbers ds)) × (get_or (numbers ds) k 0 ≡ node)

one_later : (n : ℕ) (xs : List ℕ) (node : ℕ) → ((k : ℕ) × (k < length xs) × (get_or xs k 0 ≡ node)) → (k : ℕ) × (k < length (n ∷ xs)) × (get_or (n ∷ xs) k 0 ≡ node)
one_later n xs node (k, below, is) = (suc k, omega (arith, below), is)

first_or_later : {K : Type 0} (node n : ℕ) (xs : List ℕ) (key : K) (rest : Option K) (b : Bool) → nat_eq node n ≡ b → IsSome (cond b (Some key) rest) → (IsSome rest → (k : ℕ) × (k < length xs) × (get_or xs k 0 ≡ node)) → (k : ℕ) × (k < length (n ∷ xs)) × (get_or (n ∷ xs) k 0 ≡ node)
first_or_later node n xs key rest true same h later = (zero, omega arith, sym (eqb-true node n same))
first_or_later node n xs key rest false same h later = one_later n xs node (later h)

pub place_of : (ds : Listing) (node : ℕ) → IsSome (keys_at ds node) → Place ds node
place_of [] node h = absurd cc
place_of (p ∷ ps) node h = first_or_later node p.0 (numbers ps) p.1 (keys_at ps node) (nat_eq node p.0) refl h (place_of ps node)

-- ---- an indication tells whether the node is exposed

abbrev pub is_exposed : Indication → Bool
is_exposed Trusted = false
is_exposed Suspected = false
is_exposed Exposed = true

pub tells_exposed : {S : Type 0} (ds : Listing) (program : Meaning S) (E : Items) (j : ℕ) (i : Indication) → IsIndication ds program E j i → IsTrue (is_exposed i) ↔ IsExposed ds program E j
tells_exposed ds program E j Trusted h = (λ t. absurd cc, λ e. absurd (h.0 e))
tells_exposed ds program E j Suspected h = (λ t. absurd cc, λ e. absurd (h.0 e))
tells_exposed ds program E j Exposed h = (λ t. h, λ e. refl)

-- ---- going through the nodes

pub none_more : (P : ℕ → Type 0) (nodes : List ℕ) (n node : ℕ) → n < length nodes → node ≡ get_or nodes n node → ((k : ℕ) → k < n → ¬ P (get_or nodes k 0)) → ¬ P node → (k : ℕ) → k < n + 1 → ¬ P (get_or nodes k 0)
none_more P nodes n node below is before not =
    let same : node ≡ get_or nodes n 0 = is ∙ get_or_default_zero nodes n node below in
    below_more (λ k. ¬ P (get_or nodes k 0)) n before (λ h. not (subst P (sym same) h))

pub nobody : (P : ℕ → Type 0) (ds : Listing) (nodes : List ℕ) (n : ℕ) → nodes ≡ numbers ds → length nodes ≤ n → ((k : ℕ) → k < n → ¬ P (get_or nodes k 0)) → (node : ℕ) → IsSome (keys_at ds node) → ¬ P node
nobody P ds nodes n same end none node listed h =
    let (k, below, is) = place_of ds node listed in
    let len : length nodes ≡ length (numbers ds) = ap length same in
    let at : get_or nodes k 0 ≡ node = ap (λ (xs : List ℕ). get_or xs k 0) same ∙ is in
    none k (omega (arith, below, len, end)) (subst P (sym at) h)
