-- What a filter keeps, and where it came from.
use Rattle.std.proofs.Common.{◌≡◌, ◌<◌, ℕ, zero, suc, Bool, true, false, cond, List, [], ◌∷◌, ◌++◌, length, get_or, refl, ap, ◌∙◌, subst, arith}
use Rattle.std.specs.List.{Contains, filter}
use Rattle.std.proofs.lemmas.List.Elements.{All-contains, All-contains_itself, All-filter, Contains-append_right}

-- ---- members

has_head : {X : Type 0} (x : X) (xs : List X) → Contains (x ∷ xs) x
has_head x xs = (0, omega arith, refl)

has_more : {X : Type 0} (y : X) (xs : List X) (x : X) → Contains xs x → Contains (y ∷ xs) x
has_more y xs x has = Contains-append_right (y ∷ []) xs x has

kept_head : {X : Type 0} (b : Bool) (x : X) (xs : List X) → b ≡ true → Contains (cond b (x ∷ xs) xs) x
kept_head true x xs e = has_head x xs
kept_head false x xs e = absurd cc

kept_more : {X : Type 0} (b : Bool) (y : X) (xs : List X) (x : X) → Contains xs x → Contains (cond b (y ∷ xs) xs) x
kept_more true y xs x has = has_more y xs x has
kept_more false y xs x has = has

filter_at : {X : Type 0} (p : X → Bool) (xs : List X) (x : X) (k : ℕ) → k < length xs → get_or xs k x ≡ x → p x ≡ true → Contains (filter p xs) x
filter_at p [] x k below at passes = absurd (omega arith)
filter_at p (y ∷ ys) x zero below at passes = subst (λ z. Contains (filter p (y ∷ ys)) z) at (kept_head (p y) y (filter p ys) (ap p at ∙ passes))
filter_at p (y ∷ ys) x (suc k) below at passes = kept_more (p y) y (filter p ys) x (filter_at p ys x k (omega arith) at passes)

-- What passes the test is kept.
pub filter_has : {X : Type 0} (p : X → Bool) (xs : List X) (x : X) → Contains xs x → p x ≡ true → Contains (filter p xs) x
filter_has p xs x has passes = filter_at p xs x has.0 has.1 has.2 passes

-- ---- places

abbrev first_or : {X : Type 0} → X → List X → X
first_or x [] = x
first_or x (y ∷ ys) = y

abbrev rest_of : {X : Type 0} → List X → List X
rest_of [] = []
rest_of (y ∷ ys) = ys

-- The list is cut at x; what is kept of its front is before x, and what is kept of its end is the rest.
abbrev pub WholeCut : {X : Type 0} → (X → Bool) → List X → List X → X → List X → Type 0
WholeCut {X} p xs before x rest = (a : List X) × (b : List X) × (xs ≡ a ++ x ∷ b) × (filter p a ≡ before) × (filter p b ≡ rest)

kept_to : {X : Type 0} (p : X → Bool) (k : X) (a before : List X) → p k ≡ true → filter p a ≡ before → filter p (k ∷ a) ≡ k ∷ before
kept_to {X} p k a before e is = ap (λ (b : Bool). cond b (k ∷ filter p a) (filter p a)) e ∙ ap (λ (l : List X). k ∷ l) is

dropped_to : {X : Type 0} (p : X → Bool) (k : X) (a before : List X) → p k ≡ false → filter p a ≡ before → filter p (k ∷ a) ≡ before
dropped_to {X} p k a before e is = ap (λ (b : Bool). cond b (k ∷ filter p a) (filter p a)) e ∙ is

whole_step : {X : Type 0} (p : X → Bool) (k : X) (ks : List X) (b : Bool) (before : List X) (x : X) (rest : List X) → p k ≡ b
    → ((y : List X) → filter p ks ≡ y ++ x ∷ rest → WholeCut p ks y x rest) → cond b (k ∷ filter p ks) (filter p ks) ≡ before ++ x ∷ rest → WholeCut p (k ∷ ks) before x rest
whole_step p k ks false before x rest is go e =
    let c = go before e in (k ∷ c.0, c.1, ap (λ l. k ∷ l) c.2, dropped_to p k c.0 before is c.3, c.4)
whole_step p k ks true [] x rest is go e = ([], ks, ap (λ y. y ∷ ks) (ap (first_or k) e), refl, ap rest_of e)
whole_step p k ks true (y ∷ ys) x rest is go e =
    let c = go ys (ap rest_of e) in
    (k ∷ c.0, c.1, ap (λ l. k ∷ l) c.2, kept_to p k c.0 ys is c.3 ∙ ap (λ z. z ∷ ys) (ap (first_or k) e), c.4)

-- What stands in a filtered list stands in the list, with what is kept on each side of it on that side.
pub filter_whole : {X : Type 0} (p : X → Bool) (xs before : List X) (x : X) (rest : List X) → filter p xs ≡ before ++ x ∷ rest → WholeCut p xs before x rest
filter_whole p [] [] x rest e = let n = ap length e in absurd (omega arith)
filter_whole p [] (y ∷ ys) x rest e = let n = ap length e in absurd (omega arith)
filter_whole p (k ∷ ks) before x rest e = whole_step p k ks (p k) before x rest refl (λ y f. filter_whole p ks y x rest f) e

-- What is kept was in the list.
pub filter_from : {X : Type 0} (p : X → Bool) (xs : List X) (x : X) → Contains (filter p xs) x → Contains xs x
filter_from p xs x has = All-contains (Contains xs) (filter p xs) x (All-filter p (Contains xs) xs (All-contains_itself xs)) has
