-- Members of lists, of which a place in the list is known.
use Rattle.std.proofs.Common.{◌≡◌, ◌≢◌, ◌<◌, ℕ, Bool, true, false, List, [], ◌∷◌, refl, sym, ap, subst, ◌⊎◌, inl, inr, arith}
use Rattle.std.specs.List.{AllByRecursion, Contains, flat_map}
use Rattle.std.specs.Str.{bytes_eq}
use Rattle.std.proofs.lemmas.Bool.Decides.{eqb_tells}
use Rattle.std.proofs.lemmas.List.Elements.{Contains-append_cases, Contains-append_left, Contains-append_right, Contains-push, Contains-push_cases}
use Rattle.std.proofs.lemmas.Slice.Eq.{bytes_eq-Decides}
use Rattle.commitment.specs.Accounts.{Stamp}

-- ---- members

module _ {A : Type 0} where
  pub nothing : (x : A) → Contains [] x → ⊥
  nothing x c = let below : c.0 < 0 = c.1 in omega arith

  pub member_cases : (y : A) (xs : List A) (x : A) → Contains (y ∷ xs) x → (y ≡ x) ⊎ Contains xs x
  member_cases y xs x c = elim (Contains-append_cases (y ∷ []) xs x c) [
    | inl one ↦ elim (Contains-push_cases [] y x one) [ inl none ↦ absurd (nothing x none) | inr is ↦ inl is ]
    | inr more ↦ inr more
  ]

  pub first_member : (x : A) (xs : List A) → Contains (x ∷ xs) x
  first_member x xs = Contains-append_left (x ∷ []) xs x (Contains-push [] x)

  pub later_member : (y : A) (xs : List A) (x : A) → Contains xs x → Contains (y ∷ xs) x
  later_member y xs x c = Contains-append_right (y ∷ []) xs x c

  pub only_member : (y x : A) → Contains (y ∷ []) x → y ≡ x
  only_member y x c = elim (member_cases y [] x c) [ inl is ↦ is | inr none ↦ absurd (nothing x none) ]

  pub of_member : (P : A → Type 0) (xs : List A) (x : A) → AllByRecursion P xs → Contains xs x → P x
  of_member P [] x h c = absurd (nothing x c)
  of_member P (y ∷ xs) x h c = elim (member_cases y xs x c) [ inl is ↦ subst P is h.0 | inr more ↦ of_member P xs x h.1 more ]

  pub all_members : (P : A → Type 0) (xs : List A) → ((x : A) → Contains xs x → P x) → AllByRecursion P xs
  all_members P [] f = tt
  all_members P (x ∷ xs) f = (f x (first_member x xs), all_members P xs (λ y c. f y (later_member x xs y c)))

pub in_flat_map : {A B : Type 0} (f : B → List A) (bs : List B) (b : B) (x : A) → Contains bs b → Contains (f b) x → Contains (flat_map f bs) x
in_flat_map f [] b x h k = absurd (nothing b h)
in_flat_map {A = A} {B = B} f (c ∷ bs) b x h k = elim (member_cases c bs b h) [
  | inl is ↦ Contains-append_left (f c) (flat_map f bs) x (subst (λ (d : B). Contains (f d) x) (sym is) k)
  | inr more ↦ Contains-append_right (f c) (flat_map f bs) x (in_flat_map f bs b x more k)
]

pub of_flat_map : {A B : Type 0} (f : B → List A) (bs : List B) (x : A) → Contains (flat_map f bs) x → (b : B) × Contains bs b × Contains (f b) x
of_flat_map f [] x c = absurd (nothing x c)
of_flat_map f (b ∷ bs) x c = elim (Contains-append_cases (f b) (flat_map f bs) x c) [
  | inl here ↦ (b, first_member b bs, here)
  | inr more ↦ let r = of_flat_map f bs x more in (r.0, later_member b bs r.0 r.1, r.2)
]

-- ---- texts, and numbers with hashes, are the same or not

pub same_text : (x y : List ℕ) → (x ≡ y) ⊎ (x ≢ y)
same_text x y = told (bytes_eq x y) refl
  where
    told : (b : Bool) → bytes_eq x y ≡ b → (x ≡ y) ⊎ (x ≢ y)
    told true e = inl ((bytes_eq-Decides x y).0 e)
    told false e = inr (λ p. let t : bytes_eq x y ≡ true = (bytes_eq-Decides x y).1 p in cc)

same_stamp : (s t : Stamp) → (s ≡ t) ⊎ (s ≢ t)
same_stamp s t = elim (eqb_tells s.0 t.0) [
  | inl number ↦ elim (same_text s.1 t.1) [
    | inl hash ↦ inl (λ i. (number.1 i, hash i))
    | inr other ↦ inr (λ e. other (ap (λ (x : Stamp). x.1) e))
  ]
  | inr other ↦ inr (λ e. other.1 (ap (λ (x : Stamp). x.0) e))
]

pub is_among : (xs : List Stamp) (s : Stamp) → Contains xs s ⊎ (Contains xs s → ⊥)
is_among [] s = inr (nothing s)
is_among (x ∷ xs) s = elim (same_stamp x s) [
  | inl is ↦ inl (subst (λ (y : Stamp). Contains (x ∷ xs) y) is (first_member x xs))
  | inr other ↦ elim (is_among xs s) [
    | inl more ↦ inl (later_member x xs s more)
    | inr out ↦ inr (λ c. elim (member_cases x xs s c) [ inl is ↦ other is | inr more ↦ out more ])
  ]
]
