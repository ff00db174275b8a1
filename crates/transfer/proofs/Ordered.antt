-- Digests in their order, and those of a bucket.
use Rattle.std.proofs.Common.{◌≡◌, ◌==◌, ◌⊎◌, ℕ, zero, suc, ◌+◌, ◌<◌, List, [], ◌∷◌, length, map, Some, slice_get, refl, sym, ap, subst, ◌∙◌, inl, inr, arith}
use Rattle.std.specs.Prelude.{◌↔◌}
use Rattle.std.specs.List.{AllByRecursion, Contains}
use Rattle.std.specs.List.Sorted.{IsStrictlySortedBy}
use Rattle.std.specs.Ordering.{ordering_reverse}
use Rattle.std.specs.declared.cmp.Ordering.{Ordering}
use Rattle.std.specs.declared.cmp.Ordering.TheVariants.{Less, Equal, Greater}
use Rattle.std.proofs.lemmas.Bool.{eq-eqb, eqb-true}
use Rattle.std.proofs.lemmas.Cmp.{nat_list_cmp_total}
use Rattle.std.proofs.lemmas.List.Elements.{Contains-get_or}
use Rattle.std.proofs.lemmas.List.Kept.{IsStrictlySortedBy-filter}
use Rattle.std.proofs.lemmas.Map.Lookups.{exact_bytes}
use Rattle.authenticators.proofs.AscendingLists.{same_elements}
use Rattle.log_chain.specs.Fields.{IsBytesOf}
use Rattle.item_forms.specs.Pieces.{Piece}
use Rattle.item_forms.specs.Spelling.{spelling}
use Rattle.evidence_set.specs.ItemSets.{Items, SetsAreLists, listed}
use Rattle.item_digests.specs.Digests.{digest_of}
use Rattle.transfer.specs.Digests.{AreDigests, DigestsAsExpected, IsDigestIn, bucket, buckets, by_digest, digests_in, first_byte, in_order, numbers, placed, put}
use Rattle.evidence_set.proofs.HashBytes.{whole_hash}
use Rattle.transfer.proofs.Members.{first, here_or_later, keeps, kept, later, none_here}

-- ---- a digest in its place

turned : (x y : List ℕ) → by_digest x y ≡ Greater → by_digest y x ≡ Less
turned x y h = nat_list_cmp_total.antisymm y x ∙ ap ordering_reverse h

-- it is there, with the others and with nothing else
placed_is : (o : Ordering) (d e x : List ℕ) (es more : List (List ℕ)) → by_digest d e ≡ o → (Contains more x → (d ≡ x) ⊎ Contains es x) → Contains (placed o d e es more) x → (d ≡ x) ⊎ Contains (e ∷ es) x
placed_is Less d e x es more is out c = here_or_later d x (e ∷ es) c
placed_is Equal d e x es more is out c = inr c
placed_is Greater d e x es more is out c =
    elim (here_or_later e x more c) [
      | inl same ↦ inr (first e x es same)
      | inr rest ↦ elim (out rest) [ inl same ↦ inl same | inr old ↦ inr (later e x es old) ]
    ]

put_is : (d x : List ℕ) (es : List (List ℕ)) → Contains (put d es) x → (d ≡ x) ⊎ Contains es x
put_is d x [] c = here_or_later d x [] c
put_is d x (e ∷ es) c = placed_is (by_digest d e) d e x es (put d es) refl (put_is d x es) c

placed_has : (o : Ordering) (d e x : List ℕ) (es more : List (List ℕ)) → by_digest d e ≡ o → ((d ≡ x) ⊎ Contains es x → Contains more x) → (d ≡ x) ⊎ Contains (e ∷ es) x → Contains (placed o d e es more) x
placed_has Less d e x es more is into (inl same) = first d x (e ∷ es) same
placed_has Less d e x es more is into (inr old) = later d x (e ∷ es) old
placed_has Equal d e x es more is into (inl same) = first e x es (sym (exact_bytes d e is) ∙ same)
placed_has Equal d e x es more is into (inr old) = old
placed_has Greater d e x es more is into (inl same) = later e x more (into (inl same))
placed_has Greater d e x es more is into (inr old) =
    elim (here_or_later e x es old) [
      | inl same ↦ first e x more same
      | inr rest ↦ later e x more (into (inr rest))
    ]

put_has : (d x : List ℕ) (es : List (List ℕ)) → (d ≡ x) ⊎ Contains es x → Contains (put d es) x
put_has d x [] (inl same) = first d x [] same
put_has d x [] (inr old) = absurd (none_here x old)
put_has d x (e ∷ es) h = placed_has (by_digest d e) d e x es (put d es) refl (put_has d x es) h

-- what holds of it and of the others holds of all
all_placed : (P : List ℕ → Type 0) (o : Ordering) (d e : List ℕ) (es more : List (List ℕ)) → P d → P e × AllByRecursion P es → AllByRecursion P more → AllByRecursion P (placed o d e es more)
all_placed P Less d e es more new old rest = (new, old)
all_placed P Equal d e es more new old rest = old
all_placed P Greater d e es more new old rest = (old.0, rest)

all_put : (P : List ℕ → Type 0) (d : List ℕ) (es : List (List ℕ)) → P d → AllByRecursion P es → AllByRecursion P (put d es)
all_put P d [] new old = (new, tt)
all_put P d (e ∷ es) new old = all_placed P (by_digest d e) d e es (put d es) new old (all_put P d es new old.1)

pub all_above : (x y : List ℕ) (zs : List (List ℕ)) → by_digest x y ≡ Less → AllByRecursion (λ z. by_digest y z ≡ Less) zs → AllByRecursion (λ z. by_digest x z ≡ Less) zs
all_above x y [] less all = tt
all_above x y (z ∷ zs) less all = (nat_list_cmp_total.trans x y z less all.0, all_above x y zs less all.1)

sorted_placed : (o : Ordering) (d e : List ℕ) (es : List (List ℕ)) → by_digest d e ≡ o → IsStrictlySortedBy by_digest (e ∷ es) → IsStrictlySortedBy by_digest (put d es) → IsStrictlySortedBy by_digest (placed o d e es (put d es))
unfolding IsStrictlySortedBy
sorted_placed Less d e es is up rest = ((is, all_above d e es is up.0), up)
sorted_placed Equal d e es is up rest = up
sorted_placed Greater d e es is up rest = (all_put (λ z. by_digest e z ≡ Less) d es (turned d e is) up.0, rest)

sorted_put : (d : List ℕ) (es : List (List ℕ)) → IsStrictlySortedBy by_digest es → IsStrictlySortedBy by_digest (put d es)
unfolding IsStrictlySortedBy
sorted_put d [] up = (tt, tt)
sorted_put d (e ∷ es) up = sorted_placed (by_digest d e) d e es refl up (sorted_put d es up.1)

-- ---- all in order

in_order_is : (x : List ℕ) (ds : List (List ℕ)) → Contains (in_order ds) x → Contains ds x
in_order_is x [] c = c
in_order_is x (d ∷ ds) c = elim (put_is d x (in_order ds) c) [ inl same ↦ first d x ds same | inr old ↦ later d x ds (in_order_is x ds old) ]

in_order_has : (x : List ℕ) (ds : List (List ℕ)) → Contains ds x → Contains (in_order ds) x
in_order_has x [] c = c
in_order_has x (d ∷ ds) c = put_has d x (in_order ds) (elim (here_or_later d x ds c) [ inl same ↦ inl same | inr old ↦ inr (in_order_has x ds old) ])

sorted_in_order : (ds : List (List ℕ)) → IsStrictlySortedBy by_digest (in_order ds)
unfolding IsStrictlySortedBy
sorted_in_order [] = tt
sorted_in_order (d ∷ ds) = sorted_put d (in_order ds) (sorted_in_order ds)

-- a list that ascends and has the same digests is the list in order
pub is_in_order : (digests made : List (List ℕ)) → IsStrictlySortedBy by_digest made → ((d : List ℕ) → Contains made d ↔ Contains digests d) → made ≡ in_order digests
is_in_order digests made up same =
    same_elements by_digest nat_list_cmp_total made (in_order digests) up (sorted_in_order digests)
    (λ d. (λ c. in_order_has d digests ((same d).0 c), λ c. (same d).1 (in_order_is d digests c)))

-- ---- the digests of a set

-- a digest of a list's items is that of one of them
of_one : (xs : List Piece) (d : List ℕ) → Contains (map digest_of xs) d → (x : Piece) × Contains xs x × (digest_of x ≡ d)
of_one [] d c = absurd (none_here d c)
of_one (y ∷ xs) d c = elim (here_or_later (digest_of y) d (map digest_of xs) c) [
  | inl is ↦ (y, first y y xs refl, is)
  | inr more ↦ let o = of_one xs d more in (o.0, later y o.0 xs o.1, o.2)
]

one_of : (xs : List Piece) (x : Piece) → Contains xs x → Contains (map digest_of xs) (digest_of x)
one_of [] x c = absurd (none_here x c)
one_of (y ∷ xs) x c = elim (here_or_later y x xs c) [
  | inl is ↦ first (digest_of y) (digest_of x) (map digest_of xs) (ap digest_of is)
  | inr more ↦ later (digest_of y) (digest_of x) (map digest_of xs) (one_of xs x more)
]

-- ---- numbers of buckets

number_at : (a n i : ℕ) → i < n → slice_get (numbers a n) i ≡ Some (a + i)
number_at a zero i below = absurd (omega (arith, below))
number_at a (suc n) zero below = let here : a ≡ a + 0 = omega arith in ap Some here
number_at a (suc n) (suc i) below = let here : suc a + i ≡ a + suc i = omega arith in number_at (suc a) n i (omega (arith, below)) ∙ ap Some here

length_numbers : (a n : ℕ) → length (numbers a n) ≡ n
length_numbers a zero = refl
length_numbers a (suc n) = ap suc (length_numbers (suc a) n)

pub bucket_at : (b : ℕ) → b < 256 → slice_get buckets b ≡ Some b
unfolding buckets
bucket_at b below = let here : 0 + b ≡ b = omega arith in number_at 0 256 b below ∙ ap Some here

pub count_buckets : length buckets ≡ 256
unfolding buckets
count_buckets = length_numbers 0 256

-- ---- laws

module _ (lists : SetsAreLists) where
  into : (E : Items) (d : List ℕ) → Contains (digests_in E) d → IsDigestIn E d
  unfolding digests_in
  into E d c = let o = of_one (listed E) d (in_order_is d (map digest_of (listed E)) c) in (o.0, (lists.members E o.0).0 o.1, o.2)

  pub back : (E : Items) (d : List ℕ) → IsDigestIn E d → Contains (digests_in E) d
  unfolding digests_in
  back E d (x, has, is) = in_order_has d (map digest_of (listed E)) (subst (Contains (map digest_of (listed E))) is (one_of (listed E) x ((lists.members E x).1 has)))

  ascends : (E : Items) → IsStrictlySortedBy by_digest (digests_in E)
  unfolding digests_in
  ascends E = sorted_in_order (map digest_of (listed E))

  -- what is told of a set's digests has 32 bytes
  whole : (E : Items) (d : List ℕ) → IsDigestIn E d → IsBytesOf 32 d
  whole E d (x, has, is) = subst (IsBytesOf 32) is (whole_hash (spelling x.fields))

  pub are : (E : Items) → AreDigests (digests_in E)
  are E = record { ascending = ascends E; each = λ k d lt. whole E _ (into E _ (Contains-get_or (digests_in E) k d lt)) }

  in_bucket_is : (E : Items) (b : ℕ) (d : List ℕ) → Contains (bucket b E) d → IsDigestIn E d × (first_byte d ≡ b)
  unfolding bucket
  in_bucket_is E b d c = let k = kept (λ (e : List ℕ). first_byte e == b) (digests_in E) d c in (into E d k.0, eqb-true (first_byte d) b k.1)

  in_bucket_has : (E : Items) (b : ℕ) (d : List ℕ) → IsDigestIn E d × (first_byte d ≡ b) → Contains (bucket b E) d
  unfolding bucket
  in_bucket_has E b d h = keeps (λ (e : List ℕ). first_byte e == b) (digests_in E) d (eq-eqb (first_byte d) b h.1) (back E d h.0)

  pub are_in_bucket : (E : Items) (b : ℕ) → AreDigests (bucket b E)
  unfolding bucket
  are_in_bucket E b = record {
    ascending = IsStrictlySortedBy-filter by_digest (λ (e : List ℕ). first_byte e == b) (digests_in E) (ascends E);
    each = λ k d lt. whole E _ ((in_bucket_is E b _ (Contains-get_or (bucket b E) k d lt)).0);
  }

  pub digests_as_expected : DigestsAsExpected
  digests_as_expected = record { are = are; members = λ E d. (into E d, back E d); in_bucket = λ E b d. (in_bucket_is E b d, in_bucket_has E b d) }
