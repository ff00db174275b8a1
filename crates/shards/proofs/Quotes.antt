-- Shards of a set that has what is quoted beside its items.
use Rattle.std.proofs.Common.{◌≡◌, ◌⊎◌, ◌<◌, ℕ, zero, suc, Bool, true, false, [], ◌∷◌, refl, sym, ap, subst, ◌∙◌, inl, inr, arith}
use Rattle.std.specs.Prelude.{◌==◌, IsTrue}
use Rattle.std.specs.List.{Contains}
use Rattle.std.proofs.lemmas.Bool.{cases_lt, eq-eqb, eqb-true}
use Rattle.authenticators.specs.declared.authenticator.Authenticator.{Authenticator}
use Rattle.authenticators.specs.Directory.{Listing}
use Rattle.authenticators.specs.Statement.{KeysSign}
use Rattle.replay_verifier.specs.Quotes.{ReceiptsHaveOneText}
use Rattle.item_forms.specs.declared.forms.Fields.{Fields}
use Rattle.item_forms.specs.declared.forms.Fields.TheVariants as form
use Rattle.item_forms.specs.Pieces.{Piece}
use Rattle.evidence_item.specs.Validity.{IsValid, nodes_of}
use Rattle.evidence_set.specs.Valid.{AreValid}
use Rattle.evidence_set.specs.Held.{HeldStatementsAreSigned, IsHeld}
use Rattle.evidence_set.specs.ItemSets.{Items, Has, IsWithin, Join, JoinsAreLeastUpperBounds, JoinsAsExpected, SetsAsExpected}
use Rattle.evidence_set.proofs.Members.{first_member, later_member, only_member}
use Rattle.localities.specs.Concerning.{Concerns}
use Rattle.localities.specs.Extracts.{ExtractsIndicate, IsCopyOf, IsExtract, IsSaid, is_own}
use Rattle.localities.specs.Parts.{PartsAsExpected}
use Rattle.localities.proofs.Picked.{passes_some}
use Rattle.shards.specs.Extracts.{AddsQuotes, IsQuoted, QuotesAsExpected, QuotesIndicate, is_own_shard, own_shard, own_shards_joined}
use Rattle.shards.proofs.StatementFits.{held_fits}

-- ---- the nodes that fields name

-- each item names some node, and its own
some_named : (x : Fields) → (j : ℕ) × Contains (nodes_of x) j
some_named (form.Auth a) = (a.node, first_member a.node [])
some_named (form.Segment s) = (s.node, first_member s.node [])
some_named (form.Audit c) = (c.node, first_member c.node [])
some_named (form.Send m) = (m.from, first_member m.from (m.to ∷ []))
some_named (form.Ack a) = (a.message.from, first_member a.message.from (a.message.to ∷ []))

second_named : (from to j : ℕ) → IsTrue (to == j) → Contains (from ∷ to ∷ []) j
second_named from to j h = subst (Contains (from ∷ to ∷ [])) (eqb-true to j h) (later_member from (to ∷ []) to (first_member to []))

own_named : (x : Fields) (j : ℕ) → IsTrue (is_own j x) → Contains (nodes_of x) j
own_named (form.Auth a) j h = absurd cc
own_named (form.Segment s) j h = subst (Contains (s.node ∷ [])) (eqb-true s.node j h) (first_member s.node [])
own_named (form.Audit c) j h = subst (Contains (c.node ∷ [])) (eqb-true c.node j h) (first_member c.node [])
own_named (form.Send m) j h = second_named m.from m.to j h
own_named (form.Ack a) j h = second_named a.message.from a.message.to j h

-- an item is in the shard of each node that its fields name
in_own : (deal : ℕ → ℕ) (j : ℕ) (x : Piece) → Contains (nodes_of x.fields) j → IsTrue (is_own_shard deal (deal j) x)
in_own deal j x c = passes_some (λ (n : ℕ). deal n == deal j) (nodes_of x.fields) j c (eq-eqb (deal j) (deal j) refl)

-- ---- extracts

-- a statement that concerns a node is of it
of_node : (ds : Listing) (j : ℕ) (x : Fields) (a : Authenticator) → x ≡ form.Auth a → Concerns ds x j → a.node ≡ j
of_node ds j x a is c = said (subst (λ (f : Fields). Concerns ds f j) is c)
  where
    said : Concerns ds (form.Auth a) j → a.node ≡ j
    said (inl t) = ap (λ (b : Authenticator). b.node) (only_member a t.statement t.stands) ∙ t.of
    said (inr against) = absurd cc

module _ (parts : PartsAsExpected) (receipts : ReceiptsHaveOneText) (keys : KeysSign) (ds : Listing) (deal : ℕ → ℕ) (E X : Items) (adds : AddsQuotes ds deal E X) (j : ℕ) where
  in_shard : (x : Piece) → Has X x → Contains (nodes_of x.fields) j → Has (own_shard deal (deal j) X) x
  in_shard x has c = (parts.members (is_own_shard deal (deal j)) X x).1 (has, in_own deal j x c)

  sound : (x : Piece) → Concerns ds x.fields j → Has E x ⊎ IsQuoted ds deal E x.fields → Has E x ⊎ IsCopyOf ds E j x.fields
  sound x c (inl has) = inl has
  sound x c (inr q) = inr (record { statement = q.statement; held = record { of = of_node ds j x.fields q.statement q.is c; stands = (q.item, q.has, q.stands) }; is = q.is })

  -- a statement that stands in an item that is not in the shard is quoted
  said_by : (a : Authenticator) (h : IsHeld ds E j a) (b : Bool) → is_own_shard deal (deal a.node) h.stands.0 ≡ b → IsSaid ds (own_shard deal (deal j) X) j a
  said_by a h true own =
      let x = h.stands.0 in
      let there : IsTrue (is_own_shard deal (deal j) x) = subst (λ (n : ℕ). IsTrue (is_own_shard deal (deal n) x)) h.of own in
      let has : Has (own_shard deal (deal j) X) x = (parts.members (is_own_shard deal (deal j)) X x).1 ((adds x).1 (inl h.stands.1), there) in
      record { statement = a; held = record { of = h.of; stands = (x, has, h.stands.2) }; number = refl; hash = refl }
  said_by a h false other =
      let x = h.stands.0 in
      let p : Piece = record { fields = form.Auth a; fits = held_fits receipts keys ds x.fields a x.fits h.stands.2 } in
      let has : Has X p = (adds p).1 (inr (record { item = x; has = h.stands.1; statement = a; stands = h.stands.2; elsewhere = other; is = refl })) in
      let there : Has (own_shard deal (deal j) X) p = in_shard p has (subst (Contains (a.node ∷ [])) h.of (first_member a.node [])) in
      record { statement = a; held = record { of = h.of; stands = (p, there, first_member a []) }; number = refl; hash = refl }

  extract : IsExtract ds j E (own_shard deal (deal j) X)
  extract = record {
    sound = λ x has c. sound x c ((adds x).0 ((parts.members (is_own_shard deal (deal j)) X x).0 has).0);
    own = λ x has own. in_shard x ((adds x).1 (inl has)) (own_named x.fields j own);
    said = λ a h. said_by a h (is_own_shard deal (deal a.node) h.stands.0) refl;
  }

-- ---- joins

module _ (joins : JoinsAsExpected) (ds : Listing) (deal : ℕ → ℕ) (E F X Y : Items) (one : AddsQuotes ds deal E X) (other : AddsQuotes ds deal F Y) where
  more : (A B : Items) → IsWithin A B → (x : Fields) → IsQuoted ds deal A x → IsQuoted ds deal B x
  more A B within x q = record { item = q.item; has = within q.item q.has; statement = q.statement; stands = q.stands; elsewhere = q.elsewhere; is = q.is }

  left : IsWithin E (Join E F)
  left x h = (joins.members E F x).1 (inl h)

  right : IsWithin F (Join E F)
  right x h = (joins.members E F x).1 (inr h)

  of_left : (x : Piece) → Has E x ⊎ IsQuoted ds deal E x.fields → Has (Join E F) x ⊎ IsQuoted ds deal (Join E F) x.fields
  of_left x (inl has) = inl (left x has)
  of_left x (inr q) = inr (more E (Join E F) left x.fields q)

  of_right : (x : Piece) → Has F x ⊎ IsQuoted ds deal F x.fields → Has (Join E F) x ⊎ IsQuoted ds deal (Join E F) x.fields
  of_right x (inl has) = inl (right x has)
  of_right x (inr q) = inr (more F (Join E F) right x.fields q)

  to_join : (x : Piece) → Has (Join X Y) x → Has (Join E F) x ⊎ IsQuoted ds deal (Join E F) x.fields
  to_join x h = elim ((joins.members X Y x).0 h) [ inl a ↦ of_left x ((one x).0 a) | inr b ↦ of_right x ((other x).0 b) ]

  quoted_again : (x : Piece) → (q : IsQuoted ds deal (Join E F) x.fields) → Has E q.item ⊎ Has F q.item → Has (Join X Y) x
  quoted_again x q (inl a) = (joins.members X Y x).1 (inl ((one x).1 (inr (record { item = q.item; has = a; statement = q.statement; stands = q.stands; elsewhere = q.elsewhere; is = q.is }))))
  quoted_again x q (inr b) = (joins.members X Y x).1 (inr ((other x).1 (inr (record { item = q.item; has = b; statement = q.statement; stands = q.stands; elsewhere = q.elsewhere; is = q.is }))))

  from_join : (x : Piece) → Has (Join E F) x ⊎ IsQuoted ds deal (Join E F) x.fields → Has (Join X Y) x
  from_join x (inl h) = elim ((joins.members E F x).0 h) [
    | inl a ↦ (joins.members X Y x).1 (inl ((one x).1 (inl a)))
    | inr b ↦ (joins.members X Y x).1 (inr ((other x).1 (inl b)))
  ]
  from_join x (inr q) = quoted_again x q ((joins.members E F q.item).0 q.has)

-- ---- shards joined

module _ (parts : PartsAsExpected) (joins : JoinsAsExpected) (bounds : JoinsAreLeastUpperBounds) (sets : SetsAsExpected) (deal : ℕ → ℕ) (X : Items) where
  no_more : (n : ℕ) → IsWithin (own_shards_joined deal n X) X
  no_more zero x h = absurd (sets.none x h)
  no_more (suc n) x h = elim ((joins.members (own_shards_joined deal n X) (own_shard deal n X) x).0 h) [
    | inl before ↦ no_more n x before
    | inr here ↦ parts.within (is_own_shard deal n) X x here
  ]

  of_one : (n k : ℕ) → k < n → IsWithin (own_shard deal k X) (own_shards_joined deal n X)
  of_one zero k below x h = absurd (omega arith)
  of_one (suc n) k below x h = elim (cases_lt k n) [
    | inl before ↦ (joins.members (own_shards_joined deal n X) (own_shard deal n X) x).1 (inl (of_one n k before x h))
    | inr over ↦
        let last : k ≡ n = omega arith in
        (joins.members (own_shards_joined deal n X) (own_shard deal n X) x).1 (inr (subst (λ (m : ℕ). Has (own_shard deal m X) x) last h))
  ]

  all_there : (n : ℕ) → ((j : ℕ) → deal j < n) → IsWithin X (own_shards_joined deal n X)
  all_there n below x h =
      let s = some_named x.fields in
      of_one n (deal s.0) (below s.0) x ((parts.members (is_own_shard deal (deal s.0)) X x).1 (h, in_own deal s.0 x s.1))

  whole : (n : ℕ) → ((j : ℕ) → deal j < n) → own_shards_joined deal n X ≡ X
  whole n below = bounds.one (own_shards_joined deal n X) X (no_more n) (all_there n below)

-- ---- valid sets

valid_by : (ds : Listing) (deal : ℕ → ℕ) (E : Items) → HeldStatementsAreSigned → AreValid ds E → (x : Piece) → Has E x ⊎ IsQuoted ds deal E x.fields → IsValid ds x.fields
valid_by ds deal E signed valid x (inl has) = valid x has
valid_by ds deal E signed valid x (inr q) = subst (IsValid ds) (sym q.is) (signed ds q.item.fields q.statement (valid q.item q.has) q.stands)

pub as_expected : PartsAsExpected → SetsAsExpected → JoinsAsExpected → JoinsAreLeastUpperBounds → HeldStatementsAreSigned → ReceiptsHaveOneText → KeysSign → QuotesAsExpected
as_expected parts sets joins bounds signed receipts keys = record {
  extract = λ ds deal E X j adds. extract parts receipts keys ds deal E X adds j;
  one = λ ds deal E X Y x_adds y_adds. bounds.one X Y (λ x h. (y_adds x).1 ((x_adds x).0 h)) (λ x h. (x_adds x).1 ((y_adds x).0 h));
  join = λ ds deal E F X Y one other x. (to_join joins ds deal E F X Y one other x, from_join joins ds deal E F X Y one other x);
  valid = λ ds deal E X adds valid x h. valid_by ds deal E signed valid x ((adds x).0 h);
  whole = λ deal n X below. whole parts joins bounds sets deal X n below;
}

pub indicate : {S : Type 0} → QuotesAsExpected → ExtractsIndicate S → QuotesIndicate S
indicate quotes extracts = record {
  indication = λ ds program deal E X j adds i. extracts.indication ds program j E (own_shard deal (deal j) X) (quotes.extract ds deal E X j adds) i;
  exposed = λ ds program deal E X j adds. extracts.exposed ds program j E (own_shard deal (deal j) X) (quotes.extract ds deal E X j adds);
}
