-- What a table has tells whether anything is known of its node.
use Rattle.std.proofs.Common.{◌≡◌, ◌≢◌, ◌⊎◌, ℕ, suc, List, [], ◌∷◌, Option, Some, length, map, refl, sym, ap, subst, ◌∙◌, inl, inr, arith}
use Rattle.std.specs.Prelude.{◌↔◌, Bool, IsTrue}
use Rattle.std.specs.List.{Contains, flat_map}
use Rattle.authenticators.specs.declared.authenticator.Authenticator.{Authenticator}
use Rattle.authenticators.specs.Directory.{Listing}
use Rattle.replay_verifier.specs.Meaning.{Meaning}
use Rattle.replay_verifier.specs.ReplayLaws.{DeviatingListsDoNotConform}
use Rattle.item_forms.specs.Pieces.{Piece}
use Rattle.evidence_item.specs.Checking.{Checked}
use Rattle.evidence_set.specs.Held.{IsHeld}
use Rattle.evidence_set.specs.Indications.{IsUnanswered}
use Rattle.evidence_set.specs.ItemSets.{Items, SomeItem, pieces, set_of}
use Rattle.kept_evidence.specs.Kept.{IsWhole}
use Rattle.kept_evidence.proofs.Added.{told}
use Rattle.kept_evidence.proofs.Bridge.{is_held, set_has}
use Rattle.kept_evidence.proofs.Members.{first, none_here}
use Rattle.localities.specs.Known.{HasStatement, IsKnown, KnownAsExpected}
use Rattle.node_tables.specs.Indexed.{IsTable}
use Rattle.node_tables.specs.Places.{IsOrder}
use Rattle.node_tables.specs.declared.table.Table.{Table}
use Rattle.node_tables.proofs.Meant.{all_held, held_all, open_members, same_set, store}
use Rattle.node_tables.proofs.Places.{contains_at}
use Rattle.node_tables.proofs.Told.{held_says}
use Rattle.indexed_store.proofs.Listed.{open_against}

-- ---- lists with an element, and without

first_of : {A : Type 0} (xs : List A) → xs ≢ [] → (x : A) × Contains xs x
first_of [] some = absurd (some refl)
first_of (x ∷ xs) some = (x, first x xs)

first_named : {A B : Type 0} (f : A → Option B) (rows : List A) (named : List B) → map f rows ≡ map Some named → rows ≢ [] → (b : B) × Contains named b
first_named f [] named is some = absurd (some refl)
first_named f (r ∷ rows) [] is some = let e : suc (length (map f rows)) ≡ 0 = ap length is in absurd (omega (arith, e))
first_named f (r ∷ rows) (b ∷ named) is some = (b, first b named)

none_named : {A : Type 0} (f : A → Option Checked) (places : List A) (named : List Checked) → map f places ≡ map Some named → places ≡ [] → (x : Piece) → Contains (pieces named) x → ⊥
none_named f places [] is none x has = none_here x has
none_named f places (c ∷ named) is none x has =
    let e : 0 ≡ suc (length (map Some named)) = ap length (sym (ap (map f) none) ∙ is) in
    absurd (omega (arith, e))

module _ {S : Type 0} (ds : Listing) (program : Meaning S) (differ : DeviatingListsDoNotConform S) (knows : KnownAsExpected) (items : List Checked) (order : List ℕ) (is : IsOrder items order) (whole : (c : Checked) → Contains items c → IsWhole ds program c) (t : Table) (table : IsTable items t) where
  -- the statements of all items
  abbrev all : List Authenticator
  all = flat_map told is.kept

  -- ---- from the table

  held_known : (a : Authenticator) → Contains table.told.held a → HasStatement ds (set_of items) t.node
  held_known a has =
      let stands = held_all ds program differ items order is whole t table a has in
      let kept = (is_held ds is.kept all t.node a (store ds program differ items order is whole).statements).1 stands in
      (a, subst (λ (E : Items). IsHeld ds E t.node a) (same_set ds program differ items order is whole) kept)

  any_known : (t.rows.items ≢ []) ⊎ (t.unanswered.items ≢ []) → IsKnown ds (set_of items) t.node
  any_known (inl rows) = let (a, has) = first_named _ t.rows.items table.told.held table.told.rows rows in inl (held_known a has)
  any_known (inr some) =
      let (i, has) = first_of t.unanswered.items some in
      let (c, at, against) = open_against items t.node i ((table.unanswered i).0 has) in
      inr (c.item, (set_has items c.item).1 (c, contains_at items i c at, refl), against)

  -- ---- from the set

  held_rows : (a : Authenticator) → IsHeld ds (set_of items) t.node a → t.rows.items ≢ []
  held_rows a h none =
      let kept = subst (λ (E : Items). IsHeld ds E t.node a) (sym (same_set ds program differ items order is whole)) h in
      let stands = (is_held ds is.kept all t.node a (store ds program differ items order is whole).statements).0 kept in
      let has = all_held ds program differ items order is whole t table a stands.0 stands.1 in
      let says = held_says items t.rows.items table.told.held table.told.rows (record { item = 0; position = 0 }) a has in
      none_here says.0 (subst (λ l. Contains l says.0) none says.1)

  open_places : SomeItem (set_of items) (IsUnanswered ds (set_of items) t.node) → t.unanswered.items ≢ []
  open_places (x, has, unanswered) none =
      none_named _ t.unanswered.items table.asked.spelled.named table.asked.spelled.names none x
      ((open_members ds program differ items order is whole t table (pieces table.asked.spelled.named) refl x).1 (has, unanswered))

  known_any : HasStatement ds (set_of items) t.node ⊎ SomeItem (set_of items) (IsUnanswered ds (set_of items) t.node) → (t.rows.items ≢ []) ⊎ (t.unanswered.items ≢ [])
  known_any (inl (a, h)) = inl (held_rows a h)
  known_any (inr some) = inr (open_places some)

  -- What the table has tells it.
  pub any_is_known : (b : Bool) → IsTrue b ↔ ((t.rows.items ≢ []) ⊎ (t.unanswered.items ≢ [])) → IsTrue b ↔ IsKnown ds (set_of items) t.node
  any_is_known b has = (λ h. any_known (has.0 h), λ known. has.1 (known_any ((knows.open_challenges ds (set_of items) t.node).0 known)))
