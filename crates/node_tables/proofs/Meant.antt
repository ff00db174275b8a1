-- What a table tells is what the set of the items says of its node.
use Rattle.std.proofs.Common.{◌≡◌, ◌≢◌, ℕ, zero, true, false, not, length, List, [], ◌∷◌, Option, Some, None, get_or, refl, sym, ap, subst, ◌∙◌, inr, ⊎_elim, arith}
use Rattle.std.specs.Prelude.{◌↔◌, ◌&&◌, ◌<◌, IsTrue, slice_get}
use Rattle.std.specs.List.Sorted.{IsStrictlySortedBy}
use Rattle.std.proofs.lemmas.List.{get_or-map, length-map}
use Rattle.std.proofs.lemmas.List.Elements.{Contains-get_or}
use Rattle.std.proofs.lemmas.Option.{same_Some}
use Rattle.item_forms.specs.Pieces.{Piece, by_bytes}
use Rattle.kept_evidence.proofs.Orders.{bare}
use Rattle.node_tables.proofs.RowLists.{named_by, row_names}
use Rattle.std.specs.List.{Contains, flat_map}
use Rattle.authenticators.specs.Directory.{Listing}
use Rattle.authenticators.specs.declared.authenticator.Authenticator.{Authenticator}
use Rattle.replay_verifier.specs.Meaning.{Meaning}
use Rattle.replay_verifier.specs.ReplayLaws.{DeviatingListsDoNotConform}
use Rattle.item_forms.specs.declared.forms.Fields.{Fields}
use Rattle.evidence_item.specs.CheckingLaws.{ValidItemsAreSigned}
use Rattle.kept_evidence.proofs.Convicted.{denial_convicts, deviation_convicts, held_is_signed, two_convict}
use Rattle.proofs.specs.Cases.{Case}
use Rattle.proofs.specs.Convicting.{Convicts}
use Rattle.item_forms.specs.declared.forms.Fields.TheVariants as form
use Rattle.node_tables.specs.Proving.{AreSigned, IsMade}
use Rattle.evidence_item.specs.Checking.{Checked, is_segment}
use Rattle.evidence_set.specs.declared.indication.Indication.{Indication}
use Rattle.evidence_set.specs.declared.indication.Indication.TheVariants.{Trusted, Suspected, Exposed}
use Rattle.evidence_set.specs.Challenges.{is_against}
use Rattle.evidence_set.specs.Indications.{IsExposed, IsIndication, IsUnanswered}
use Rattle.evidence_set.specs.ItemSets.{Has, Items, SomeItem, pieces, set_of}
use Rattle.evidence_set.proofs.Joins.{least_upper_bounds}
use Rattle.kept_evidence.specs.Kept.{AreKept, IsStore, IsWhole, by_item}
use Rattle.kept_evidence.specs.Telling.{IsKeptOf, IsSegmentOf, IsUnexposed, is_answered, is_unanswered, told_answers}
use Rattle.authenticators.proofs.AscendingLists.{sorted-nil}
use Rattle.kept_evidence.proofs.Added.{pieces_ascend, store_joins, told}
use Rattle.kept_evidence.proofs.Answered.{any_of_part, one_suffices, some_passes}
use Rattle.kept_evidence.proofs.Bridge.{set_has}
use Rattle.kept_evidence.proofs.Exposures.{denial_exposes, deviation_exposes, two_expose, unexposed}
use Rattle.kept_evidence.proofs.Indicated.{AreFound, are_found, suspected_decides, unanswered_decides}
use Rattle.kept_evidence.proofs.Members.{none_here, of_some, some_of}
use Rattle.node_tables.specs.declared.exposure.ExposingPlaces.{ExposingPlaces}
use Rattle.node_tables.specs.declared.exposure.ExposingPlaces.TheVariants as exposure
use Rattle.node_tables.specs.declared.table.Table.{Table}
use Rattle.node_tables.specs.Indexed.{IsSaid, IsTable, Tells}
use Rattle.node_tables.specs.Places.{IsOrder}
use Rattle.node_tables.specs.Rows.{stated_by}
use Rattle.node_tables.specs.Tables.{IsQuiet, IsUpToDate, ShowsAt, HasSpanAt, denied_by, denies_at, deviates_at, deviating}
use Rattle.node_tables.proofs.Joined.{kept_items, kept_of}
use Rattle.node_tables.proofs.Places.{at_contains, contains_at}
use Rattle.node_tables.proofs.Stated.{has_position, stands}
use Rattle.node_tables.proofs.Told.{held_says, says_held}

-- Lists with the same items make one set.
pub one_set : (xs ys : List Checked) → ((c : Checked) → Contains xs c → Contains ys c) → ((c : Checked) → Contains ys c → Contains xs c) → set_of xs ≡ set_of ys
one_set xs ys into back = least_upper_bounds.one (set_of xs) (set_of ys)
    (λ x has. let k = (set_has xs x).0 has in (set_has ys x).1 (k.0, into k.0 k.1, k.2))
    (λ x has. let k = (set_has ys x).0 has in (set_has xs x).1 (k.0, back k.0 k.1, k.2))

module _ {S : Type 0} (ds : Listing) (program : Meaning S) (differ : DeviatingListsDoNotConform S) (items : List Checked) (order : List ℕ) (is : IsOrder items order) (whole : (c : Checked) → Contains items c → IsWhole ds program c) where
  abbrev kept : List Checked
  kept = is.kept

  abbrev all : List Authenticator
  all = flat_map told is.kept

  -- the set of the items in their order is that of the items
  pub same_set : set_of is.kept ≡ set_of items
  same_set = one_set is.kept items (kept_items items order is) is.covers

  kept_all : AreKept ds program is.kept
  kept_all = kept_of ds program items order is whole

  pub found : AreFound ds is.kept
  found = are_found ds program is.kept kept_all

  -- their statements
  pub store : IsStore ds program is.kept all
  store = store_joins ds program [] is.kept is.kept
      (λ c. (λ has. inr has, λ h. ⊎_elim (λ old. absurd (none_here c old)) (λ has. has) h))
      kept_all
      []
      all
      (record { items = record { ascending = sorted-nil by_item; whole = λ c has. absurd (none_here c has) }; statements = λ a. (λ has. absurd (none_here a has), λ s. absurd (none_here s.0 s.1)) })
      is.ascending
      (λ a. (λ has. inr has, λ h. ⊎_elim (λ old. absurd (none_here a old)) (λ has. has) h))

  some_by : (o : Option Checked) (k : ℕ) (a : Authenticator) → stated_by o k ≡ Some a → (c : Checked) × (o ≡ Some c)
  some_by None k a h = absurd cc
  some_by (Some c) k a h = (c, refl)

  pub said_all : (a : Authenticator) → IsSaid items a → Contains all a
  said_all a (n, k, h) =
      let (c, at) = some_by (slice_get items n) k a h in
      some_of told is.kept a c (is.covers c (contains_at items n c at)) (stands c.item.fields c.findings k a (sym (ap (λ (o : Option Checked). stated_by o k) at) ∙ h))

  all_said : (a : Authenticator) → Contains all a → IsSaid items a
  all_said a has =
      let (c, in_kept, in_c) = of_some told is.kept a has in
      let (n, at) = at_contains items c (kept_items items order is c in_kept) in
      let (k, h) = has_position c.item.fields c.findings a in_c in
      (n, k, ap (λ (o : Option Checked). stated_by o k) at ∙ h)

  -- Each statement is signed.
  pub signed_all : ValidItemsAreSigned → AreSigned ds items
  signed_all signed r a h = held_is_signed ds signed program is.kept all store a (said_all a (r.item, r.position, h))

  module _ (t : Table) (table : IsTable items t) where
    pub held_all : (a : Authenticator) → Contains table.told.held a → Contains all a × (a.node ≡ t.node)
    held_all a has =
        let s = (table.says a).0 (held_says items t.rows.items table.told.held table.told.rows (record { item = 0; position = 0 }) a has) in
        (said_all a s.0, s.1)

    pub all_held : (a : Authenticator) → Contains all a → a.node ≡ t.node → Contains table.told.held a
    all_held a has of = says_held items t.rows.items table.told.held table.told.rows a ((table.says a).1 (all_said a has, of))

    pub segment_of : (c : Checked) → IsKeptOf t.node is.kept c → (i : ℕ) × (slice_get items i ≡ Some c) × HasSpanAt t.spans.items i
    segment_of c k =
        let (i, at) = at_contains items c (kept_items items order is c k.contains) in
        (i, at, (table.stands i).1 (c, at, k.segment))

    pub kept_segment : (i : ℕ) → HasSpanAt t.spans.items i → (c : Checked) × (slice_get items i ≡ Some c) × IsKeptOf t.node is.kept c
    kept_segment i h =
        let (c, at, of) = (table.stands i).0 h in
        (c, at, record { contains = is.covers c (contains_at items i c at); segment = of })

    -- Where nothing is kept that exposes the node, nothing does.
    pub quiet_means : IsQuiet items table.told.held t.spans.items → IsUnexposed t.node all is.kept
    quiet_means quiet = record {
      one_hash = λ a b in_a in_b of clash. quiet.one_hash a b (all_held a in_a of) (all_held b in_b (sym clash.one_node ∙ of)) clash;
      undenied = λ c k a has of.
          let (i, at, (p, in_p, here)) = segment_of c k in
          sym (ap (λ (o : Option Checked). denied_by o a) at) ∙ subst (λ m. denies_at items a m ≡ false) here (quiet.undenied a p (all_held a has of) in_p);
      conforming = λ c k.
          let (i, at, (p, in_p, here)) = segment_of c k in
          sym (ap deviating at) ∙ subst (λ m. deviates_at items m ≡ false) here (quiet.conforming p in_p);
    }

    pub unexposed_by : t.exposure ≡ None → IsExposed ds program (set_of items) t.node → ⊥
    unexposed_by none exposed =
        let quiet = subst (IsUpToDate items table.told.held t.spans.items) none table.told.told in
        unexposed ds program differ is.kept all t.node store (quiet_means quiet) (subst (λ (E : Items). IsExposed ds program E t.node) (sym same_set) exposed)

    -- What is kept exposes it.
    pub shows : (e : ExposingPlaces) → ShowsAt items table.told.held t.spans.items e → IsExposed ds program (set_of is.kept) t.node
    shows (exposure.TwoHashes r q) (a, b, one, other, clash) =
        two_expose ds program differ is.kept all t.node store a b (record { one = (held_all a one.1).0; other = (held_all b other.1).0; of = (held_all a one.1).1; conflict = clash })
    shows (exposure.Denied r i) (a, one, stands_i, h) =
        let (c, at, k) = kept_segment i stands_i in
        denial_exposes ds program differ is.kept all t.node store a c (record { statement = (held_all a one.1).0; of = (held_all a one.1).1; segment = k; contradicts = sym (ap (λ (o : Option Checked). denied_by o a) at) ∙ h })
    shows (exposure.Deviates i) (stands_i, h) =
        let (c, at, k) = kept_segment i stands_i in
        deviation_exposes ds program differ is.kept all t.node store c (record { segment = k; verdict = sym (ap deviating at) ∙ h })

    pub exposed_by : (e : ExposingPlaces) → t.exposure ≡ Some e → IsExposed ds program (set_of items) t.node
    exposed_by e some = subst (λ (E : Items). IsExposed ds program E t.node) same_set (shows e (subst (IsUpToDate items table.told.held t.spans.items) some table.told.told))

    -- A proof of it convicts the node.
    segment_is : (j : ℕ) (x : Fields) → IsSegmentOf j x → IsTrue (is_segment x)
    segment_is j (form.Auth a) h = absurd h
    segment_is j (form.Segment s) h = refl
    segment_is j (form.Audit c) h = absurd h
    segment_is j (form.Send m) h = absurd h
    segment_is j (form.Ack a) h = absurd h

    made_by : (signed : ValidItemsAreSigned) (e : ExposingPlaces) → ShowsAt items table.told.held t.spans.items e → (o : Option Case) → IsMade items e o → (p : Case) × (o ≡ Some p) × Convicts ds program t.node p.parts
    made_by signed (exposure.TwoHashes r q) (a, b, one, other, clash) o made =
        let (p, some, parts) = made a b one.0 other.0 in
        (p, some, two_convict ds program t.node differ signed is.kept all store p.parts a b parts (record { one = (held_all a one.1).0; other = (held_all b other.1).0; of = (held_all a one.1).1; conflict = clash }))
    made_by signed (exposure.Denied r i) (a, one, stands_i, h) o made =
        let (c, at, k) = kept_segment i stands_i in
        let (p, some, parts) = made a c one.0 at (segment_is t.node c.item.fields k.segment) in
        (p, some, denial_convicts ds program t.node differ signed is.kept all store p.parts a c parts (record { statement = (held_all a one.1).0; of = (held_all a one.1).1; segment = k; contradicts = sym (ap (λ (u : Option Checked). denied_by u a) at) ∙ h }))
    made_by signed (exposure.Deviates i) (stands_i, h) o made =
        let (c, at, k) = kept_segment i stands_i in
        let (p, some, parts) = made c at (segment_is t.node c.item.fields k.segment) in
        (p, some, deviation_convicts ds program t.node differ signed is.kept all store p.parts c parts (record { segment = k; verdict = sym (ap deviating at) ∙ h }))

    pub made_convicts : (signed : ValidItemsAreSigned) (e : ExposingPlaces) → t.exposure ≡ Some e → (o : Option Case) → IsMade items e o → (p : Case) × (o ≡ Some p) × Convicts ds program t.node p.parts
    made_convicts signed e some o made = made_by signed e (subst (IsUpToDate items table.told.held t.spans.items) some table.told.told) o made

    -- ---- challenges

    pub answered_same : (y : Fields) → is_answered is.kept y ≡ is_answered items y
    answered_same y = any_of_part (told_answers y) items is.kept (λ c has. kept_items items order is c has) (λ c has h. is.covers c has)

    pub open_same : (y : Fields) → is_unanswered is.kept t.node y ≡ is_unanswered items t.node y
    open_same y = ap (λ b. is_against t.node y && not b) (answered_same y)

    some_open : (i : ℕ) → Contains t.unanswered.items i → SomeItem (set_of is.kept) (IsUnanswered ds (set_of is.kept) t.node)
    some_open i has =
        let (c, at, h) = (table.unanswered i).0 has in
        (suspected_decides ds is.kept t.node found).0 (one_suffices (λ (k : Checked). is_unanswered is.kept t.node k.item.fields) is.kept c (is.covers c (contains_at items i c at)) (open_same c.item.fields ∙ h))

    open_some : SomeItem (set_of is.kept) (IsUnanswered ds (set_of is.kept) t.node) → (i : ℕ) × Contains t.unanswered.items i
    open_some some =
        let one = some_passes (λ (k : Checked). is_unanswered is.kept t.node k.item.fields) is.kept ((suspected_decides ds is.kept t.node found).1 some) in
        let (i, at) = at_contains items one.0 (kept_items items order is one.0 one.1) in
        (i, (table.unanswered i).1 (one.0, at, sym (open_same one.0.item.fields) ∙ one.2))

    abbrev IsSuspected : Items → Type 0
    IsSuspected E = SomeItem E (IsUnanswered ds E t.node)

    first_of : (xs : List ℕ) → xs ≢ [] → (i : ℕ) × Contains xs i
    first_of [] some = absurd (some refl)
    first_of (x ∷ xs) some = (x, (zero, omega arith, refl))

    none_in : (xs : List ℕ) (i : ℕ) → xs ≡ [] → Contains xs i → ⊥
    none_in xs i none has = let h = subst (λ (l : List ℕ). Contains l i) none has in absurd (omega (arith, h.1))

    -- What the table tells is the indication of its node.
    pub tells_is : (r : Indication) → Tells t r → IsIndication ds program (set_of items) t.node r
    tells_is Exposed (e, some) = exposed_by e some
    tells_is Suspected (none, some) = (unexposed_by none, let (i, has) = first_of t.unanswered.items some in subst IsSuspected same_set (some_open i has))
    tells_is Trusted (none, empty) = (unexposed_by none, λ some. let (i, has) = open_some (subst IsSuspected (sym same_set) some) in none_in t.unanswered.items i empty has)

    -- ---- the list of them

    abbrev IsOpen : Piece → Type 0
    IsOpen x = Has (set_of items) x × IsUnanswered ds (set_of items) t.node x.fields

    named_open : (c : Checked) → Contains table.asked.spelled.named c → IsOpen c.item
    named_open c has =
        let (i, in_places, at) = named_by (slice_get items) t.unanswered.items table.asked.spelled.named c table.asked.spelled.names has 0 in
        let (d, there, h) = (table.unanswered i).0 in_places in
        let same : d ≡ c = same_Some d c (sym there ∙ at) in
        let is_open : is_unanswered is.kept t.node c.item.fields ≡ true = open_same c.item.fields ∙ subst (λ (k : Checked). is_unanswered items t.node k.item.fields ≡ true) same h in (
          (set_has items c.item).1 (c, contains_at items i c at, refl),
          subst (λ (E : Items). IsUnanswered ds E t.node c.item.fields) same_set ((unanswered_decides ds is.kept t.node c.item.fields found).0 is_open),
        )

    open_named : (x : Piece) → IsOpen x → (c : Checked) × Contains table.asked.spelled.named c × (c.item ≡ x)
    open_named x (has, unanswered) =
        let (c, in_items, is_x) = (set_has items x).0 has in
        let (i, at) = at_contains items c in_items in
        let h : is_unanswered is.kept t.node x.fields ≡ true = (unanswered_decides ds is.kept t.node x.fields found).1 (subst (λ (E : Items). IsUnanswered ds E t.node x.fields) (sym same_set) unanswered) in
        let open_c : is_unanswered items t.node c.item.fields ≡ true = sym (open_same c.item.fields) ∙ ap (λ (y : Piece). is_unanswered is.kept t.node y.fields) is_x ∙ h in
        (c, row_names (slice_get items) t.unanswered.items table.asked.spelled.named i c table.asked.spelled.names ((table.unanswered i).1 (c, at, open_c)) at, is_x)

    in_pieces : (xs : List Checked) (c : Checked) → Contains xs c → Contains (pieces xs) c.item
    in_pieces xs c (k, inside, is_c) = (k, omega (arith, inside, length-map xs (λ (d : Checked). d.item)), get_or-map (λ (d : Checked). d.item) xs k c c.item inside ∙ ap (λ (d : Checked). d.item) is_c)

    of_pieces : (xs : List Checked) (x : Piece) → Contains (pieces xs) x → (c : Checked) × Contains xs c × (c.item ≡ x)
    of_pieces xs x (k, inside, is_x) =
        let within : k < length xs = omega (arith, inside, length-map xs (λ (d : Checked). d.item)) in
        let c = get_or xs k (bare x) in
        (c, Contains-get_or xs k (bare x) within, sym (get_or-map (λ (d : Checked). d.item) xs k (bare x) x within) ∙ is_x)

    -- The challenges that stand in the table, in its order, are those that no item of the set answers.
    pub open_members : (listed : List Piece) → listed ≡ pieces table.asked.spelled.named → (x : Piece) → Contains listed x ↔ IsOpen x
    open_members listed is_listed x = subst (λ (l : List Piece). Contains l x ↔ IsOpen x) (sym is_listed) (
      λ has. let (c, in_named, is_x) = of_pieces table.asked.spelled.named x has in subst IsOpen is_x (named_open c in_named),
      λ opens. let (c, in_named, is_x) = open_named x opens in subst (Contains (pieces table.asked.spelled.named)) is_x (in_pieces table.asked.spelled.named c in_named),
    )

    -- They ascend.
    pub open_ascend : (listed : List Piece) → listed ≡ pieces table.asked.spelled.named → IsStrictlySortedBy by_bytes listed
    open_ascend listed is_listed = subst (IsStrictlySortedBy by_bytes) (sym is_listed) (pieces_ascend table.asked.spelled.named table.asked.spelled.ascending)
