-- What segments quote, as lists beside the items.
use Rattle.std.proofs.Common.{◌≡◌, ◌∙◌, ◌+◌, ◌<◌, ℕ, Bool, true, false, not, ◌||◌, List, [], ◌∷◌, ◌++◌, length, get_or, map, take, append-nil, append_assoc, refl, sym, ap, subst, inl, inr}
use Rattle.std.specs.Prelude.{◌==◌}
use Rattle.std.specs.List.{Contains, filter, filter_map, flat_map, list_any}
use Rattle.std.proofs.lemmas.Bool.{eq-eqb}
use Rattle.std.proofs.lemmas.Grind.{flat_map-append}
use Rattle.std.proofs.lemmas.List.{map-append, take_more}
use Rattle.std.proofs.lemmas.List.Elements.{Contains-append_cases, Contains-append_left, Contains-append_right, filter-append, filter_map-append}
use Rattle.log_chain.specs.declared.entry.Entry.{Entry}
use Rattle.authenticators.specs.declared.authenticator.Authenticator.{Authenticator}
use Rattle.authenticators.specs.Directory.{Listing}
use Rattle.item_forms.specs.declared.forms.Fields.{Fields}
use Rattle.item_forms.specs.declared.forms.Fields.TheVariants as form
use Rattle.item_forms.specs.Pieces.{Piece, same_piece}
use Rattle.evidence_item.specs.Statements.{end_of, statements_of}
use Rattle.evidence_item.specs.Validity.{nodes_of}
use Rattle.evidence_set.specs.Valid.{fields_of}
use Rattle.evidence_set.specs.Held.{Holds, ListsWhatIsHeld, quotes_of, statement_quoted_by}
use Rattle.evidence_set.specs.ItemSets.{Has, SetsAreLists, SetsAsExpected, insert_all, none}
use Rattle.evidence_set.proofs.Members.{first_member, in_flat_map, nothing, of_flat_map, only_member}
use Rattle.localities.specs.Concerning.{ConcernsAsExpected, senders_in}
use Rattle.localities.proofs.Picked.{keeps, kept, mapped, of_mapped, passes_some}
use Rattle.shards.specs.Extracts.{AddsQuotes, IsQuoted}
use Rattle.shards.specs.within.Quotes.{is_elsewhere, quoted_by, quoted_in}

-- ---- going through lists

module _ {X Y : Type 0} (given : List X → List Y) (both : (xs ys : List X) → given (xs ++ ys) ≡ given xs ++ given ys) where
  grown : (xs : List X) (i : ℕ) (x : X) (first before after : List Y) → i < length xs → x ≡ get_or xs i x → before ≡ first ++ given (take i xs) → after ≡ before ++ given (x ∷ []) → after ≡ first ++ given (take (i + 1) xs)
  grown xs i x first before after below is so_far more =
      more
      ∙ ap (λ (ys : List Y). ys ++ given (x ∷ [])) so_far
      ∙ append_assoc first (given (take i xs)) (given (x ∷ []))
      ∙ ap (λ (ys : List Y). first ++ ys) (sym (both (take i xs) (x ∷ [])) ∙ ap given (sym (take_more xs i x below ∙ ap (λ (y : X). take i xs ++ y ∷ []) (sym is))))

module _ (ds : Listing) (deal : ℕ → ℕ) where
  both_quoted : (me : ℕ) (es fs : List Entry) → quoted_by ds deal me (es ++ fs) ≡ quoted_by ds deal me es ++ quoted_by ds deal me fs
  both_quoted me es fs =
      let auth : Authenticator → Fields = λ a. form.Auth a in
      ap (λ (ss : List Authenticator). map auth (filter (is_elsewhere deal me) ss)) (filter_map-append (statement_quoted_by ds me) es fs)
      ∙ ap (map auth) (filter-append (is_elsewhere deal me) (filter_map (statement_quoted_by ds me) es) (filter_map (statement_quoted_by ds me) fs))
      ∙ map-append auth (filter (is_elsewhere deal me) (filter_map (statement_quoted_by ds me) es)) (filter (is_elsewhere deal me) (filter_map (statement_quoted_by ds me) fs))

  pub one_entry_more : (me : ℕ) (es : List Entry) (i : ℕ) (e : Entry) (first before after : List Fields) → i < length es → e ≡ get_or es i e → before ≡ first ++ quoted_by ds deal me (take i es) → after ≡ before ++ quoted_by ds deal me (e ∷ [])
      → after ≡ first ++ quoted_by ds deal me (take (i + 1) es)
  one_entry_more me = grown (quoted_by ds deal me) (both_quoted me)

  abbrev all_quoted : List Piece → List Fields
  all_quoted xs = flat_map (quoted_in ds deal) (fields_of xs)

  both_items : (xs ys : List Piece) → all_quoted (xs ++ ys) ≡ all_quoted xs ++ all_quoted ys
  both_items xs ys = ap (flat_map (quoted_in ds deal)) (map-append (λ (x : Piece). x.fields) xs ys) ∙ flat_map-append (quoted_in ds deal) (fields_of xs) (fields_of ys)

  pub one_item_more : (xs : List Piece) (i : ℕ) (x : Piece) (before after : List Fields) → i < length xs → x ≡ get_or xs i x → before ≡ flat_map (quoted_in ds deal) (fields_of (take i xs)) → after ≡ before ++ quoted_in ds deal x.fields
      → after ≡ flat_map (quoted_in ds deal) (fields_of (take (i + 1) xs))
  one_item_more xs i x before after below is so_far more = grown all_quoted both_items xs i x [] before after below is so_far (more ∙ ap (λ (fs : List Fields). before ++ fs) (sym (append-nil (quoted_in ds deal x.fields))))

-- ---- what is quoted in an item

turned : (b : Bool) → not b ≡ true → (b || false) ≡ false
turned true h = absurd cc
turned false h = refl

turned_back : (b : Bool) → (b || false) ≡ false → not b ≡ true
turned_back true h = absurd cc
turned_back false h = refl

module _ (lists : ListsWhatIsHeld) (concerns : ConcernsAsExpected) (ds : Listing) (deal : ℕ → ℕ) where
  abbrev absent : Fields → Authenticator → Bool
  absent f a = list_any (λ j. deal j == deal a.node) (nodes_of f)

  of_quoted : (f g : Fields) → Contains (quoted_in ds deal f) g → (a : Authenticator) × Holds ds f a × (absent f a ≡ false) × (g ≡ form.Auth a)
  of_quoted (form.Auth b) g c = absurd (nothing g c)
  of_quoted (form.Segment s) g c =
      let quotes = quotes_of ds (form.Segment s) in
      let keep = is_elsewhere deal s.node in
      let m = of_mapped (λ (a : Authenticator). form.Auth a) (filter keep quotes) g c in
      let k = kept keep quotes m.0 m.1 in
      let holds = (lists ds (form.Segment s) m.0).0 (Contains-append_right (statements_of (form.Segment s)) quotes m.0 k.0) in
      (m.0, holds, turned (deal s.node == deal m.0.node) k.1, sym m.2)
  of_quoted (form.Audit d) g c = absurd (nothing g c)
  of_quoted (form.Send m) g c = absurd (nothing g c)
  of_quoted (form.Ack b) g c = absurd (nothing g c)

  -- a node that fields name is of a shard that they name
  present : (ns : List ℕ) (j : ℕ) → Contains ns j → list_any (λ n. deal n == deal j) ns ≡ false → ⊥
  present ns j c out = let found : list_any (λ n. deal n == deal j) ns ≡ true = passes_some (λ (n : ℕ). deal n == deal j) ns j c (eq-eqb (deal j) (deal j) refl) in absurd cc

  named : (f : Fields) (a : Authenticator) → Holds ds f a → Contains (nodes_of f ++ senders_in f) a.node
  named f a holds = concerns.named ds f a.node (inl (record { statement = a; of = refl; stands = holds }))

  in_quoted : (f : Fields) (a : Authenticator) → Holds ds f a → absent f a ≡ false → Contains (quoted_in ds deal f) (form.Auth a)
  in_quoted (form.Auth b) a holds out = absurd (present (b.node ∷ []) a.node (named (form.Auth b) a holds) out)
  in_quoted (form.Segment s) a holds out =
      let quotes = quotes_of ds (form.Segment s) in
      let keep = is_elsewhere deal s.node in
      elim (Contains-append_cases (statements_of (form.Segment s)) quotes a ((lists ds (form.Segment s) a).1 holds)) [
        | inl own ↦
            let same : s.node ≡ a.node = ap (λ (b : Authenticator). b.node) (only_member (end_of s) a own) in
            absurd (present (s.node ∷ []) a.node (subst (Contains (s.node ∷ [])) same (first_member s.node [])) out)
        | inr c ↦ mapped (λ (b : Authenticator). form.Auth b) a (filter keep quotes) (keeps keep quotes a c (turned_back (deal s.node == deal a.node) out))
      ]
  in_quoted (form.Audit d) a holds out = absurd (present (d.node ∷ []) a.node (named (form.Audit d) a holds) out)
  in_quoted (form.Send m) a holds out = absurd (present (m.from ∷ m.to ∷ []) a.node (named (form.Send m) a holds) out)
  in_quoted (form.Ack b) a holds out = absurd (present (b.message.from ∷ b.message.to ∷ []) a.node (named (form.Ack b) a holds) out)

-- ---- sets

module _ (sets : SetsAsExpected) (lists : SetsAreLists) (xs : List Piece) (x : Piece) where
  listed_in : Has (insert_all none xs) x → Contains xs x
  listed_in h = elim ((lists.together none xs x).0 h) [ inl in_none ↦ absurd (sets.none x in_none) | inr c ↦ c ]

  in_set : Contains xs x → Has (insert_all none xs) x
  in_set c = (lists.together none xs x).1 (inr c)

module _ (sets : SetsAsExpected) (lists : SetsAreLists) (held : ListsWhatIsHeld) (concerns : ConcernsAsExpected) (ds : Listing) (deal : ℕ → ℕ) (xs qs : List Piece) (quoted : fields_of qs ≡ flat_map (quoted_in ds deal) (fields_of xs)) where
  abbrev fields : Piece → Fields
  fields p = p.fields

  is_quoted : (x : Piece) → Contains qs x → IsQuoted ds deal (insert_all none xs) x.fields
  is_quoted x c =
      let among : Contains (flat_map (quoted_in ds deal) (fields_of xs)) x.fields = subst (λ (fs : List Fields). Contains fs x.fields) quoted (mapped fields x qs c) in
      let r = of_flat_map (quoted_in ds deal) (fields_of xs) x.fields among in
      let p = of_mapped fields xs r.0 r.1 in
      let q = of_quoted held concerns ds deal p.0.fields x.fields (subst (λ (f : Fields). Contains (quoted_in ds deal f) x.fields) (sym p.2) r.2) in
      record { item = p.0; has = in_set sets lists xs p.0 p.1; statement = q.0; stands = q.1; elsewhere = q.2; is = q.3 }

  quoted_there : (x : Piece) → IsQuoted ds deal (insert_all none xs) x.fields → Contains qs x
  quoted_there x q =
      let item_in = listed_in sets lists xs q.item q.has in
      let one = in_quoted held concerns ds deal q.item.fields q.statement q.stands q.elsewhere in
      let among : Contains (flat_map (quoted_in ds deal) (fields_of xs)) (form.Auth q.statement) = in_flat_map (quoted_in ds deal) (fields_of xs) q.item.fields (form.Auth q.statement) (mapped fields q.item xs item_in) one in
      let p = of_mapped fields qs (form.Auth q.statement) (subst (λ (fs : List Fields). Contains fs (form.Auth q.statement)) (sym quoted) among) in
      subst (Contains qs) (same_piece p.0 x (p.2 ∙ sym q.is)) p.1

  pub adds_quotes : AddsQuotes ds deal (insert_all none xs) (insert_all none (xs ++ qs))
  adds_quotes x = (
    λ h. elim (Contains-append_cases xs qs x (listed_in sets lists (xs ++ qs) x h)) [ inl own ↦ inl (in_set sets lists xs x own) | inr more ↦ inr (is_quoted x more) ],
    λ h. in_set sets lists (xs ++ qs) x (elim h [
      | inl has ↦ Contains-append_left xs qs x (listed_in sets lists xs x has)
      | inr q ↦ Contains-append_right xs qs x (quoted_there x q)
    ]),
  )
