-- Where no two statements are in conflict, a new one is in conflict with some just where it is with one beside its place.
use Rattle.std.proofs.Common.{◌≡◌, ◌≢◌, ℕ, ◌-◌, ◌<◌, ◌≤◌, List, length, get_or, sym, ap, subst, ◌∙◌, inl, inr, ⊎_elim, arith}
use Rattle.std.specs.List.{Contains}
use Rattle.std.specs.declared.cmp.Ordering.TheVariants.{Less, Greater}
use Rattle.std.specs.Ordering.{ordering_reverse}
use Rattle.std.proofs.lemmas.Bool.{cases_lt}
use Rattle.std.proofs.lemmas.List.{get_or_default}
use Rattle.std.proofs.lemmas.List.Elements.{Contains-get_or}
use Rattle.authenticators.specs.declared.authenticator.Authenticator.{Authenticator}
use Rattle.authenticators.specs.StatementSet.{by_fields, IsAscending, NoConflict}
use Rattle.authenticators.proofs.AscendingLists.{below_at}
use Rattle.authenticators.proofs.StatementSets.{below_means, by_fields_total}
use Rattle.node_tables.proofs.Searching.{IsGap}

-- two of one node, one not above the other, of one number
numbers : (a b : Authenticator) → by_fields a b ≡ Less → a.node ≡ b.node → a.seq ≤ b.seq
numbers a b h one = elim (below_means a b h) [ inl lower ↦ absurd (omega (arith, lower, one)) | inr at ↦ at.1 ]

turned : (a b : Authenticator) → by_fields a b ≡ Greater → by_fields b a ≡ Less
turned a b h = by_fields_total.antisymm b a ∙ ap ordering_reverse h

module _ (held : List Authenticator) (a : Authenticator) (i : ℕ) (up : IsAscending held) (gap : IsGap by_fields held a i) (own : (b : Authenticator) → Contains held b → b.node ≡ a.node) where
  -- it agrees with the one before its place, and with the one behind it
  pub record AgreesBeside : Type 0 where
    pub before : (d : Authenticator) → 1 ≤ i → (get_or held (i - 1) d).seq ≡ a.seq → (get_or held (i - 1) d).hash ≡ a.hash
    pub behind : (d : Authenticator) → i < length held → (get_or held i d).seq ≡ a.seq → (get_or held i d).hash ≡ a.hash

  module _ (none : NoConflict held) (agrees : AgreesBeside) where
    in_held : (k : ℕ) → k < length held → Contains held (get_or held k a)
    in_held k inside = Contains-get_or held k a inside

    same_node : (k : ℕ) → k < length held → (get_or held k a).node ≡ a.node
    same_node k inside = own (get_or held k a) (in_held k inside)

    -- two that are held and have one number have one hash
    one_hash : (j k : ℕ) → j < length held → k < length held → (get_or held j a).seq ≡ (get_or held k a).seq → (get_or held j a).hash ≢ (get_or held k a).hash → ⊥
    one_hash j k in_j in_k seq differ = none (get_or held j a) (get_or held k a) (in_held j in_j) (in_held k in_k) (record { one_node = same_node j in_j ∙ sym (same_node k in_k); one_number = seq; two_hashes = differ })

    earlier : (k : ℕ) → k < i → k < length held → (get_or held k a).seq ≡ a.seq → (get_or held k a).hash ≢ a.hash → ⊥
    earlier k lt inside seq differ =
        let p_in : i - 1 < length held = omega (arith, lt, gap.inside) in
        let p_low : (get_or held (i - 1) a).seq ≤ a.seq = numbers (get_or held (i - 1) a) a (gap.before (i - 1) a (omega arith) (omega (arith, lt))) (same_node (i - 1) p_in) in
        elim (cases_lt k (i - 1)) [
          | inl far ↦
              let p_high : (get_or held k a).seq ≤ (get_or held (i - 1) a).seq = numbers (get_or held k a) (get_or held (i - 1) a) (below_at by_fields held k (i - 1) a up far p_in) (same_node k inside ∙ sym (same_node (i - 1) p_in)) in
              let p_seq : (get_or held (i - 1) a).seq ≡ a.seq = omega (arith, p_low, p_high, seq) in
              one_hash k (i - 1) inside p_in (seq ∙ sym p_seq) (λ same. differ (same ∙ agrees.before a (omega (arith, lt)) p_seq))
          | inr near ↦
              let at : k ≡ i - 1 = omega (arith, near, lt) in
              differ (subst (λ n. (get_or held n a).hash ≡ a.hash) (sym at) (agrees.before a (omega (arith, lt)) (subst (λ n. (get_or held n a).seq ≡ a.seq) at seq)))
        ]

    later : (k : ℕ) → i ≤ k → k < length held → (get_or held k a).seq ≡ a.seq → (get_or held k a).hash ≢ a.hash → ⊥
    later k le inside seq differ =
        let n_in : i < length held = omega (arith, le, inside) in
        let n_low : a.seq ≤ (get_or held i a).seq = numbers a (get_or held i a) (turned (get_or held i a) a (gap.behind i a (omega arith) n_in)) (sym (same_node i n_in)) in
        elim (cases_lt i k) [
          | inl far ↦
              let n_high : (get_or held i a).seq ≤ (get_or held k a).seq = numbers (get_or held i a) (get_or held k a) (below_at by_fields held i k a up far inside) (same_node i n_in ∙ sym (same_node k inside)) in
              let n_seq : (get_or held i a).seq ≡ a.seq = omega (arith, n_low, n_high, seq) in
              one_hash k i inside n_in (seq ∙ sym n_seq) (λ same. differ (same ∙ agrees.behind a n_in n_seq))
          | inr near ↦
              let at : k ≡ i = omega (arith, near, le) in
              differ (subst (λ n. (get_or held n a).hash ≡ a.hash) (sym at) (agrees.behind a n_in (subst (λ n. (get_or held n a).seq ≡ a.seq) at seq)))
        ]

    -- so it is in conflict with none that is held
    pub agrees_with_all : (b : Authenticator) → Contains held b → b.seq ≡ a.seq → b.hash ≢ a.hash → ⊥
    agrees_with_all b (k, inside, is) seq differ =
        let s : (get_or held k a).seq ≡ a.seq = ap (λ (x : Authenticator). x.seq) (get_or_default held k a b inside ∙ is) ∙ seq in
        let h : (get_or held k a).hash ≢ a.hash = λ same. differ (sym (ap (λ (x : Authenticator). x.hash) (get_or_default held k a b inside ∙ is)) ∙ same) in
        ⊎_elim (λ lt. earlier k lt inside s h) (λ le. later k le inside s h) (cases_lt k i)
