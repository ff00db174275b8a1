-- Statements of one number contradict the same, where nothing exposes their node.
use Rattle.std.proofs.Common.{◌≡◌, ◌≢◌, ℕ, ◌<◌, ◌≤◌, Bool, true, false, List, [], ◌∷◌, length, get_or, Option, Some, None, refl, sym, ap, subst, ◌∙◌, ⊎_elim, arith}
use Rattle.std.specs.Prelude.{nat_le}
use Rattle.std.specs.List.{AllWithin, Contains}
use Rattle.std.specs.List.Sorted.{IsPartitionPoint}
use Rattle.std.specs.Str.{bytes_eq}
use Rattle.std.proofs.lemmas.Bool.{cases_lt}
use Rattle.std.proofs.lemmas.Bool.Decides.{nat_tests}
use Rattle.std.proofs.lemmas.List.Elements.{Contains-get_or}
use Rattle.std.proofs.lemmas.Option.{same_Some}
use Rattle.std.proofs.lemmas.Slice.Eq.{bytes_eq-Decides}
use Rattle.authenticators.specs.declared.authenticator.Authenticator.{Authenticator}
use Rattle.evidence_item.specs.Checking.{Checked}
use Rattle.item_forms.specs.declared.forms.Fields.{Fields}
use Rattle.node_tables.specs.declared.row.Row.{Row}
use Rattle.node_tables.specs.declared.table.Table.{Table}
use Rattle.node_tables.specs.Rows.{stated_at}
use Rattle.node_tables.specs.Tables.{IsQuiet, IsTold, IsUpToDate}
use Rattle.node_tables.specs.within.Bringing.{AreAlike, denied_by_row, number_by, up_to_by}
use Rattle.node_tables.proofs.Again.{denies_alike}
use Rattle.node_tables.proofs.Between.{rise}
use Rattle.node_tables.proofs.RowLists.{named_at, same_length}

module _ (items : List Checked) (t : Table) where
  abbrev rows : List Row
  rows = t.rows.items

  number_of : (o : Option Authenticator) (n : ℕ) → number_by o ≡ Some n → (a : Authenticator) × (o ≡ Some a) × (a.seq ≡ n)
  number_of None n h = absurd cc
  number_of (Some a) n h = (a, refl, same_Some a.seq n h)

  not_up_to : (m n : ℕ) → m ≡ n → nat_le m n ≡ false → ⊥
  not_up_to m n e h = grind (arith, nat_tests)

  up_to : (m n : ℕ) → nat_le m n ≡ true → m ≤ n
  up_to m n h = grind (arith, nat_tests)

  module _ (place end : ℕ) (inside : place < end) (most : end ≤ length rows) where
    pub before_edge : (n e : ℕ) → ((d : Row) → place < length rows → number_by (stated_at items (get_or rows place d)) ≡ Some n)
        → IsPartitionPoint (λ (r : Row). up_to_by (stated_at items r) n ≡ true) (λ (r : Row). up_to_by (stated_at items r) n ≡ false) rows e → place < e
    before_edge n e has edge = ⊎_elim
        (λ lt. lt)
        (λ le.
        let d : Row = record { item = 0; position = 0 } in
        let here : place < length rows = omega (arith, inside, most) in
        let a = number_of (stated_at items (get_or rows place d)) n (has d here) in
        let above = edge.1 place d le here in
        absurd (not_up_to a.0.seq n a.2 (sym (ap (λ (o : Option Authenticator). up_to_by o n) a.1) ∙ above)))
        (cases_lt place e)

    module _ (told : IsTold items t) where
      pub alike_none : ((d : Row) → place < length rows → number_by (stated_at items (get_or rows place d)) ≡ None) → AreAlike items rows place end
      alike_none none k r a b lo lt here at_place at_k =
          let here_too : place < length rows = omega (arith, inside, most) in
          absurd (cc (none r here_too, ap number_by at_place))

      pub alike_behind : (n e : ℕ) → ((d : Row) → place < length rows → number_by (stated_at items (get_or rows place d)) ≡ Some n)
          → IsPartitionPoint (λ (r : Row). up_to_by (stated_at items r) n ≡ true) (λ (r : Row). up_to_by (stated_at items r) n ≡ false) rows e → AreAlike items rows place e
      alike_behind n e has edge k r a b lo lt here at_place at_k =
          let long = same_length (stated_at items) rows told.held told.rows in
          let first : place < length rows = omega (arith, inside, most) in
          let one = number_of (stated_at items (get_or rows place r)) n (has r first) in
          let is_a : one.0 ≡ a = same_Some one.0 a (sym one.1 ∙ at_place) in
          let seq : a.seq ≡ n = sym (ap (λ (x : Authenticator). x.seq) is_a) ∙ one.2 in
          let below = edge.0 k r (omega arith) lt in
          let most_b : b.seq ≤ n = up_to b.seq n (sym (ap (λ (o : Option Authenticator). up_to_by o n) at_k) ∙ below) in
          let own = λ (x y : Authenticator) (in_x : Contains told.held x) (in_y : Contains told.held y). told.own x in_x ∙ sym (told.own y in_y) in
          let up = rise items rows told.held told.rows told.ascending own place k a lo (omega (arith, here, long)) in
          let named_a : get_or told.held place a ≡ a = same_Some (get_or told.held place a) a (sym (named_at (stated_at items) rows told.held place r a told.rows (omega (arith, first, long))) ∙ at_place) in
          let named_b : get_or told.held k a ≡ b = same_Some (get_or told.held k a) b (sym (named_at (stated_at items) rows told.held k r a told.rows (omega (arith, here, long))) ∙ at_k) in
          let from_a : (get_or told.held place a).seq ≡ a.seq = ap (λ (x : Authenticator). x.seq) named_a in
          let to_b : (get_or told.held k a).seq ≡ b.seq = ap (λ (x : Authenticator). x.seq) named_b in
          omega (arith, up, from_a, to_b, most_b, seq)

one_hash : (a b : Authenticator) → (a.hash ≢ b.hash → ⊥) → a.hash ≡ b.hash
one_hash a b h = by_test (bytes_eq a.hash b.hash) refl
  where
    by_test : (e : Bool) → bytes_eq a.hash b.hash ≡ e → a.hash ≡ b.hash
    by_test true e = (bytes_eq-Decides a.hash b.hash).0 e
    by_test false e = absurd (h (λ same. let yes = (bytes_eq-Decides a.hash b.hash).1 same in cc (yes, e)))

-- So where the first of them does not contradict an item, none does.
pub alike_undenied : (items : List Checked) (t : Table) (told : IsTold items t) → t.exposure ≡ None → (x : Fields) (start place next : ℕ) → place < length t.rows.items → next ≤ length t.rows.items
    → AllWithin (λ (r : Row). denied_by_row (stated_at items r) x ≡ false) t.rows.items start place → ((d : Row) → denied_by_row (stated_at items (get_or t.rows.items place d)) x ≡ false)
    → AreAlike items t.rows.items place next → AllWithin (λ (r : Row). denied_by_row (stated_at items r) x ≡ false) t.rows.items start next
alike_undenied items t told none x start place next here most before at alike k d lo lt = ⊎_elim
    (λ first. before k d lo first)
    (λ le.
    let rows = t.rows.items in
    let long = same_length (stated_at items) rows told.held told.rows in
    let quiet : IsQuiet items told.held t.spans.items = subst (IsUpToDate items told.held t.spans.items) none told.told in
    let e = (some_of told.held (omega (arith, here, long))).0 in
    let a = get_or told.held place e in
    let b = get_or told.held k e in
    let in_rows : k < length rows = omega (arith, lt, most) in
    let at_place = named_at (stated_at items) rows told.held place d e told.rows (omega (arith, here, long)) in
    let at_k = named_at (stated_at items) rows told.held k d e told.rows (omega (arith, in_rows, long)) in
    let in_a : Contains told.held a = Contains-get_or told.held place e (omega (arith, here, long)) in
    let in_b : Contains told.held b = Contains-get_or told.held k e (omega (arith, in_rows, long)) in
    let seq : b.seq ≡ a.seq = alike k d a b le lt in_rows at_place at_k in
    let hash : b.hash ≡ a.hash = one_hash b a (λ other. quiet.one_hash b a in_b in_a (record { one_node = told.own b in_b ∙ sym (told.own a in_a); one_number = seq; two_hashes = other })) in
    ap (λ (o : Option Authenticator). denied_by_row o x) at_k ∙ denies_alike a b seq hash x ∙ sym (ap (λ (o : Option Authenticator). denied_by_row o x) at_place) ∙ at d)
    (cases_lt k place)
  where
    some_of : (xs : List Authenticator) → 0 < length xs → (y : Authenticator) × Contains xs y
    some_of [] inside = absurd (omega (arith, inside))
    some_of (y ∷ xs) inside = (y, (0, omega arith, refl))
