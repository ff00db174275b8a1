-- The rows between two numbers stand between two places.
use Rattle.std.proofs.Common.{◌≡◌, ℕ, zero, ◌<◌, ◌≤◌, Bool, true, false, List, [], ◌∷◌, length, get_or, Option, refl, sym, ap, subst, ◌∙◌, inl, inr, ⊎_elim, arith}
use Rattle.std.specs.Prelude.{nat_le, nat_lt}
use Rattle.std.specs.List.{Contains}
use Rattle.std.specs.List.Sorted.{IsPartitionPoint, IsPartitionedBy}
use Rattle.std.proofs.lemmas.Bool.{cases_lt}
use Rattle.std.proofs.lemmas.Bool.Decides.{nat_tests}
use Rattle.std.proofs.lemmas.List.Elements.{Contains-get_or}
use Rattle.authenticators.specs.declared.authenticator.Authenticator.{Authenticator}
use Rattle.authenticators.specs.StatementSet.{by_fields, IsAscending}
use Rattle.authenticators.proofs.AscendingLists.{below_at}
use Rattle.authenticators.proofs.StatementSets.{below_means}
use Rattle.evidence_item.specs.Checking.{Checked}
use Rattle.node_tables.specs.declared.row.Row.{Row}
use Rattle.node_tables.specs.Rows.{AreRowsOf, stated_at}
use Rattle.node_tables.specs.within.Bringing.{AreBetween, below_by, up_to_by}
use Rattle.node_tables.proofs.RowLists.{named_at, same_length}

below_down : (m n k : ℕ) → m ≤ n → nat_lt n k ≡ true → nat_lt m k ≡ true
below_down m n k le h = grind (arith, nat_tests)

up_to_down : (m n k : ℕ) → m ≤ n → nat_le n k ≡ true → nat_le m k ≡ true
up_to_down m n k le h = grind (arith, nat_tests)

not_below : (m n : ℕ) → nat_lt m n ≡ true → n ≤ m → ⊥
not_below m n h le = grind (arith, nat_tests)

not_up_to : (m n : ℕ) → nat_le m n ≡ false → m ≤ n → ⊥
not_up_to m n h le = grind (arith, nat_tests)

module _ (items : List Checked) (rows : List Row) (held : List Authenticator) (names : AreRowsOf items rows held) (up : IsAscending held) (own : (a b : Authenticator) → Contains held a → Contains held b → a.node ≡ b.node) where
  long : length rows ≡ length held
  long = same_length (stated_at items) rows held names

  -- the numbers do not fall
  pub rise : (i j : ℕ) (d : Authenticator) → i ≤ j → j < length held → (get_or held i d).seq ≤ (get_or held j d).seq
  rise i j d le inside = ⊎_elim
      (λ lt. elim (below_means (get_or held i d) (get_or held j d) (below_at by_fields held i j d up lt inside)) [
        | inl lower ↦ let same = own (get_or held i d) (get_or held j d) (Contains-get_or held i d (omega (arith, lt, inside))) (Contains-get_or held j d inside) in absurd (omega (arith, lower, same))
        | inr at ↦ at.1
      ])
      (λ ge. let at : i ≡ j = omega (arith, le, ge) in subst (λ n. (get_or held i d).seq ≤ (get_or held n d).seq) at (omega arith))
      (cases_lt i j)

  abbrev below : ℕ → Row → Bool
  below n r = below_by (stated_at items r) n

  abbrev up_to : ℕ → Row → Bool
  up_to n r = up_to_by (stated_at items r) n

  -- an element of the list, to read at places
  some : (j : ℕ) → j < length held → (x : Authenticator) × Contains held x
  some j inside = first_of held (omega (arith, inside))
    where
      first_of : (xs : List Authenticator) → 0 < length xs → (x : Authenticator) × Contains xs x
      first_of [] inside = absurd (omega (arith, inside))
      first_of (x ∷ xs) inside = (x, (zero, omega arith, refl))

  pub below_parted : (n : ℕ) → IsPartitionedBy (below n) rows
  below_parted n i j d le inside holds =
      let here : j < length held = let l = long in omega (arith, inside, l) in
      let e = (some j here).0 in
      let at_j = named_at (stated_at items) rows held j d e names here in
      let at_i = named_at (stated_at items) rows held i d e names (omega (arith, le, here)) in
      ap (λ (o : Option Authenticator). below_by o n) at_i ∙ below_down (get_or held i e).seq (get_or held j e).seq n (rise i j e le here) (sym (ap (λ (o : Option Authenticator). below_by o n) at_j) ∙ holds)

  pub up_to_parted : (n : ℕ) → IsPartitionedBy (up_to n) rows
  up_to_parted n i j d le inside holds =
      let here : j < length held = let l = long in omega (arith, inside, l) in
      let e = (some j here).0 in
      let at_j = named_at (stated_at items) rows held j d e names here in
      let at_i = named_at (stated_at items) rows held i d e names (omega (arith, le, here)) in
      ap (λ (o : Option Authenticator). up_to_by o n) at_i ∙ up_to_down (get_or held i e).seq (get_or held j e).seq n (rise i j e le here) (sym (ap (λ (o : Option Authenticator). up_to_by o n) at_j) ∙ holds)

-- So those from the one place to the other are all that have numbers between.
pub between : (items : List Checked) (rows : List Row) (low last i j : ℕ)
    → IsPartitionPoint (λ (r : Row). below_by (stated_at items r) low ≡ true) (λ (r : Row). below_by (stated_at items r) low ≡ false) rows i
    → IsPartitionPoint (λ (r : Row). up_to_by (stated_at items r) last ≡ true) (λ (r : Row). up_to_by (stated_at items r) last ≡ false) rows j
    → j ≤ length rows → AreBetween items rows low last i j
between items rows low last i j from to inside = record {
  inside = inside;
  around = λ k r a here names lo hi. (
    ⊎_elim
        (λ lt. let below = from.0 k r (omega arith) lt in absurd (not_below a.seq low (sym (ap (λ (o : Option Authenticator). below_by o low) names) ∙ below) lo))
        (λ le. le)
        (cases_lt k i),
    ⊎_elim
        (λ lt. lt)
        (λ le. let above = to.1 k r le here in absurd (not_up_to a.seq last (sym (ap (λ (o : Option Authenticator). up_to_by o last) names) ∙ above) hi))
        (cases_lt k j),
  );
}
