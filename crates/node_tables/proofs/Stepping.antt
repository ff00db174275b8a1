-- What happens to the tables of all nodes, from what happens to one.
use Rattle.std.proofs.Common.{◌≡◌, ◌≢◌, ℕ, zero, suc, ◌+◌, ◌-◌, ◌<◌, ◌≤◌, Bool, true, false, List, get_or, Option, Some, None, refl, sym, ap, subst, ◌∙◌, inl, inr, ⊎_elim, arith}
use Rattle.std.specs.Prelude.{◌==◌, ◌↔◌, ◌⊎◌, IsSome, slice_get, slice_set}
use Rattle.std.specs.List.{Contains}
use Rattle.std.specs.Ordering.{nat_cmp}
use Rattle.std.specs.declared.cmp.Ordering.TheVariants.{Equal}
use Rattle.std.specs.Cmp.{IsTotalOrder}
use Rattle.std.proofs.lemmas.Bool.{cases_lt}
use Rattle.std.proofs.lemmas.Bool.Decides.{Decides-eqb}
use Rattle.std.proofs.lemmas.Cmp.{nat_cmp_total, on_total, ranked, tied_itself}
use Rattle.std.proofs.lemmas.Option.{get_or_from_slice_get, same_Some, slice_get-get_or}
use Rattle.authenticators.specs.declared.authenticator.Authenticator.{Authenticator}
use Rattle.evidence_item.specs.Checking.{Checked}
use Rattle.node_tables.specs.declared.row.Row.{Row}
use Rattle.node_tables.specs.declared.table.Table.{Table}
use Rattle.node_tables.specs.Receipts.{receipt_at, receipt_by}
use Rattle.node_tables.specs.Rows.{stated_at}
use Rattle.node_tables.specs.Steps.{AllTables, AscendByNode, EachBecomes, by_node, is_of, position_of, room, wanted}
use Rattle.node_tables.specs.Tables.{IsTold, Says}
use Rattle.node_tables.specs.within.Bringing.{OneTakenBack, StatementStep, StatementsStep, TakenBack, one_of}
use Rattle.node_tables.specs.within.Coming.{StatementCame, StatementsCame}
use Rattle.node_tables.proofs.Received.{some_of, stated_by_receipt}
use Rattle.node_tables.proofs.Places.{ascending_by_pairs, contains_at, in_order, set_cases}

pub becomes_set : (R : Table → Table → Type 0) (xs : List Table) (i : ℕ) (t u : Table) → slice_get xs i ≡ Some t → R t u
    → ((j : ℕ) (v : Table) → slice_get xs j ≡ Some v → j ≢ i → R v v) → EachBecomes R xs (slice_set xs i u)
becomes_set R xs i t u at step others j w h = ⊎_elim
    (λ (e : (j ≡ i) × (w ≡ u)). (t, ap (λ n. slice_get xs n) e.0 ∙ at, subst (λ (x : Table). R t x) (sym e.1) step))
    (λ (e : (j ≢ i) × (slice_get xs j ≡ Some w)). (w, e.1, others j w e.1 e.0))
    (set_cases xs i j u w h)

pub by_node_total : IsTotalOrder by_node
by_node_total = on_total (λ (t : Table). t.node) nat_cmp_total

-- numbers that compare as equal are the same
pub nat_equal : (m n : ℕ) → nat_cmp m n ≡ Equal → m ≡ n
nat_equal m n h = ranked m n Equal (sym h)

-- two tables of one node are one
pub distinct : (tables : List Table) (i j : ℕ) (t u : Table) → AscendByNode tables → slice_get tables i ≡ Some t → slice_get tables j ≡ Some u → t.node ≡ u.node → i ≡ j
distinct tables i j t u up at_i at_j same =
    let itself : by_node t u ≡ by_node t t = ap (nat_cmp t.node) (sym same) in
    let back : by_node u t ≡ by_node t t = ap (λ n. nat_cmp n t.node) (sym same) in
    let tied = tied_itself by_node_total t in
    ⊎_elim
    (λ lt. let less = in_order by_node tables i j t u up at_i at_j lt in absurd (cc (less, itself, tied)))
    (λ le. ⊎_elim
    (λ lt. let less = in_order by_node tables j i u t up at_j at_i lt in absurd (cc (less, back, tied)))
    (λ (ge : i ≤ j). omega (arith, le, ge))
    (cases_lt j i))
    (cases_lt i j)

-- tables that come of ascending ones, each of the same node, ascend
pub ascend_still : (R : Table → Table → Type 0) (old new : List Table) → ((t u : Table) → R t u → u.node ≡ t.node) → EachBecomes R old new → AscendByNode old → AscendByNode new
ascend_still R old new same each up = ascending_by_pairs by_node new (λ i j d lt inside.
    let from_i = each i (get_or new i d) (slice_get-get_or new i d (omega (arith, lt, inside))) in
    let from_j = each j (get_or new j d) (slice_get-get_or new j d inside) in
    ap (λ n. nat_cmp n (get_or new j d).node) (same from_i.0 (get_or new i d) from_i.2) ∙ ap (nat_cmp from_i.0.node) (same from_j.0 (get_or new j d) from_j.2)
    ∙ in_order by_node old i j from_i.0 from_j.0 up from_i.1 from_j.1 lt)

-- What comes to the table of node j, where nothing comes to the others: where none is of the node, and where one is.
module _ (R : Table → Table → Type 0) (tables : List Table) (j : ℕ) (still : (k : ℕ) (t : Table) → slice_get tables k ≡ Some t → t.node ≢ j → R t t) where
  pub to_none : ((t : Table) → Contains tables t → t.node ≢ j) → EachBecomes R tables tables
  to_none none k t at = (t, at, still k t at (none t (contains_at tables k t at)))

  pub to_one : AscendByNode tables → (i : ℕ) (t u : Table) → (slice_get tables i ≡ Some t) × (t.node ≡ j) → R t u → EachBecomes R tables (slice_set tables i u)
  to_one up i t u (at, own) step = becomes_set R tables i t u at step (λ k v there other. still k v there (λ same. other (distinct tables k i v t up there at (same ∙ sym own))))

-- The table that is found, as it is read at its place.
pub as_read : (tables : List Table) (i j : ℕ) (d : Table) → (t : Table) × (slice_get tables i ≡ Some t) × (t.node ≡ j) → (slice_get tables i ≡ Some (get_or tables i d)) × ((get_or tables i d).node ≡ j)
as_read tables i j d (t, at, own) = let same = sym (get_or_from_slice_get tables i t d at) in (at ∙ ap (λ (u : Table). Some u) same, ap (λ (u : Table). u.node) (sym same) ∙ own)

pub each_then : (P Q R : Table → Table → Type 0) → ((t u v : Table) → P t u → Q u v → R t v) → (old mid new : List Table) → EachBecomes P old mid → EachBecomes Q mid new → EachBecomes R old new
each_then P Q R both old mid new first second i v at =
    let (u, in_mid, q) = second i v at in
    let (t, in_old, p) = first i u in_mid in
    (t, in_old, both t u v p q)

-- ---- one statement

module _ (items : List Checked) (row : Row) where
  statement_still : (t : Table) → ((a : Authenticator) → stated_at items row ≡ Some a → a.node ≢ t.node) → StatementStep items row t t
  statement_still t other = record {
    node = refl;
    says = λ a. (λ has. inl has, λ h. ⊎_elim (λ has. has) (λ (e : (stated_at items row ≡ Some a) × (a.node ≡ t.node)). absurd (other a e.0 e.1)) h);
    receipts = λ whole. (whole, λ s. (λ has. inl has, λ h. ⊎_elim (λ has. has) (λ (e : (receipt_at items row ≡ Some s) × (s.from ≡ t.node)). let quoted = stated_by_receipt (slice_get items row.item) row.position s e.0 in absurd (other quoted.0 quoted.1 (quoted.2 ∙ e.1))) h));
    spans = refl;
    unanswered = refl;
    hashes = refl;
    room = omega arith;
    other_room = λ _. omega arith;
  }

  not_is_of : (j : ℕ) (o : Option Authenticator) → ((a : Authenticator) → o ≡ Some a → a.node ≢ j) → is_of j o ≡ false
  not_is_of j None other = refl
  not_is_of j (Some a) other = by_case (a.node == j) refl
    where
      by_case : (b : Bool) → (a.node == j) ≡ b → (a.node == j) ≡ false
      by_case true e = absurd (other a refl ((Decides-eqb a.node j).0 e))
      by_case false e = e

  -- Nothing comes to a table of another node.
  pub came_still : (t : Table) → IsTold items t → ((a : Authenticator) → stated_at items row ≡ Some a → a.node ≢ t.node) → StatementCame items row t t
  came_still t told other =
      let none : one_of t.node (stated_at items row) ≡ 0 = let e = not_is_of t.node (stated_at items row) other in rw e refl in
      record { told = told; step = statement_still t other; back = record { node = refl; promised = omega (arith, none); bodies = refl } }

  pub came_elsewhere : (tables : List Table) (s : Authenticator) → stated_at items row ≡ Some s → AllTables (IsTold items) tables → (k : ℕ) (t : Table) → slice_get tables k ≡ Some t → t.node ≢ s.node → StatementCame items row t t
  came_elsewhere tables s is told k t at other = came_still t (told k t at) (λ a names same. other (sym same ∙ ap (λ (x : Authenticator). x.node) (same_Some a s (sym names ∙ is))))

  -- What was promised of it is taken back of the table of its node.
  pub taken_back : (t u : Table) → IsSome (stated_at items row) → ((a : Authenticator) → stated_at items row ≡ Some a → a.node ≡ t.node) → u.node ≡ t.node → u.promised ≡ t.promised - 1 → u.bodies ≡ t.bodies → OneTakenBack (stated_at items row) t u
  taken_back t u there own node promised bodies =
      let (a, is) = some_of (stated_at items row) there in
      let of_node : is_of t.node (stated_at items row) ≡ true = ap (is_of t.node) is ∙ (Decides-eqb a.node t.node).1 (own a is) in
      let one : one_of t.node (stated_at items row) ≡ 1 = rw of_node refl in
      record { node = node; promised = omega (arith, promised, one); bodies = bodies }

-- ---- the statements of an item

-- one position more
wanted_next : (g : ℕ → Option Authenticator) (k j : ℕ) → wanted g (suc k) j ≡ wanted g k j + one_of j (g k)
wanted_next g k j = by_case (is_of j (g k)) refl
  where
    by_case : (b : Bool) → is_of j (g k) ≡ b → wanted g (suc k) j ≡ wanted g k j + one_of j (g k)
    by_case true e = rw e refl
    by_case false e = rw e (omega arith)

pub wanted_then : (g : ℕ → Option Authenticator) (k j : ℕ) → wanted g (k + 1) j ≡ wanted g k j + one_of j (g k)
wanted_then g k j = let next : k + 1 ≡ suc k = omega arith in ap (λ n. wanted g n j) next ∙ wanted_next g k j

wanted_rises : (g : ℕ → Option Authenticator) (k n j : ℕ) → wanted g k j ≤ wanted g (n + k) j
wanted_rises g k zero j = let e : zero + k ≡ k = omega arith in subst (λ m. wanted g k j ≤ wanted g m j) (sym e) (omega arith)
wanted_rises g k (suc n) j =
    let e : suc n + k ≡ suc (n + k) = omega arith in
    subst (λ m. wanted g k j ≤ wanted g m j) (sym e) (omega (arith, wanted_rises g k n j, wanted_next g (n + k) j))

wanted_here : (g : ℕ → Option Authenticator) (k : ℕ) (a : Authenticator) → g k ≡ Some a → wanted g (suc k) a.node ≡ wanted g k a.node + 1
wanted_here g k a is =
    let of_node : is_of a.node (g k) ≡ true = ap (is_of a.node) is ∙ (Decides-eqb a.node a.node).1 refl in
    rw of_node refl

-- ---- one position after the other

-- What one position more brings, behind what the first ones brought.
one_further : (k i j m : ℕ) (Old Mid New : Type 0) (Q : ℕ → Type 0) → j ≡ i → Mid ↔ (Old ⊎ ((p : ℕ) × (p < k) × Q p × (m ≡ i))) → New ↔ (Mid ⊎ (Q k × (m ≡ j))) → New ↔ (Old ⊎ ((p : ℕ) × (p < k + 1) × Q p × (m ≡ i)))
one_further k i j m Old Mid New Q same before step = (
  λ has. ⊎_elim
      (λ (h : Mid). ⊎_elim (λ (old : Old). inl old) (λ (e : (p : ℕ) × (p < k) × Q p × (m ≡ i)). inr (e.0, omega (arith, e.1), e.2, e.3)) (before.0 h))
      (λ (e : Q k × (m ≡ j)). inr (k, omega arith, e.0, e.1 ∙ same))
      (step.0 has),
  λ h. step.1 (⊎_elim
      (λ (old : Old). inl (before.1 (inl old)))
      (λ (e : (p : ℕ) × (p < k + 1) × Q p × (m ≡ i)). ⊎_elim
      (λ lt. inl (before.1 (inr (e.0, lt, e.2, e.3))))
      (λ le. let is : e.0 ≡ k = omega (arith, e.1, le) in inr (subst Q is e.2, e.3 ∙ sym same))
      (cases_lt e.0 k))
      h),
)

module _ (items : List Checked) (n : ℕ) where
  abbrev pub at : ℕ → Row
  at k = record { item = n; position = k }

  -- Nothing came yet.
  none_yet : (t : Table) → StatementsStep items n zero t t
  none_yet t = record {
    node = refl;
    says = λ a. (λ has. inl has, λ h. ⊎_elim (λ has. has) (λ (e : (p : ℕ) × (p < zero) × (position_of items n p ≡ Some a) × (a.node ≡ t.node)). absurd (omega (arith, e.1))) h);
    receipts = λ whole. (whole, λ s. (λ has. inl has, λ h. ⊎_elim (λ has. has) (λ (e : (p : ℕ) × (p < zero) × (receipt_by (slice_get items n) p ≡ Some s) × (s.from ≡ t.node)). absurd (omega (arith, e.1))) h));
    spans = refl;
    unanswered = refl;
    hashes = refl;
    room = omega arith;
  }

  room_then : (k j : ℕ) (b : Bool) (m r s : ℕ) → is_of j (position_of items n k) ≡ b → m ≤ r + wanted (position_of items n) k j → r ≤ s + 1 → (b ≡ false → r ≤ s) → m ≤ s + wanted (position_of items n) (suc k) j
  room_then k j true m r s e one two same = rw e (omega (arith, one, two))
  room_then k j false m r s e one two same = let eq : r ≤ s = same refl in rw e (omega (arith, one, eq))

  not_of : (j : ℕ) (o : Option Authenticator) → is_of j o ≡ false → (a : Authenticator) → o ≡ Some a → a.node ≢ j
  not_of j o e a is same = let yes : is_of j o ≡ true = ap (is_of j) is ∙ (Decides-eqb a.node j).1 same in cc (e, yes)

  -- One position more.
  one_more : (k : ℕ) (t u v : Table) → StatementsStep items n k t u → StatementStep items (at k) u v → StatementsStep items n (k + 1) t v
  one_more k t u v before step =
      let suc_k : k + 1 ≡ suc k = omega arith in
      record {
        node = step.node ∙ before.node;
        says = λ a. one_further k t.node u.node a.node (Says items t.rows.items a) (Says items u.rows.items a) (Says items v.rows.items a) (λ p. position_of items n p ≡ Some a) before.node (before.says a) (step.says a);
        receipts = λ whole.
            let (mid, last) = step.receipts whole in
            let (start, first) = before.receipts mid in (
              start,
              λ s. one_further k t.node u.node s.from (Contains t.receipts.sendings.items s) (Contains u.receipts.sendings.items s) (Contains v.receipts.sendings.items s) (λ p. receipt_by (slice_get items n) p ≡ Some s) before.node (first s) (last s),
            );
        spans = step.spans ∙ before.spans;
        unanswered = step.unanswered ∙ before.unanswered;
        hashes = step.hashes ∙ before.hashes;
        room = subst (λ m. room t ≤ room v + wanted (position_of items n) m t.node) (sym suc_k)
            (room_then k t.node (is_of t.node (position_of items n k)) (room t) (room u) (room v) refl before.room step.room
            (λ e. step.other_room (λ a is same. not_of t.node (position_of items n k) e a is (same ∙ before.node))));
      }

  -- ---- and their promises are taken back

  one_more_back : (k : ℕ) (t u v : Table) → TakenBack items n k t u → OneTakenBack (stated_at items (at k)) u v → TakenBack items n (k + 1) t v
  one_more_back k t u v before step =
      let o = position_of items n k in
      let here : v.promised ≡ u.promised - one_of t.node o = subst (λ j. v.promised ≡ u.promised - one_of j o) before.node step.promised in
      let more = wanted_then (position_of items n) k t.node in
      record {
        node = step.node ∙ before.node;
        promised = omega (arith, here, before.promised, more);
        bodies = step.bodies ∙ before.bodies;
      }

  pub none_came : (t : Table) → IsTold items t → StatementsCame items n zero t t
  none_came t told = record { told = told; step = none_yet t; back = record { node = refl; promised = omega arith; bodies = refl } }

  pub one_came : (k : ℕ) (t u v : Table) → StatementsCame items n k t u → StatementCame items (at k) u v → StatementsCame items n (k + 1) t v
  one_came k t u v before one = record { told = one.told; step = one_more k t u v before.step one.step; back = one_more_back k t u v before.back one.back }

  -- There is room for the statement at each position.
  pub room_at : (count k : ℕ) (old now : List Table) → k < count → AllTables (λ (t : Table). wanted (position_of items n) count t.node ≤ room t) old → EachBecomes (StatementsCame items n k) old now
      → (a : Authenticator) → stated_at items (at k) ≡ Some a → AllTables (λ (t : Table). t.node ≡ a.node → 1 ≤ room t) now
  room_at count k old now lt all before a is i u there own =
      let (t, in_old, came) = before i u there in
      let step = came.step in
      let enough = all i t in_old in
      let g = position_of items n in
      let here : wanted g (suc k) a.node ≡ wanted g k a.node + 1 = wanted_here g k a is in
      let up : wanted g (suc k) a.node ≤ wanted g ((count - suc k) + suc k) a.node = wanted_rises g (suc k) (count - suc k) a.node in
      let last : (count - suc k) + suc k ≡ count = omega (arith, lt) in
      let most : wanted g (suc k) a.node ≤ wanted g count a.node = subst (λ m. wanted g (suc k) a.node ≤ wanted g m a.node) last up in
      let node : t.node ≡ a.node = sym step.node ∙ own in
      let from : wanted g count a.node ≤ room t = subst (λ j. wanted g count j ≤ room t) node enough in
      let left : room t ≤ room u + wanted g k a.node = subst (λ j. room t ≤ room u + wanted g k j) node step.room in
      omega (arith, here, most, from, left)
