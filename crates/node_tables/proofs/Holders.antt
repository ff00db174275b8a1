-- Which segment holds an entry behind most others.
use Rattle.std.proofs.Common.{◌≡◌, ◌≢◌, ℕ, ◌+◌, ◌<◌, ◌≤◌, Bool, true, false, List, length, get_or, Option, Some, refl, sym, ap, subst, ◌∙◌, ◌⊎◌, inl, inr, ⊎_elim, arith}
use Rattle.std.specs.List.{Contains}
use Rattle.std.specs.Str.{bytes_eq}
use Rattle.std.specs.Cmp.Lexicographic.{bytes_decides}
use Rattle.std.proofs.lemmas.Bool.{cases_eq, cases_lt}
use Rattle.std.proofs.lemmas.Option.{same_Some}
use Rattle.log_chain.specs.Chain.{base}
use Rattle.evidence_item.specs.Checking.{Checked}
use Rattle.kept_items.specs.declared.link.Link.{Link}
use Rattle.node_tables.specs.declared.mark.Mark.{Mark}
use Rattle.node_tables.specs.Hashed.{AreHolders, DoNotFall, HasCome, IsHeldBy, IsHolder, front_of, link_at}
use Rattle.node_tables.specs.Tables.{IsSegmentAt}
use Rattle.node_tables.specs.within.Marking.{IsKnown, IsKnownBut, IsNext, has_hash}

-- ---- one entry more

module _ (items : List Checked) (j n p : ℕ) (x : Link) (segment : IsSegmentAt items j n) (here : link_at items n p ≡ Some x) (old : List Mark) (are : AreHolders items j n p old) where
  come_cases : (i k : ℕ) → HasCome items j n (p + 1) i k → HasCome items j n p i k ⊎ ((i ≡ n) × (k ≡ p))
  come_cases i k (seg, up) = ⊎_elim
      (λ (same : i ≡ n). ⊎_elim
      (λ (lt : k < p). inl (seg, λ _. lt))
      (λ (le : p ≤ k). let lt = up same in inr (same, omega (arith, lt, le)))
      (cases_lt k p))
      (λ (other : i ≡ n → ⊥). inl (seg, λ same. absurd (other same)))
      (cases_eq i n)

  pub come_more : (i k : ℕ) → HasCome items j n p i k → HasCome items j n (p + 1) i k
  come_more i k (seg, up) = (seg, λ same. let lt = up same in omega (arith, lt))

  at_here : (i k : ℕ) (y : Link) → (i ≡ n) × (k ≡ p) → link_at items i k ≡ Some y → y ≡ x
  at_here i k y (same_i, same_k) at =
      let there : link_at items n p ≡ Some y = subst (λ l. link_at items n l ≡ Some y) same_k (subst (λ l. link_at items l k ≡ Some y) same_i at) in
      same_Some y x (sym there ∙ here)

  holder_more : (m : Mark) → IsHolder items j n p m → IsHolder items j n (p + 1) m
  holder_more m h = record { came = come_more m.item m.position h.came; link = h.link; here = h.here; front = h.front }

  -- Where those that came agree with it, and a holder has it, it came.
  pub one_came : (new : List Mark) → DoNotFall new → x.hash ≢ base → ((i k : ℕ) (y : Link) → HasCome items j n p i k → link_at items i k ≡ Some y → y.hash ≡ x.hash → y ≡ x)
      → ((m : Mark) → Contains new m → IsHolder items j n (p + 1) m)
      → ((m : Mark) → Contains old m → Contains new m ⊎ ((link_at items m.item m.position ≡ Some x) × (m.position ≤ p)))
      → IsHeldBy items new x p → AreHolders items j n (p + 1) new
  one_came new order based agree each stays has = record {
    order = order;
    each = each;
    all = λ i k y came at. ⊎_elim
        (λ before.
        let (m, in_old, is, most) = are.all i k y before at in
        ⊎_elim
        (λ in_new. (m, in_new, is, most))
        (λ (beaten : (link_at items m.item m.position ≡ Some x) × (m.position ≤ p)).
        let same : y ≡ x = same_Some y x (sym is ∙ beaten.0) in
        (has.0, has.1, has.2 ∙ ap (λ l. Some l) (sym same), (let far = has.3 in let near = beaten.1 in omega (arith, far, near, most))))
        (stays m in_old))
        (λ (now : (i ≡ n) × (k ≡ p)).
        let same = at_here i k y now at in
        (has.0, has.1, has.2 ∙ ap (λ l. Some l) (sym same), (let far = has.3 in let is = now.1 in omega (arith, far, is))))
        (come_cases i k came);
    one = λ i k l m y z came_y came_z at_y at_z same. ⊎_elim
        (λ before_y. ⊎_elim
        (λ before_z. are.one i k l m y z before_y before_z at_y at_z same)
        (λ (now_z : (l ≡ n) × (m ≡ p)).
        let is_z = at_here l m z now_z at_z in
        agree i k y before_y at_y (same ∙ ap (λ (w : Link). w.hash) is_z) ∙ sym is_z)
        (come_cases l m came_z))
        (λ (now_y : (i ≡ n) × (k ≡ p)).
        let is_y = at_here i k y now_y at_y in
        ⊎_elim
        (λ before_z. is_y ∙ sym (agree l m z before_z at_z (sym same ∙ ap (λ (w : Link). w.hash) is_y)))
        (λ (now_z : (l ≡ n) × (m ≡ p)). is_y ∙ sym (at_here l m z now_z at_z))
        (come_cases l m came_z))
        (come_cases i k came_y);
    based = λ i k y came at is. ⊎_elim
        (λ before. are.based i k y before at is)
        (λ (now : (i ≡ n) × (k ≡ p)). based (sym (ap (λ (w : Link). w.hash) (at_here i k y now at)) ∙ is))
        (come_cases i k came);
  }

-- ---- by what is found

hash_there : (o : Option Link) (y : Link) (h : List ℕ) → o ≡ Some y → y.hash ≡ h → has_hash o h ≡ true
hash_there o y h is same = ap (λ (p : Option Link). has_hash p h) is ∙ (bytes_decides y.hash h).1 same

module _ (items : List Checked) (j : ℕ) (m : Mark) (x : Link) (next : IsNext items j m x) (old : List Mark) (are : AreHolders items j m.item m.position old) where
  new_holder : IsHolder items j m.item (m.position + 1) m
  new_holder = record { came = (next.has.segment, λ _. omega arith); link = x; here = next.has.here; front = next.has.front }

  itself : (new : List Mark) → Contains new m → IsHeldBy items new x m.position
  itself new has = (m, has, next.has.here, omega arith)

  among : (new : List Mark) (k : Mark) → Contains old k ⊎ (k ≡ m) → IsHolder items j m.item (m.position + 1) k
  among new k (inl was) = holder_more items j m.item m.position x next.has.segment next.has.here old are k (are.each k was)
  among new k (inr is) = subst (IsHolder items j m.item (m.position + 1)) (sym is) new_holder

  -- none has its hash: all up to it is new
  pub put_new : (r : ℕ) → r ≡ m.position + 1 → ((k : Mark) → Contains old k → has_hash (link_at items k.item k.position) x.hash ≡ false) → (new : List Mark) → DoNotFall new
      → ((k : Mark) → Contains new k → Contains old k ⊎ (k ≡ m)) → ((k : Mark) → Contains old k → Contains new k) → Contains new m → AreHolders items j m.item (m.position + 1) new × IsKnownBut items j m.item m.position x r
  put_new r up none new order only still has = (
    one_came items j m.item m.position x next.has.segment next.has.here old are new order next.based
        (λ i k y came at same.
        let (h, in_old, is, far) = are.all i k y came at in
        let yes = hash_there (link_at items h.item h.position) y x.hash is same in
        let no_such = none h in_old in
        absurd (cc (yes, no_such)))
        (λ k in_new. among new k (only k in_new)) (λ k was. inl (still k was)) (itself new has),
    inl (omega (arith, up)),
  )

  module _ (held : Mark) (was : Contains old held) (is : link_at items held.item held.position ≡ Some x) where
    agreed : (i k : ℕ) (y : Link) → HasCome items j m.item m.position i k → link_at items i k ≡ Some y → y.hash ≡ x.hash → y ≡ x
    agreed i k y came at same = are.one i k held.item held.position y x came (are.each held was).came at is same

    -- another has it behind as many
    pub put_known : m.position ≤ held.position → AreHolders items j m.item (m.position + 1) old × IsKnown items j m.item m.position x
    put_known far = (
      one_came items j m.item m.position x next.has.segment next.has.here old are old are.order next.based agreed
          (λ k in_old. among old k (inl in_old)) (λ k in_old. inl in_old) (held, was, is, far),
      (held.item, held.position, (are.each held was).came.0, (λ same. let lt = (are.each held was).came.1 same in omega (arith, lt, far)), is, far),
    )

    -- it is held behind more
    pub put_over : (r : ℕ) → r + held.position ≡ m.position → held.item ≢ m.item → (new : List Mark) → DoNotFall new → ((k : Mark) → Contains new k → Contains old k ⊎ (k ≡ m))
        → ((k : Mark) → Contains old k → Contains new k ⊎ (k ≡ held)) → Contains new m → AreHolders items j m.item (m.position + 1) new × IsKnownBut items j m.item m.position x r
    put_over r apart other new order only still has = (
      one_came items j m.item m.position x next.has.segment next.has.here old are new order next.based agreed
          (λ k in_new. among new k (only k in_new))
          (λ k in_old. ⊎_elim
          (λ stays. inl stays)
          (λ (same : k ≡ held). inr (subst (λ (h : Mark). (link_at items h.item h.position ≡ Some x) × (h.position ≤ m.position)) (sym same) (is, omega (arith, apart))))
          (still k in_old))
          (itself new has),
      inr (held.position, omega (arith, apart), (held.item, held.position, (are.each held was).came.0, other, is, omega arith)),
    )

-- Where none near has the hash, none has it.
pub none_holds : (items : List Checked) (j n p : ℕ) (holders : List Mark) → AreHolders items j n p holders → (h : List ℕ) (start end : ℕ)
    → ((k : ℕ) (d : Mark) → k < length holders → (get_or holders k d).front ≡ front_of h → (start ≤ k) × (k < end))
    → ((k : ℕ) (d : Mark) → start ≤ k → k < end → k < length holders → has_hash (link_at items (get_or holders k d).item (get_or holders k d).position) h ≡ false)
    → (m : Mark) → Contains holders m → has_hash (link_at items m.item m.position) h ≡ false
none_holds items j n p holders are h start end around none m (k, inside, is) =
    by_test (bytes_eq (are.each m (k, inside, is)).link.hash h) refl
  where
    read : has_hash (link_at items m.item m.position) h ≡ bytes_eq (are.each m (k, inside, is)).link.hash h
    read = ap (λ (o : Option Link). has_hash o h) (are.each m (k, inside, is)).here

    by_test : (b : Bool) → bytes_eq (are.each m (k, inside, is)).link.hash h ≡ b → has_hash (link_at items m.item m.position) h ≡ false
    by_test false e = read ∙ e
    by_test true e =
        let held = are.each m (k, inside, is) in
        let same : held.link.hash ≡ h = (bytes_decides held.link.hash h).0 e in
        let front : (get_or holders k m).front ≡ front_of h = ap (λ (x : Mark). x.front) is ∙ held.front ∙ ap front_of same in
        let near = around k m inside front in
        subst (λ (x : Mark). has_hash (link_at items x.item x.position) h ≡ false) is (none k m near.0 near.1 inside)
