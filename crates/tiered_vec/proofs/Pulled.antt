-- An element that is taken out, and tiers that give their first elements to those before.
use Rattle.std.proofs.Common.{◌≡◌, ℕ, ◌+◌, ◌*◌, ◌-◌, ◌/◌, ◌%◌, ◌<◌, ◌≤◌, List, [], ◌∷◌, ◌++◌, length, min, get_or, set, take, drop, refl, sym, ap, ◌∙◌, subst, arith, append_assoc, inl, inr}
use Rattle.std.proofs.lemmas.Bool.{cases_lt}
use Rattle.std.proofs.lemmas.List.{drop-set, drop_more, get_or-set_other, get_or-set_same, length-map, length-set, map-set, set-get_or, take-set-le}
use Rattle.std.proofs.lemmas.List.Edits.{length-remove, remove-append_left, remove-append_right}
use Rattle.std.proofs.lemmas.Nat.{mod_below}
use Rattle.std.specs.List.{remove}
use Rattle.std.specs.VecDeque.{deque_capacity, deque_items, deque_len}
use Rattle.std.specs.declared.collections.VecDeque.{VecDeque}
use Rattle.tiered_vec.proofs.Carried.{capacity_at, items_set, items_split, length_at, length_before, length_is, room_set, size_at}
use Rattle.tiered_vec.proofs.Filled.{same_or_not}
use Rattle.tiered_vec.proofs.Grown.{filled_at_most, length_fits}
use Rattle.tiered_vec.proofs.Products.{apart, below, one_more, placed}
use Rattle.tiered_vec.specs.within.Tiering.{AreFilled, HaveRoom, IsPulled, capacities, items_of, lengths}

-- ---- a tier gives its first element to the one before

module _ {X Z : Type 0} (ts : List (VecDeque X Z)) (t : ℕ) (d e u w : VecDeque X Z) (inside : t + 1 < length ts) where
  abbrev short : List (VecDeque X Z)
  short = set ts (t + 1) u

  before_is : get_or short t e ≡ get_or ts t e
  before_is = get_or-set_other ts (t + 1) t u e (λ is. absurd (omega (arith, is)))

  -- none was there
  pub none_given : deque_items (get_or ts (t + 1) d) ≡ deque_items u → items_of short ≡ items_of ts
  none_given is = items_set ts (t + 1) u inside ∙ ap (λ (z : List X). items_of (take (t + 1) ts) ++ (z ++ items_of (drop (t + 1 + 1) ts))) (sym is) ∙ sym (items_split ts (t + 1) d inside)

  pub none_lengths : deque_len (get_or ts (t + 1) d) ≡ deque_len u → lengths short ≡ lengths ts
  none_lengths is = map-set (λ (v : VecDeque X Z). deque_len v) ts (t + 1) u ∙ ap (λ (n : ℕ). set (lengths ts) (t + 1) n) (sym is ∙ sym (length_at ts (t + 1) d inside)) ∙ set-get_or (lengths ts) (t + 1) 0

  pub none_capacities : deque_capacity u ≡ deque_capacity (get_or ts (t + 1) d) → capacities short ≡ capacities ts
  none_capacities is = map-set (λ (v : VecDeque X Z). deque_capacity v) ts (t + 1) u ∙ ap (λ (n : ℕ). set (capacities ts) (t + 1) n) (is ∙ sym (capacity_at ts (t + 1) d inside)) ∙ set-get_or (capacities ts) (t + 1) 0

  -- one was there
  module _ (x : X) where
    pub one_given : deque_items (get_or ts (t + 1) d) ≡ x ∷ deque_items u → deque_items w ≡ deque_items (get_or short t e) ++ x ∷ [] → items_of (set short t w) ≡ items_of ts
    one_given first last =
        let long = length-set ts (t + 1) u in
        let a = deque_items (get_or ts t e) in
        let rest = items_of (drop (t + 1 + 1) ts) in
        let front = items_of (take t ts) in
        let whole : deque_items w ≡ a ++ x ∷ [] = last ∙ ap (λ (v : VecDeque X Z). deque_items v ++ x ∷ []) before_is in
        items_set short t w (omega (arith, long, inside))
        ∙ ap (λ (l : List (VecDeque X Z)). items_of l ++ (deque_items w ++ items_of (drop (t + 1) short))) (take-set-le t ts (t + 1) u (omega arith))
        ∙ ap (λ (l : List (VecDeque X Z)). front ++ (deque_items w ++ items_of l)) (drop-set ts (t + 1) u inside)
        ∙ ap (λ (z : List X). front ++ (z ++ (deque_items u ++ rest))) whole
        ∙ ap (λ (z : List X). front ++ z) (append_assoc a (x ∷ []) (deque_items u ++ rest))
        ∙ ap (λ (z : List X). front ++ (a ++ (z ++ rest))) (sym first)
        ∙ ap (λ (l : List (VecDeque X Z)). front ++ (a ++ items_of l)) (sym (drop_more ts (t + 1) d inside))
        ∙ sym (items_split ts t e (omega (arith, inside)))

  pub one_capacities : deque_capacity u ≡ deque_capacity (get_or ts (t + 1) d) → deque_capacity w ≡ deque_capacity (get_or short t e) → capacities (set short t w) ≡ capacities ts
  one_capacities first last =
      let same = none_capacities first in
      let here : deque_capacity w ≡ get_or (capacities ts) t 0 = last ∙ ap (λ (v : VecDeque X Z). deque_capacity v) before_is ∙ sym (capacity_at ts t e (omega (arith, inside))) in
      map-set (λ (v : VecDeque X Z). deque_capacity v) short t w ∙ ap (λ (l : List ℕ). set l t (deque_capacity w)) same ∙ ap (λ (n : ℕ). set (capacities ts) t n) here ∙ set-get_or (capacities ts) t 0

  pub one_moved : deque_len u + 1 ≡ deque_len (get_or ts (t + 1) d) → deque_len w ≡ deque_len (get_or short t e) + 1 → IsPulled (lengths ts) (lengths (set short t w)) t
  one_moved first last =
      let long = length-map ts (λ (v : VecDeque X Z). deque_len v) in
      let there : get_or (lengths ts) (t + 1) 0 ≡ deque_len (get_or ts (t + 1) d) = length_at ts (t + 1) d inside in
      let here : get_or (lengths ts) t 0 ≡ deque_len (get_or ts t e) = length_at ts t e (omega (arith, inside)) in
      let same = ap (λ (v : VecDeque X Z). deque_len v) before_is in
      let less : deque_len u ≡ get_or (lengths ts) (t + 1) 0 - 1 = omega (arith, first, there) in
      let more : deque_len w ≡ get_or (lengths ts) t 0 + 1 = omega (arith, last, here, same) in
      record {
        inside = omega (arith, long, inside);
        some = omega (arith, first, there);
        moved =
            map-set (λ (v : VecDeque X Z). deque_len v) short t w
            ∙ ap (λ (l : List ℕ). set l t (deque_len w)) (map-set (λ (v : VecDeque X Z). deque_len v) ts (t + 1) u)
            ∙ ap (λ (n : ℕ). set (set (lengths ts) (t + 1) n) t (deque_len w)) less
            ∙ ap (λ (n : ℕ). set (set (lengths ts) (t + 1) (get_or (lengths ts) (t + 1) 0 - 1)) t n) more;
      }

  -- there is room for it
  pub room_there : get_or (lengths ts) t 0 < get_or (capacities ts) t 0 → deque_len (get_or short t e) < deque_capacity (get_or short t e)
  room_there gap =
      let here = length_at ts t e (omega (arith, inside)) in
      let room = capacity_at ts t e (omega (arith, inside)) in
      let same = ap (λ (v : VecDeque X Z). deque_len v) before_is in
      let also = ap (λ (v : VecDeque X Z). deque_capacity v) before_is in
      omega (arith, here, room, same, also, gap)

-- ---- the tiers are filled again

-- All but one tier are as they are with n elements, and that has one less.
pub record Lacks (size : ℕ) (ls : List ℕ) (n t : ℕ) : Type 0 where
  pub inside : t < length ls
  pub each : (k : ℕ) → k < length ls → (k ≡ t → ⊥) → get_or ls k 0 ≡ min size (n - size * k)
  pub here : get_or ls t 0 + 1 ≡ min size (n - size * t)

pub lacks_next : (size : ℕ) (ls ks : List ℕ) (n t : ℕ) → Lacks size ls n t → IsPulled ls ks t → Lacks size ks n (t + 1)
lacks_next size ls ks n t l p =
    let L1 = get_or ls (t + 1) 0 in
    let L0 = get_or ls t 0 in
    let us = set ls (t + 1) (L1 - 1) in
    let one = length-set ls (t + 1) (L1 - 1) in
    let two = length-set us t (L0 + 1) in
    let moved : ks ≡ set us t (L0 + 1) = p.moved in
    let P : List ℕ → Type 0 = λ z. Lacks size z n (t + 1) in
    let in_t = l.inside in
    let in_next = p.inside in
    subst P (sym moved) (record {
      inside = omega (arith, one, two, in_next);
      each = λ k lt not_next. elim (same_or_not k t) [
        | inl at ↦ (let Q : ℕ → Type 0 = λ i. get_or (set us t (L0 + 1)) i 0 ≡ min size (n - size * i) in
            subst Q (sym at) (get_or-set_same us t (L0 + 1) 0 (omega (arith, one, in_t)) ∙ l.here))
        | inr ne ↦ get_or-set_other us t k (L0 + 1) 0 ne ∙ get_or-set_other ls (t + 1) k (L1 - 1) 0 not_next ∙ l.each k (omega (arith, one, two, lt)) ne
      ];
      here =
          let off : t + 1 ≡ t → ⊥ = λ is. absurd (omega (arith, is)) in
          let was = l.each (t + 1) in_next off in
          let a = get_or-set_other us t (t + 1) (L0 + 1) 0 off in
          let b = get_or-set_same ls (t + 1) (L1 - 1) 0 in_next in
          let some = p.some in
          omega (arith, was, a, b, some);
    })

pub lacks_none : (size : ℕ) (ls : List ℕ) (n t : ℕ) → 0 < size → n ≤ size * length ls → Lacks size ls n t → get_or ls (t + 1) 0 ≡ 0 → AreFilled size ls (n - 1)
lacks_none size ls n t some enough l none =
    let in_t = l.inside in
    let here = l.here in
    let top : n ≤ size * (t + 1) = elim (cases_lt (t + 1) (length ls)) [
      | inl there ↦ (let was = l.each (t + 1) there (λ is. absurd (omega (arith, is))) in omega (arith, was, none, some))
      | inr le ↦ (let same : length ls ≡ t + 1 = omega (arith, le, in_t) in let e = ap (λ (k : ℕ). size * k) same in omega (arith, enough, e))
    ] in
    let one = one_more size t in
    record {
      each = λ k lt. elim (same_or_not k t) [
        | inl at ↦ (let Q : ℕ → Type 0 = λ i. get_or ls i 0 ≡ min size ((n - 1) - size * i) in subst Q (sym at) (omega (arith, here, top, one)))
        | inr ne ↦ (let was = l.each k lt ne in elim (cases_lt k t) [
          | inl before ↦ (let away = apart size k t before in omega (arith, was, here, away))
          | inr le ↦ (let away = apart size t k (omega (arith, le, ne)) in omega (arith, was, top, one, away))
        ])
      ];
    }

-- ---- an element is taken out

-- What is taken out so far, and which tier lacks one.
pub record Takes {X Z : Type 0} (size : ℕ) (old now : List (VecDeque X Z)) (place tier : ℕ) : Type 0 where
  pub items : items_of now ≡ remove (items_of old) place
  pub lacks : Lacks size (lengths now) (length (items_of old)) tier
  pub gap : get_or (lengths now) tier 0 < get_or (capacities now) tier 0
  pub room : (n : ℕ) → HaveRoom size (capacities old) n → HaveRoom size (capacities now) n
  pub long : length now ≡ length old

module _ {X Z : Type 0} (size : ℕ) (ts : List (VecDeque X Z)) (place : ℕ) (some : 0 < size) (inside : place < length (items_of ts)) (filled : AreFilled size (lengths ts) (length (items_of ts))) where
  tier_in : place / size < length ts
  tier_in =
      let most = filled_at_most size ts (length (items_of ts)) filled in
      let at = placed size place in
      below size (place / size) (length ts) (omega (arith, most, at, inside))

  pub place_in : (d : VecDeque X Z) → place % size < deque_len (get_or ts (place / size) d)
  place_in d =
      let sized = size_at size ts (length (items_of ts)) (place / size) d filled tier_in in
      let at = placed size place in
      let under = mod_below place size some in
      omega (arith, sized, at, under, inside)

  -- A remove in the middle one of three parts.
  remove_middle : (pre v post : List X) (b at : ℕ) → length pre ≡ b → at < length v → remove (pre ++ (v ++ post)) (b + at) ≡ pre ++ (remove v at ++ post)
  remove_middle pre v post b at is lt =
      let away : (b + at) - b ≡ at = omega arith in
      let one = remove-append_right pre (v ++ post) b (b + at) is (omega arith) in
      let P : ℕ → Type 0 = λ i. remove (pre ++ (v ++ post)) (b + at) ≡ pre ++ remove (v ++ post) i in
      subst P away one ∙ ap (λ (z : List X). pre ++ z) (remove-append_left v post at lt)

  pub takes_first : (d t : VecDeque X Z) → deque_items t ≡ remove (deque_items (get_or ts (place / size) d)) (place % size) → deque_len t + 1 ≡ deque_len (get_or ts (place / size) d) → deque_capacity t ≡ deque_capacity (get_or ts (place / size) d) → Takes size ts (set ts (place / size) t) place (place / size)
  takes_first d t is len capacity =
      let k = place / size in
      let n = length (items_of ts) in
      let at = placed size place in
      let own = length_is (get_or ts k d) in
      let here = place_in d in
      let before = length_before size ts n k filled (omega (arith, tier_in)) (omega (arith, at, inside)) in
      let l = length_at ts k d tier_in in
      let c = capacity_at ts k d tier_in in
      let long = length-map ts (λ (v : VecDeque X Z). deque_len v) in
      let long_c = length-map ts (λ (v : VecDeque X Z). deque_capacity v) in
      let ls : lengths (set ts k t) ≡ set (lengths ts) k (deque_len t) = map-set (λ (v : VecDeque X Z). deque_len v) ts k t in
      let cs : capacities (set ts k t) ≡ set (capacities ts) k (deque_capacity t) = map-set (λ (v : VecDeque X Z). deque_capacity v) ts k t in
      let in_l : k < length (lengths ts) = omega (arith, long, tier_in) in
      let in_c : k < length (capacities ts) = omega (arith, long_c, tier_in) in
      let set_l = get_or-set_same (lengths ts) k (deque_len t) 0 in_l in
      let set_c = get_or-set_same (capacities ts) k (deque_capacity t) 0 in_c in
      let fits = length_fits ts k in
      let step = remove_middle (items_of (take k ts)) (deque_items (get_or ts k d)) (items_of (drop (k + 1) ts)) (size * k) (place % size) before (omega (arith, own, here)) in
      let P : ℕ → Type 0 = λ i. remove (items_of ts) i ≡ remove (items_of ts) place in
      let R : List X → Type 0 = λ z. remove z (size * k + place % size) ≡ remove (items_of ts) place in
      let Q : List ℕ → Type 0 = λ z. Lacks size z n k in
      let A = ap (λ (z : List ℕ). get_or z k 0) ls in
      let B = ap (λ (z : List ℕ). get_or z k 0) cs in
      record {
        items = items_set ts k t tier_in ∙ ap (λ (z : List X). items_of (take k ts) ++ (z ++ items_of (drop (k + 1) ts))) is ∙ sym step ∙ subst R (items_split ts k d tier_in) (subst P (sym at) refl);
        lacks = subst Q (sym ls) (record {
          inside = omega (arith, length-set (lengths ts) k (deque_len t), in_l);
          each = λ j lt ne. get_or-set_other (lengths ts) k j (deque_len t) 0 ne ∙ filled.each j (omega (arith, length-set (lengths ts) k (deque_len t), lt));
          here = (let f = filled.each k in_l in omega (arith, set_l, len, l, f));
        });
        gap = omega (arith, A, B, set_l, set_c, l, c, len, capacity, fits);
        room = λ m h. room_set size ts m k d t h tier_in (omega (arith, capacity));
        long = length-set ts k t;
      }

  pub takes_next : (now new : List (VecDeque X Z)) (t : ℕ) → Takes size ts now place t → items_of new ≡ items_of now → capacities new ≡ capacities now → length new ≡ length now → IsPulled (lengths now) (lengths new) t → Takes size ts new place (t + 1)
  takes_next now new t s items same long p =
      let n = length (items_of ts) in
      let next = lacks_next size (lengths now) (lengths new) n t s.lacks p in
      let off : t + 1 ≡ t → ⊥ = λ is. absurd (omega (arith, is)) in
      let here = next.here in
      let was = s.lacks.each (t + 1) p.inside off in
      let fits = length_fits now (t + 1) in
      let C = ap (λ (z : List ℕ). get_or z (t + 1) 0) same in
      let L = get_or (lengths new) (t + 1) 0 in
      record {
        items = items ∙ s.items;
        lacks = next;
        gap = omega (arith, here, was, fits, C);
        room = λ m h. subst (λ (z : List ℕ). HaveRoom size z m) (sym same) (s.room m h);
        long = long ∙ s.long;
      }

  pub takes_all : (now : List (VecDeque X Z)) (t : ℕ) → Takes size ts now place t → get_or (lengths now) (t + 1) 0 ≡ 0 → AreFilled size (lengths now) (length (items_of ts) - 1)
  takes_all now t s none =
      let most = filled_at_most size ts (length (items_of ts)) filled in
      let long = length-map now (λ (v : VecDeque X Z). deque_len v) in
      let same : length (lengths now) ≡ length ts = long ∙ s.long in
      let e = ap (λ (k : ℕ). size * k) same in
      lacks_none size (lengths now) (length (items_of ts)) t some (omega (arith, most, e)) s.lacks none
