-- Tiers that are added, and tiers that get more room.
use Rattle.std.proofs.Common.{◌≡◌, ℕ, ◌+◌, ◌*◌, ◌-◌, ◌<◌, ◌≤◌, List, [], ◌∷◌, ◌++◌, length, min, get_or, set, take, drop, refl, sym, ap, ◌∙◌, subst, suc, zero, arith, inl, inr, length-append}
use Rattle.std.proofs.lemmas.List.{append-nil, get_or-append_right, get_or-set_other, get_or-set_same, get_or_append_left, length-map, map-append, map-set, set-get_or}
use Rattle.std.proofs.lemmas.List.Concat.{flat_map-append}
use Rattle.std.specs.VecDeque.{deque_capacity, deque_items, deque_len}
use Rattle.std.specs.declared.collections.VecDeque.{VecDeque}
use Rattle.tiered_vec.proofs.Carried.{items_set, items_split, length_at, length_is, room_set}
use Rattle.tiered_vec.proofs.Filled.{same_or_not}
use Rattle.tiered_vec.proofs.Products.{one_more}
use Rattle.tiered_vec.specs.within.Tiering.{AreFilled, HaveRoom, capacities, items_of, lengths}

-- What adding tiers keeps.
pub record Keeps {X Z : Type 0} (size : ℕ) (old now : List (VecDeque X Z)) : Type 0 where
  pub items : items_of now ≡ items_of old
  pub filled : AreFilled size (lengths old) (length (items_of old)) → AreFilled size (lengths now) (length (items_of old))
  pub room : (n : ℕ) → HaveRoom size (capacities old) n → HaveRoom size (capacities now) n

-- Up to a tier there is room for so many.
pub record Grows {X Z : Type 0} (size : ℕ) (old now : List (VecDeque X Z)) (tier most : ℕ) : Type 0 where
  pub items : items_of now ≡ items_of old
  pub lengths : lengths now ≡ lengths old
  pub room : (n : ℕ) → HaveRoom size (capacities old) n → HaveRoom size (capacities now) n
  pub each : (k : ℕ) → k < tier → min size (most - size * k) ≤ get_or (capacities now) k 0

module _ {X Z : Type 0} where
  -- Tiers hold no more than they can.
  pub at_most : (size : ℕ) (ts : List (VecDeque X Z)) → ((k : ℕ) → k < length ts → get_or (lengths ts) k 0 ≤ size) → length (items_of ts) ≤ size * length ts
  at_most size [] h = omega arith
  at_most size (t ∷ ts) h =
      let rest = at_most size ts (λ k lt. h (suc k) (omega arith)) in
      let first : deque_len t ≤ size = h zero (omega arith) in
      let long = length_is t in
      let both = length-append (deque_items t) (items_of ts) in
      let more = one_more size (length ts) in
      omega arith

  pub filled_at_most : (size : ℕ) (ts : List (VecDeque X Z)) (n : ℕ) → AreFilled size (lengths ts) n → length (items_of ts) ≤ size * length ts
  filled_at_most size ts n f =
      let long = length-map ts (λ (t : VecDeque X Z). deque_len t) in
      at_most size ts (λ k lt. let e = f.each k (omega arith) in omega arith)

  -- A number of elements is at most the room that there is for them.
  pub length_fits : (ts : List (VecDeque X Z)) (k : ℕ) → get_or (lengths ts) k 0 ≤ get_or (capacities ts) k 0
  length_fits [] k = omega arith
  length_fits (t ∷ ts) zero = t.small.1
  length_fits (t ∷ ts) (suc k) = length_fits ts k

  pub keeps_none : (size : ℕ) (ts : List (VecDeque X Z)) → Keeps size ts ts
  keeps_none size ts = record { items = refl; filled = λ f. f; room = λ n h. h }

  -- The same of a list that is equal.
  pub keeps_same : (size : ℕ) (old ts us : List (VecDeque X Z)) → Keeps size old ts → ts ≡ us → Keeps size old us
  keeps_same size old ts us s e = let P : List (VecDeque X Z) → Type 0 = λ z. Keeps size old z in subst P e s

  -- An empty tier at the end.
  pub keeps_more : (size : ℕ) (old ts : List (VecDeque X Z)) (t : VecDeque X Z) → Keeps size old ts → deque_items t ≡ [] → Keeps size old (ts ++ t ∷ [])
  keeps_more size old ts t s none =
      let n = length (items_of old) in
      let empty : deque_len t ≡ 0 = (let e = length_is t in let z = ap (λ (xs : List X). length xs) none in omega arith) in
      let P : List X → Type 0 = λ z. items_of ts ++ (z ++ []) ≡ items_of old in
      record {
        items =
            flat_map-append (λ (u : VecDeque X Z). deque_items u) ts (t ∷ []) ∙ subst P (sym none) (append-nil (items_of ts) ∙ s.items);
        filled = λ f.
            let g = s.filled f in
            let same = ap (λ (xs : List X). length xs) s.items in
            let bound = filled_at_most size ts n g in
            let long = ap (λ (m : ℕ). size * m) (length-map ts (λ (u : VecDeque X Z). deque_len u)) in
            let Q : List ℕ → Type 0 = λ ls. AreFilled size ls n in
            subst Q (sym (map-append (λ (u : VecDeque X Z). deque_len u) ts (t ∷ [])))
            (filled_push size (lengths ts) n (deque_len t) g empty (omega arith));
        room = λ m h.
            let Q : List ℕ → Type 0 = λ cs. HaveRoom size cs m in
            subst Q (sym (map-append (λ (u : VecDeque X Z). deque_capacity u) ts (t ∷ []))) (room_push size (capacities ts) m (deque_capacity t) (s.room m h));
      }
    where
      filled_push : (size : ℕ) (ls : List ℕ) (n v : ℕ) → AreFilled size ls n → v ≡ 0 → n ≤ size * length ls → AreFilled size (ls ++ v ∷ []) n
      filled_push size ls n v f e le = record {
        each = λ k lt.
            let long = length-append ls (v ∷ []) in
            elim (same_or_not k (length ls)) [
              | inl at ↦ (let last = get_or-append_right ls (v ∷ []) k k 0 (sym at) (omega arith) in
                  let P : ℕ → Type 0 = λ i. get_or (v ∷ []) i 0 ≡ min size (n - size * k) in
                  last ∙ subst P (let z : 0 ≡ k - k = omega arith in z) (let big : size * k ≡ size * length ls = ap (λ (j : ℕ). size * j) at in omega arith))
              | inr ne ↦ (let inside : k < length ls = omega arith in get_or_append_left ls (v ∷ []) 0 k inside ∙ f.each k inside)
            ];
      }

      room_push : (size : ℕ) (cs : List ℕ) (n c : ℕ) → HaveRoom size cs n → HaveRoom size (cs ++ c ∷ []) n
      room_push size cs n c h = record {
        each = λ k lt.
            let long = length-append cs (c ∷ []) in
            let e = h.enough in
            elim (same_or_not k (length cs)) [
              | inl at ↦ (let big : size * k ≡ size * length cs = ap (λ (j : ℕ). size * j) at in omega arith)
              | inr ne ↦ (let inside : k < length cs = omega arith in let there = h.each k inside in let same = get_or_append_left cs (c ∷ []) 0 k inside in omega arith)
            ];
        enough = (let long = ap (λ (m : ℕ). size * m) (length-append cs (c ∷ [])) in let more = one_more size (length cs) in let e = h.enough in omega arith);
      }

  -- Full tiers have room.
  pub grows_none : (size : ℕ) (ts : List (VecDeque X Z)) (first most : ℕ) → ((k : ℕ) → k < first → size ≤ get_or (lengths ts) k 0) → Grows size ts ts first most
  grows_none size ts first most full = record {
    items = refl;
    lengths = refl;
    room = λ n h. h;
    each = λ k lt. let f = full k lt in let e = length_fits ts k in omega arith;
  }

  -- A tier that got more room and is else as it was.
  pub grows_same : (size : ℕ) (old ts : List (VecDeque X Z)) (k most : ℕ) (d t : VecDeque X Z) → Grows size old ts k most → k < length ts → deque_items t ≡ deque_items (get_or ts k d) → deque_len t ≡ deque_len (get_or ts k d) → deque_capacity (get_or ts k d) ≤ deque_capacity t → Grows size old (set ts k t) k most
  grows_same size old ts k most d t s lt is len more = record {
    items = items_set ts k t lt ∙ ap (λ (z : List X). items_of (take k ts) ++ (z ++ items_of (drop (k + 1) ts))) is ∙ sym (items_split ts k d lt) ∙ s.items;
    lengths =
        map-set (λ (u : VecDeque X Z). deque_len u) ts k t ∙ ap (λ (v : ℕ). set (lengths ts) k v) (len ∙ sym (length_at ts k d lt)) ∙ set-get_or (lengths ts) k 0 ∙ s.lengths;
    room = λ n h. room_set size ts n k d t (s.room n h) lt more;
    each = λ j less.
        let there = s.each j less in
        let same = get_or-set_other (capacities ts) k j (deque_capacity t) 0 (omega arith) in
        let set_is = ap (λ (cs : List ℕ). get_or cs j 0) (map-set (λ (u : VecDeque X Z). deque_capacity u) ts k t) in
        omega arith;
  }

  -- It has enough room now.
  pub grows_on : (size : ℕ) (old ts : List (VecDeque X Z)) (k most : ℕ) (d t : VecDeque X Z) → Grows size old ts k most → k < length ts → deque_items t ≡ deque_items (get_or ts k d) → deque_len t ≡ deque_len (get_or ts k d) → deque_capacity (get_or ts k d) ≤ deque_capacity t → min size (most - size * k) ≤ deque_capacity t → Grows size old (set ts k t) (k + 1) most
  grows_on size old ts k most d t s lt is len more enough =
      let g = grows_same size old ts k most d t s lt is len more in
      record {
        items = g.items;
        lengths = g.lengths;
        room = g.room;
        each = λ j less.
            elim (same_or_not j k) [
              | inl at ↦ (let P : ℕ → Type 0 = λ i. min size (most - size * i) ≤ get_or (capacities (set ts k t)) i 0 in
                  let long = length-map ts (λ (u : VecDeque X Z). deque_capacity u) in
                  let set_is = ap (λ (cs : List ℕ). get_or cs k 0) (map-set (λ (u : VecDeque X Z). deque_capacity u) ts k t) in
                  let here = get_or-set_same (capacities ts) k (deque_capacity t) 0 (omega arith) in
                  subst P (sym at) (omega arith))
              | inr ne ↦ g.each j (omega arith)
            ];
      }

  -- All have enough.
  pub grown : (size : ℕ) (old ts : List (VecDeque X Z)) (k most : ℕ) → Grows size old ts k most → length ts ≤ k → most ≤ size * length ts → HaveRoom size (capacities ts) most
  grown size old ts k most s all enough = record {
    each = λ j lt. let long = length-map ts (λ (u : VecDeque X Z). deque_capacity u) in s.each j (omega arith);
    enough = let long = ap (λ (m : ℕ). size * m) (length-map ts (λ (u : VecDeque X Z). deque_capacity u)) in omega arith;
  }
