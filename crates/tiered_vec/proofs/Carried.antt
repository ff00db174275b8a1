-- An element that is put in at a place, carried from tier to tier.
use Rattle.std.proofs.Common.{◌≡◌, ℕ, ◌+◌, ◌*◌, ◌-◌, ◌/◌, ◌%◌, ◌<◌, ◌≤◌, List, [], ◌∷◌, ◌++◌, length, min, get_or, set, take, drop, refl, sym, ap, ◌∙◌, subst, suc, zero, arith, length-append}
use Rattle.std.proofs.lemmas.List.{drop_more, get_or-map, length-map, map-set, set-get_or, set_split, take-append-drop}
use Rattle.std.proofs.lemmas.Nat.{mod_below}
use Rattle.std.proofs.lemmas.List.Concat.{flat_map-append}
use Rattle.std.proofs.lemmas.List.Edits.{insert-append_left, insert-append_right, insert_end}
use Rattle.std.specs.List.{insert}
use Rattle.std.specs.VecDeque.{deque_capacity, deque_items, deque_len}
use Rattle.std.specs.declared.collections.VecDeque.{VecDeque}
use Rattle.tiered_vec.proofs.Filled.{filled_more, room_grows}
use Rattle.tiered_vec.proofs.Products.{apart, below, one_more, placed}
use Rattle.tiered_vec.specs.within.Tiering.{AreFilled, HaveRoom, capacities, items_of, lengths}

-- Where an element stands that is still to be put in at a place of one of the tiers, and what is known on the way.
pub record Carries {X Z : Type 0} (size : ℕ) (old now : List (VecDeque X Z)) (place : ℕ) (x : X) (tier at : ℕ) (carried : X) : Type 0 where
  pub items : insert (items_of now) (size * tier + at) carried ≡ insert (items_of old) place x
  pub below : at < size
  pub inside : size * tier + at ≤ length (items_of old)
  pub filled : AreFilled size (lengths now) (length (items_of old))
  pub room : (n : ℕ) → HaveRoom size (capacities old) n → HaveRoom size (capacities now) n

module _ {X : Type 0} where
  -- An insert in the middle one of three parts.
  pub insert_middle : (pre u post : List X) (b at : ℕ) (c : X) → length pre ≡ b → at ≤ length u → insert (pre ++ (u ++ post)) (b + at) c ≡ pre ++ (insert u at c ++ post)
  insert_middle pre u post b at c e le =
      let away : (b + at) - b ≡ at = omega arith in
      let one = insert-append_right pre (u ++ post) b (b + at) c e (omega arith) in
      let P : ℕ → Type 0 = λ i. insert (pre ++ (u ++ post)) (b + at) c ≡ pre ++ insert (u ++ post) i c in
      subst P away one ∙ ap (λ (z : List X). pre ++ z) (insert-append_left u post at c le)

  -- The element that drops out of the middle part is put in behind it.
  pub passes : (pre u post v : List X) (b at size : ℕ) (c last : X) → length pre ≡ b → at ≤ length u → length v ≡ size → v ++ last ∷ [] ≡ insert u at c → insert (pre ++ (v ++ post)) (b + size) last ≡ insert (pre ++ (u ++ post)) (b + at) c
  passes pre u post v b at size c last e le n is =
      let whole : v ++ last ∷ [] ≡ insert v size last = (let P : ℕ → Type 0 = λ i. v ++ last ∷ [] ≡ insert v i last in subst P n (sym (insert_end v last))) in
      insert_middle pre v post b size last e (omega arith) ∙ ap (λ (z : List X). pre ++ (z ++ post)) (sym whole ∙ is) ∙ sym (insert_middle pre u post b at c e le)

module _ {X Z : Type 0} where
  -- The length of a tier, as the list of the lengths has it and as the tier does.
  pub length_at : (ts : List (VecDeque X Z)) (k : ℕ) (d : VecDeque X Z) → k < length ts → get_or (lengths ts) k 0 ≡ deque_len (get_or ts k d)
  length_at ts k d lt = get_or-map (λ (t : VecDeque X Z). deque_len t) ts k d 0 lt

  pub capacity_at : (ts : List (VecDeque X Z)) (k : ℕ) (d : VecDeque X Z) → k < length ts → get_or (capacities ts) k 0 ≡ deque_capacity (get_or ts k d)
  capacity_at ts k d lt = get_or-map (λ (t : VecDeque X Z). deque_capacity t) ts k d 0 lt

  pub length_is : (t : VecDeque X Z) → deque_len t ≡ length (deque_items t)
  length_is t = t.ok.0

  -- A tier that is not behind all elements is there.
  pub in_range : (size : ℕ) (ts : List (VecDeque X Z)) (n k : ℕ) → HaveRoom size (capacities ts) (n + 1) → size * k ≤ n → k < length ts
  in_range size ts n k h le =
      let e = h.enough in
      let long = ap (λ (m : ℕ). size * m) (length-map ts (λ (t : VecDeque X Z). deque_capacity t)) in
      below size k (length ts) (omega arith)

  pub size_at : (size : ℕ) (ts : List (VecDeque X Z)) (n k : ℕ) (d : VecDeque X Z) → AreFilled size (lengths ts) n → k < length ts → deque_len (get_or ts k d) ≡ min size (n - size * k)
  size_at size ts n k d f lt =
      let long = length-map ts (λ (t : VecDeque X Z). deque_len t) in
      sym (length_at ts k d lt) ∙ f.each k (omega arith)

  pub room_at : (size : ℕ) (ts : List (VecDeque X Z)) (n k : ℕ) (d : VecDeque X Z) → HaveRoom size (capacities ts) n → k < length ts → min size (n - size * k) ≤ deque_capacity (get_or ts k d)
  room_at size ts n k d h lt =
      let long = length-map ts (λ (t : VecDeque X Z). deque_capacity t) in
      let is = capacity_at ts k d lt in
      let e = h.each k (omega arith) in
      omega arith

  -- The elements before a tier, its own, and those behind it.
  pub items_split : (ts : List (VecDeque X Z)) (k : ℕ) (d : VecDeque X Z) → k < length ts → items_of ts ≡ items_of (take k ts) ++ (deque_items (get_or ts k d) ++ items_of (drop (k + 1) ts))
  items_split ts k d lt =
      ap (λ (z : List (VecDeque X Z)). items_of z) (sym (take-append-drop k ts)) ∙ flat_map-append (λ (t : VecDeque X Z). deque_items t) (take k ts) (drop k ts)
      ∙ ap (λ (z : List (VecDeque X Z)). items_of (take k ts) ++ items_of z) (drop_more ts k d lt)

  -- The same after a write of the tier.
  pub items_set : (ts : List (VecDeque X Z)) (k : ℕ) (t : VecDeque X Z) → k < length ts → items_of (set ts k t) ≡ items_of (take k ts) ++ (deque_items t ++ items_of (drop (k + 1) ts))
  items_set ts k t lt =
      let one : suc k ≡ k + 1 = omega arith in
      let P : ℕ → Type 0 = λ i. set ts k t ≡ take k ts ++ t ∷ drop i ts in
      ap (λ (z : List (VecDeque X Z)). items_of z) (subst P one (set_split ts k t lt)) ∙ flat_map-append (λ (u : VecDeque X Z). deque_items u) (take k ts) (t ∷ drop (k + 1) ts)

  -- Full tiers hold as many elements as they are, times a tier's.
  pub full_before : (size : ℕ) (ts : List (VecDeque X Z)) (k : ℕ) → k ≤ length ts → ((j : ℕ) → j < k → get_or (lengths ts) j 0 ≡ size) → length (items_of (take k ts)) ≡ size * k
  full_before size ts zero le h = omega arith
  full_before size [] (suc k) le h = absurd (omega arith)
  full_before size (t ∷ ts) (suc k) le h =
      let rest = full_before size ts k (omega arith) (λ j lt. h (suc j) (omega arith)) in
      let first : deque_len t ≡ size = h zero (omega arith) in
      let long = length_is t in
      let both = length-append (deque_items t) (items_of (take k ts)) in
      let more = one_more size k in
      omega arith

  -- So does every tier before one that begins within the elements.
  pub length_before : (size : ℕ) (ts : List (VecDeque X Z)) (n k : ℕ) → AreFilled size (lengths ts) n → k ≤ length ts → size * k ≤ n → length (items_of (take k ts)) ≡ size * k
  length_before size ts n k f le low =
      let long = length-map ts (λ (t : VecDeque X Z). deque_len t) in
      full_before size ts k le (λ j lt. let e = f.each j (omega arith) in let away = apart size j k lt in omega arith)

  pub room_set : (size : ℕ) (ts : List (VecDeque X Z)) (n k : ℕ) (d t : VecDeque X Z) → HaveRoom size (capacities ts) n → k < length ts → deque_capacity (get_or ts k d) ≤ deque_capacity t → HaveRoom size (capacities (set ts k t)) n
  room_set size ts n k d t h lt le =
      let long = length-map ts (λ (t : VecDeque X Z). deque_capacity t) in
      let is = capacity_at ts k d lt in
      let P : List ℕ → Type 0 = λ cs. HaveRoom size cs n in
      subst P (sym (map-set (λ (u : VecDeque X Z). deque_capacity u) ts k t)) (room_grows size (capacities ts) n k (deque_capacity t) h (omega arith) (omega arith))

  -- At first it is to be put in at its place.
  pub carries_none : (size : ℕ) (ts : List (VecDeque X Z)) (place : ℕ) (x : X) → 0 < size → place ≤ length (items_of ts) → AreFilled size (lengths ts) (length (items_of ts)) → Carries size ts ts place x (place / size) (place % size) x
  carries_none size ts place x some inside filled =
      let at = placed size place in
      let P : ℕ → Type 0 = λ i. insert (items_of ts) i x ≡ insert (items_of ts) place x in
      record {
        items = subst P (sym at) refl;
        below = mod_below place size some;
        inside = omega arith;
        filled = filled;
        room = λ n h. h;
      }

  -- A step: a full tier took the element, and gave its last one.
  pub carries_on : (size : ℕ) (old ts : List (VecDeque X Z)) (place k at : ℕ) (x c last : X) (d t : VecDeque X Z) → Carries size old ts place x k at c → k < length ts → deque_items t ++ last ∷ [] ≡ insert (deque_items (get_or ts k d)) at c → deque_len t ≡ min size (deque_len (get_or ts k d) + 1) → deque_len (get_or ts k d) ≡ size → deque_capacity (get_or ts k d) ≤ deque_capacity t → Carries size old (set ts k t) place x (k + 1) 0 last
  carries_on size old ts place k at x c last d t s lt is len full more =
      let n = length (items_of old) in
      let sized = size_at size ts n k d s.filled lt in
      let inside = s.inside in
      let under = s.below in
      let before = length_before size ts n k s.filled (omega arith) (omega arith) in
      let long : length (deque_items t) ≡ size = (let e = length_is t in omega arith) in
      let own = length_is (get_or ts k d) in
      let more_size = one_more size k in
      let step = passes (items_of (take k ts)) (deque_items (get_or ts k d)) (items_of (drop (k + 1) ts)) (deque_items t) (size * k) at size c last before (omega arith) long is in
      let same : get_or (lengths ts) k 0 ≡ deque_len t = (let e = length_at ts k d lt in omega arith) in
      record {
        items =
            (let P : ℕ → Type 0 = λ i. insert (items_of (set ts k t)) i last ≡ insert (items_of old) place x in
            let Q : List X → Type 0 = λ z. insert z (size * k + size) last ≡ insert (items_of old) place x in
            let R : List X → Type 0 = λ z. insert z (size * k + at) c ≡ insert (items_of old) place x in
            let there : size * k + size ≡ size * (k + 1) + 0 = omega arith in
            subst P there (subst Q (sym (items_set ts k t lt)) (step ∙ subst R (items_split ts k d lt) s.items)));
        below = omega arith;
        inside = omega arith;
        filled =
            (let P : List ℕ → Type 0 = λ ls. AreFilled size ls n in
            subst P (sym (map-set (λ (u : VecDeque X Z). deque_len u) ts k t ∙ ap (λ (v : ℕ). set (lengths ts) k v) (sym same) ∙ set-get_or (lengths ts) k 0)) s.filled);
        room = λ m h. room_set size ts m k d t (s.room m h) lt more;
      }

  -- The end: a tier with room took the element.
  pub ends : (size : ℕ) (old ts : List (VecDeque X Z)) (place k at : ℕ) (x c : X) (d t : VecDeque X Z) → Carries size old ts place x k at c → k < length ts → deque_items t ≡ insert (deque_items (get_or ts k d)) at c → items_of (set ts k t) ≡ insert (items_of old) place x
  ends size old ts place k at x c d t s lt is =
      let n = length (items_of old) in
      let sized = size_at size ts n k d s.filled lt in
      let inside = s.inside in
      let under = s.below in
      let before = length_before size ts n k s.filled (omega arith) (omega arith) in
      let own = length_is (get_or ts k d) in
      let step = insert_middle (items_of (take k ts)) (deque_items (get_or ts k d)) (items_of (drop (k + 1) ts)) (size * k) at c before (omega arith) in
      let R : List X → Type 0 = λ z. insert z (size * k + at) c ≡ insert (items_of old) place x in
      items_set ts k t lt ∙ ap (λ (z : List X). items_of (take k ts) ++ (z ++ items_of (drop (k + 1) ts))) is ∙ sym step ∙ subst R (items_split ts k d lt) s.items

  pub ends_filled : (size : ℕ) (old ts : List (VecDeque X Z)) (place k at : ℕ) (x c : X) (d t : VecDeque X Z) → Carries size old ts place x k at c → k < length ts → deque_len t ≡ min size (deque_len (get_or ts k d) + 1) → (deque_len (get_or ts k d) ≡ size → ⊥) → AreFilled size (lengths (set ts k t)) (length (items_of old) + 1)
  ends_filled size old ts place k at x c d t s lt len not_full =
      let n = length (items_of old) in
      let sized = size_at size ts n k d s.filled lt in
      let inside = s.inside in
      let is = length_at ts k d lt in
      let long = length-map ts (λ (u : VecDeque X Z). deque_len u) in
      let less : deque_len (get_or ts k d) < size = grind arith in
      let more : get_or (lengths ts) k 0 + 1 ≡ deque_len t = omega arith in
      let P : List ℕ → Type 0 = λ ls. AreFilled size ls (n + 1) in
      subst P (ap (λ (v : ℕ). set (lengths ts) k v) more ∙ sym (map-set (λ (u : VecDeque X Z). deque_len u) ts k t)) (filled_more size (lengths ts) n k s.filled (omega arith) (omega arith) (omega arith))
