-- The tiers of a list, whole again after each step, and the element at a place.
use Rattle.std.proofs.Common.{◌≡◌, ℕ, ◌+◌, ◌-◌, ◌*◌, ◌/◌, ◌%◌, ◌<◌, ◌≤◌, List, ◌++◌, length, get_or, take, drop, sym, ap, ◌∙◌, subst, arith}
use Rattle.std.proofs.lemmas.Nat.{mod_below}
use Rattle.std.proofs.lemmas.List.{length-map, take_at}
use Rattle.std.proofs.lemmas.List.Concat.{get_or-flat_map}
use Rattle.std.proofs.lemmas.List.Edits.{length-insert, length-remove}
use Rattle.std.specs.List.{insert, remove}
use Rattle.std.specs.VecDeque.{deque_capacity, deque_items, deque_len}
use Rattle.std.specs.declared.collections.VecDeque.{VecDeque}
use Rattle.tiered_vec.proofs.Carried.{length_before, length_is, size_at}
use Rattle.tiered_vec.proofs.Grown.{Keeps}
use Rattle.tiered_vec.proofs.Products.{apart, below, placed}
use Rattle.tiered_vec.specs.within.Tiering.{AreFilled, AreTiers, HaveRoom, capacities, items_of, lengths}

module _ {X Z : Type 0} where
  -- What a slice of a `Vec` leaves in it.
  pub refilled : (xs ws : List (VecDeque X Z)) (n : ℕ) → n ≡ length ws → take n (ws ++ drop (length ws) xs) ≡ ws
  refilled xs ws n e = take_at ws (drop (length ws) xs) n (sym e)

  pub tiers_added : (size : ℕ) (old new : List (VecDeque X Z)) (len most : ℕ) → AreTiers size old len most → Keeps size old new → AreTiers size new len most
  tiers_added size old new len most a k =
      let P : ℕ → Type 0 = λ n. AreFilled size (lengths new) n in
      let Q : ℕ → Type 0 = λ n. AreFilled size (lengths old) n in
      record {
        total = ap (λ (xs : List X). length xs) k.items ∙ a.total;
        filled = subst P a.total (k.filled (subst Q (sym a.total) a.filled));
        room = k.room most a.room;
        within = a.within;
        some = a.some;
      }

  -- More room, and nothing else.
  pub tiers_grown : (size : ℕ) (old lent new : List (VecDeque X Z)) (m len most : ℕ) → AreTiers size old len most → lent ≡ old → m ≡ length old → length new ≡ length lent → items_of new ≡ items_of lent → lengths new ≡ lengths lent → HaveRoom size (capacities new) most → AreTiers size (take m (new ++ drop (length new) old)) len most
  tiers_grown size old lent new m len most a e n long items ls room =
      let same_length = ap (λ (ts : List (VecDeque X Z)). length ts) e in
      let P : List (VecDeque X Z) → Type 0 = λ ts. AreTiers size ts len most in
      let Q : List ℕ → Type 0 = λ z. AreFilled size z len in
      subst P (sym (refilled old new m (omega arith))) (record {
        total = ap (λ (xs : List X). length xs) (items ∙ ap (λ (ts : List (VecDeque X Z)). items_of ts) e) ∙ a.total;
        filled = subst Q (sym (ls ∙ ap (λ (ts : List (VecDeque X Z)). lengths ts) e)) a.filled;
        room = room;
        within = a.within;
        some = a.some;
      })

  pub tiers_put : (size : ℕ) (old lent new : List (VecDeque X Z)) (m len most place : ℕ) (x : X) → AreTiers size old len most → lent ≡ old → m ≡ length old → length new ≡ length lent → place ≤ len → len + 1 ≤ most → items_of new ≡ insert (items_of lent) place x → AreFilled size (lengths new) (length (items_of lent) + 1) → ((n : ℕ) → HaveRoom size (capacities lent) n → HaveRoom size (capacities new) n) → AreTiers size (take m (new ++ drop (length new) old)) (len + 1) most
  tiers_put size old lent new m len most place x a e n long inside roomy items filled room =
      let same_length = ap (λ (ts : List (VecDeque X Z)). length ts) e in
      let count = ap (λ (ts : List (VecDeque X Z)). length (items_of ts)) e in
      let total = a.total in
      let put = ap (λ (xs : List X). length xs) items in
      let one = length-insert (items_of lent) place x (omega arith) in
      let now : length (items_of lent) + 1 ≡ len + 1 = omega arith in
      let P : List (VecDeque X Z) → Type 0 = λ ts. AreTiers size ts (len + 1) most in
      let Q : ℕ → Type 0 = λ z. AreFilled size (lengths new) z in
      let R : List (VecDeque X Z) → Type 0 = λ ts. HaveRoom size (capacities ts) most in
      subst P (sym (refilled old new m (omega arith))) (record {
        total = omega arith;
        filled = subst Q now filled;
        room = room most (subst R (sym e) a.room);
        within = omega arith;
        some = a.some;
      })

  pub tiers_cut : (size : ℕ) (old lent new : List (VecDeque X Z)) (m len most place : ℕ) → AreTiers size old len most → lent ≡ old → m ≡ length old → length new ≡ length lent → place < len → items_of new ≡ remove (items_of lent) place → AreFilled size (lengths new) (length (items_of lent) - 1) → ((n : ℕ) → HaveRoom size (capacities lent) n → HaveRoom size (capacities new) n) → AreTiers size (take m (new ++ drop (length new) old)) (len - 1) most
  tiers_cut size old lent new m len most place a e n long inside items filled room =
      let same_length = ap (λ (ts : List (VecDeque X Z)). length ts) e in
      let count = ap (λ (ts : List (VecDeque X Z)). length (items_of ts)) e in
      let total = a.total in
      let within = a.within in
      let left = ap (λ (xs : List X). length xs) items in
      let one = length-remove (items_of lent) place (omega (arith, inside, count, total)) in
      let now : length (items_of lent) - 1 ≡ len - 1 = omega (arith, count, total) in
      let P : List (VecDeque X Z) → Type 0 = λ ts. AreTiers size ts (len - 1) most in
      let Q : ℕ → Type 0 = λ z. AreFilled size (lengths new) z in
      let R : List (VecDeque X Z) → Type 0 = λ ts. HaveRoom size (capacities ts) most in
      subst P (sym (refilled old new m (omega (arith, n, long, same_length)))) (record {
        total = omega (arith, left, one, count, total);
        filled = subst Q now filled;
        room = room most (subst R (sym e) a.room);
        within = omega (arith, within);
        some = a.some;
      })

  -- A place that is taken lies in a tier.
  pub tier_there : (size : ℕ) (ts : List (VecDeque X Z)) (len most place : ℕ) → AreTiers size ts len most → place < len → place / size < length ts
  tier_there size ts len most place a lt =
      let e = a.room.enough in
      let within = a.within in
      let long = ap (λ (m : ℕ). size * m) (length-map ts (λ (t : VecDeque X Z). deque_capacity t)) in
      let at = placed size place in
      below size (place / size) (length ts) (omega arith)

  -- And in that tier there is an element.
  pub at_tier : (size : ℕ) (ts : List (VecDeque X Z)) (len most place : ℕ) (t : VecDeque X Z) → AreTiers size ts len most → place < len → t ≡ get_or ts (place / size) t → place % size < deque_len t
  at_tier size ts len most place t a lt is =
      let sized = size_at size ts len (place / size) t a.filled (tier_there size ts len most place a lt) in
      let same = ap (λ (u : VecDeque X Z). deque_len u) is in
      let at = placed size place in
      let under = mod_below place size a.some in
      omega arith

  -- It is that of the list.
  pub at_place : (size : ℕ) (ts : List (VecDeque X Z)) (len most place : ℕ) (t : VecDeque X Z) (y : X) → AreTiers size ts len most → place < len → t ≡ get_or ts (place / size) t → y ≡ get_or (deque_items t) (place % size) y → y ≡ get_or (items_of ts) place y
  at_place size ts len most place t y a lt is read =
      let there = tier_there size ts len most place a lt in
      let offset = at_tier size ts len most place t a lt is in
      let own = length_is t in
      let same = ap (λ (u : VecDeque X Z). length (deque_items u)) is in
      let row = placed size place in
      let before = length_before size ts len (place / size) a.filled (omega arith) (omega arith) in
      let found = get_or-flat_map (λ (u : VecDeque X Z). deque_items u) ts (place / size) (place % size) t y there (omega arith) in
      let at : length (items_of (take (place / size) ts)) + place % size ≡ place = omega arith in
      let P : ℕ → Type 0 = λ i. get_or (items_of ts) i y ≡ get_or (deque_items (get_or ts (place / size) t)) (place % size) y in
      read ∙ ap (λ (u : VecDeque X Z). get_or (deque_items u) (place % size) y) is ∙ sym (subst P at found)

  -- The tiers before the one where the next element goes are full.
  pub full_tiers : (size : ℕ) (ts lent : List (VecDeque X Z)) (len most k : ℕ) → AreTiers size ts len most → lent ≡ ts → k < len / size → size ≤ get_or (lengths lent) k 0
  full_tiers size ts lent len most k a e lt =
      let at = placed size len in
      let away = apart size k (len / size) lt in
      let enough = a.room.enough in
      let within = a.within in
      let some = a.some in
      let long = ap (λ (m : ℕ). size * m) (length-map ts (λ (t : VecDeque X Z). deque_capacity t)) in
      let inside : k < length ts = below size k (length ts) (omega arith) in
      let sizes = length-map ts (λ (t : VecDeque X Z). deque_len t) in
      let is = a.filled.each k (omega arith) in
      let P : List (VecDeque X Z) → Type 0 = λ us. size ≤ get_or (lengths us) k 0 in
      subst P (sym e) (omega arith)
