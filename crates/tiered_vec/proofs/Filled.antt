-- The numbers of elements of tiers, and of places in them.
use Rattle.std.proofs.Common.{◌≡◌, ℕ, ◌+◌, ◌*◌, ◌-◌, ◌<◌, ◌≤◌, ◌≢◌, List, length, min, get_or, set, sym, ap, ◌∙◌, subst, arith, ◌⊎◌, inl, inr}
use Rattle.std.proofs.lemmas.Bool.{cases_lt}
use Rattle.std.proofs.lemmas.List.{get_or-set_other, get_or-set_same, length-set}
use Rattle.tiered_vec.proofs.Products.{apart}
use Rattle.tiered_vec.specs.within.Tiering.{AreFilled, HaveRoom}

-- Two numbers are the same or not.
pub same_or_not : (j k : ℕ) → (j ≡ k) ⊎ (j ≢ k)
same_or_not j k = grind arith

-- One more element in the first tier that is not full.
pub filled_more : (size : ℕ) (ls : List ℕ) (n k : ℕ) → AreFilled size ls n → k < length ls → size * k ≤ n → get_or ls k 0 < size → AreFilled size (set ls k (get_or ls k 0 + 1)) (n + 1)
filled_more size ls n k f in_range low less = record {
  each = λ j lt.
      let inside : j < length ls = omega (arith, length-set ls k (get_or ls k 0 + 1)) in
      let here = f.each k in_range in
      let there = f.each j inside in
      elim (same_or_not j k) [
        | inl e ↦ (let P : ℕ → Type 0 = λ i. get_or (set ls k (get_or ls k 0 + 1)) i 0 ≡ min size ((n + 1) - size * i) in
            subst P (sym e) (get_or-set_same ls k (get_or ls k 0 + 1) 0 in_range ∙ omega arith))
        | inr ne ↦ get_or-set_other ls k j (get_or ls k 0 + 1) 0 ne ∙ elim (cases_lt j k) [
          | inl before ↦ (let away = apart size j k before in omega arith)
          | inr behind ↦ (let away = apart size k j (omega arith) in omega arith)
        ]
      ];
}

-- Where a tier grows, there is room for as many as before.
pub room_grows : (size : ℕ) (cs : List ℕ) (n k c : ℕ) → HaveRoom size cs n → k < length cs → get_or cs k 0 ≤ c → HaveRoom size (set cs k c) n
room_grows size cs n k c h in_range more = record {
  each = λ j lt.
      let inside : j < length cs = omega (arith, length-set cs k c) in
      let there = h.each j inside in
      elim (same_or_not j k) [
        | inl e ↦ (let P : ℕ → Type 0 = λ i. min size (n - size * i) ≤ get_or (set cs k c) i 0 in
            subst P (sym e) (let here = h.each k in_range in let set_here = get_or-set_same cs k c 0 in_range in omega arith))
        | inr ne ↦ (let same = get_or-set_other cs k j c 0 ne in omega arith)
      ];
  enough = (let long = ap (λ (m : ℕ). size * m) (length-set cs k c) in let e = h.enough in omega arith);
}
