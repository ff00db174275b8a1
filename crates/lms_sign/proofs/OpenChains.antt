-- Chains that go ahead, and the lists of them.
use Rattle.std.proofs.Common.{◌≡◌, ℕ, zero, suc, ◌<◌, ◌≤◌, ◌+◌, ◌-◌, List, length, slice_index_or, slice_set, inl, inr, arith, refl, sym, ap, subst, ◌∙◌}
use Rattle.std.proofs.lemmas.Bool.{cases_eq}
use Rattle.std.proofs.lemmas.List.{get_or-set_same, get_or-set_other}
use Rattle.sha256_lanes.specs.HashChain.{chain, chain_step}
use Rattle.lms_sign.specs.declared.open_chain.OpenChain.{OpenChain}
use Rattle.lms_sign.specs.within.OpenChains.{IsAhead, leads_to}

-- one more step, after n and k
more_step : (p : List ℕ) (s n k : ℕ) (v x : List ℕ) → x ≡ chain p s (n + k) v → chain_step p (s + n + k) x ≡ chain p s (n + suc k) v
unfolding chain
more_step p s n k v x e =
    let more : n + suc k ≡ suc (n + k) = omega arith in
    let at : s + n + k ≡ s + (n + k) = omega arith in
    rw (more, at, e) refl

-- n steps and then k
pub chain_joined : (p : List ℕ) (s n k : ℕ) (v : List ℕ) → chain p (s + n) k (chain p s n v) ≡ chain p s (n + k) v
unfolding chain
chain_joined p s n zero v = let none : n + 0 ≡ n = omega arith in rw none refl
chain_joined p s n (suc k) v = more_step p s n k v (chain p (s + n) k (chain p s n v)) (chain_joined p s n k v)

-- a chain that is ahead of one that is ahead
pub further_ahead : (a b c : OpenChain) → IsAhead a b → IsAhead b c → IsAhead a c
further_ahead a b c ab bc = record { place = bc.place ∙ ab.place; left = omega (arith, ab.left, bc.left); last = bc.last ∙ ab.last; end = bc.end ∙ ab.end }

-- a chain some steps on
pub steps_ahead : (n : ℕ) (c : OpenChain) (v : List ℕ) → n ≤ c.left → v ≡ chain c.place c.step n c.value
    → IsAhead c (record { place = c.place; step = c.step + n; left = c.left - n; value = v })
steps_ahead n c v le is =
    let all : n + (c.left - n) ≡ c.left = omega arith in
    record {
      place = refl;
      left = omega arith;
      last = omega arith;
      end = ap (chain c.place (c.step + n) (c.left - n)) is ∙ chain_joined c.place c.step n (c.left - n) c.value ∙ ap (λ k. chain c.place c.step k c.value) all;
    }

-- what holds of an element after a write
pub after_set : (P : OpenChain → Type 0) (xs : List OpenChain) (at i : ℕ) (x d : OpenChain) → at < length xs
    → (i ≡ at → P x) → ((i ≡ at → ⊥) → P (slice_index_or xs i d)) → P (slice_index_or (slice_set xs at x) i d)
after_set P xs at i x d lt new old = elim (cases_eq i at) [
  | inl same ↦ subst (λ k. P (slice_index_or (slice_set xs at x) k d)) (sym same) (subst P (sym (get_or-set_same xs at x d lt)) (new same))
  | inr other ↦ subst P (sym (get_or-set_other xs at i x d other)) (old other)
]

-- a chain that has no step left has its end
no_step : (p : List ℕ) (s n : ℕ) (v : List ℕ) → n ≡ 0 → chain p s n v ≡ v
unfolding chain
no_step p s n v is = rw is refl

-- what a chain at its end has
pub end_reached : (before now : OpenChain) → IsAhead before now → now.left ≡ 0 → now.value ≡ leads_to before
end_reached before now ahead done = sym (no_step now.place now.step now.left now.value done) ∙ ahead.end
