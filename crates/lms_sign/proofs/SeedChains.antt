-- Chains that begin at a seed, and the places of the chains of several leaves in one list.
use Rattle.std.proofs.Common.{◌≡◌, ℕ, ◌+◌, ◌*◌, ◌<◌, ◌≤◌, List, [], take, replicate, slice_index, slice_index_or, refl, ap, ◌∙◌, arith}
use Rattle.std.proofs.lemmas.List.{get_or-take, get_or-replicate}
use Rattle.std.proofs.lemmas.Nat.{mul-add-lt}
use Rattle.sha256_lanes.specs.HashChain.{chain}
use Rattle.lms_sign.specs.declared.open_chain.OpenChain.{OpenChain}
use Rattle.lms_sign.specs.OneTimeSignature.{chain_place}
use Rattle.lms_sign.specs.Signing.{secret, chain_at}
use Rattle.lms_sign.specs.within.OpenChains.{from_seed, leads_to, restarted}

-- the step of the number 0xff on the seed gives a chain's start
start_is : (id seed : List ℕ) (q i : ℕ) → chain (chain_place id q i) 0xff 1 seed ≡ secret id seed q i
unfolding chain
start_is id seed q i = refl

-- a chain that began at the seed and begins again leads to a value of its leaf's chain
pub restarted_at : (id seed : List ℕ) (q i n : ℕ) (a b : OpenChain) → a ≡ from_seed id seed q i → b.place ≡ a.place → b.value ≡ leads_to a
    → leads_to (restarted b n) ≡ chain_at id seed q i n
restarted_at id seed q i n a b is place value =
    ap (λ (p : List ℕ). chain p 0 n b.value) (place ∙ ap (λ (c : OpenChain). c.place) is)
    ∙ ap (chain (chain_place id q i) 0 n) (value ∙ ap leads_to is ∙ start_is id seed q i)

-- chain i of leaf j stands below the end of all
pub stands_below : (j i leaves count : ℕ) → j < leaves → i < count → j * count + i < leaves * count
stands_below j i leaves count lt low = omega (arith, mul-add-lt j count i leaves lt low)

-- of one leaf alone, chain i stands at place i
pub of_first_leaf : (id seed : List ℕ) (q i count : ℕ) (steps : List ℕ) (values : List (List ℕ))
    → slice_index_or values (0 * count + i) [] ≡ chain_at id seed (q + 0) i (slice_index steps (0 * count + i))
    → slice_index_or values i [] ≡ chain_at id seed q i (slice_index steps i)
of_first_leaf id seed q i count steps values is =
    let at : 0 * count + i ≡ i = omega arith in
    let leaf : q + 0 ≡ q = omega arith in
    rw (at, leaf) at is

-- so many steps of each chain
pub same_steps : (steps k all most : ℕ) → all ≤ most → k < all → slice_index (take all (replicate most steps)) k ≡ steps
same_steps steps k all most le lt = get_or-take all (replicate most steps) k 0 lt ∙ get_or-replicate most k steps 0 (omega arith)
