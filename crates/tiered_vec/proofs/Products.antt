-- Where tiers begin.
use Rattle.std.proofs.Common.{◌≡◌, ℕ, ◌+◌, ◌*◌, ◌/◌, ◌%◌, ◌<◌, ◌≤◌, arith, inl, inr}
use Rattle.std.proofs.lemmas.Bool.{cases_lt}
use Rattle.std.proofs.lemmas.Nat.{div-add-mod', mul-le}

pub one_more : (size k : ℕ) → size * (k + 1) ≡ size * k + size
one_more size k = grind arith

pub rises : (size j k : ℕ) → j ≤ k → size * j ≤ size * k
rises size j k le = mul-le size j size k (omega arith) le

-- A tier begins where the one before it ends, or behind.
pub apart : (size j k : ℕ) → j < k → size * j + size ≤ size * k
apart size j k lt =
    let e = one_more size j in
    let le = rises size (j + 1) k (omega arith) in
    omega arith

pub below : (size j k : ℕ) → size * j < size * k → j < k
below size j k lt = elim (cases_lt j k) [
  | inl less ↦ less
  | inr le ↦ (let more = rises size k j le in absurd (omega arith))
]

-- A place is that of its tier, and one in it.
pub placed : (size place : ℕ) → size * (place / size) + place % size ≡ place
placed size place = grind (arith, div-add-mod')
