-- How many bytes the blocks of vectors take, one vector after another.
use Rattle.std.proofs.Common.{◌≡◌, ℕ, zero, suc, ◌+◌, ◌≤◌, ◌<◌, List, [], ◌∷◌, length, get_or, take, Vec, ap, arith}
use Rattle.std.specs.declared.alloc.Global.{Global}
use Rattle.journal.specs.Journal.{size_of, texts_of}

-- the first ones and the next one take no more than all
pub size_within : (vectors : List (Vec ℕ Global)) (i : ℕ) (v : Vec ℕ Global) → i < length vectors → v ≡ get_or vectors i v
    → size_of (texts_of (take i vectors)) + 9 + length v.items ≤ size_of (texts_of vectors)
size_within [] i v lt is = absurd (omega arith)
size_within (w ∷ vectors) zero v lt is = let same : length v.items ≡ length w.items = ap (λ (x : Vec ℕ Global). length x.items) is in omega (arith, same)
size_within (w ∷ vectors) (suc i) v lt is = omega (arith, size_within vectors i v (omega (arith, lt)) is)

-- the first ones and the next one
pub size_next : (vectors : List (Vec ℕ Global)) (i : ℕ) (v : Vec ℕ Global) → i < length vectors → v ≡ get_or vectors i v
    → size_of (texts_of (take (suc i) vectors)) ≡ size_of (texts_of (take i vectors)) + 9 + length v.items
size_next [] i v lt is = absurd (omega arith)
size_next (w ∷ vectors) zero v lt is = let same : length v.items ≡ length w.items = ap (λ (x : Vec ℕ Global). length x.items) is in omega (arith, same)
size_next (w ∷ vectors) (suc i) v lt is = omega (arith, size_next vectors i v (omega (arith, lt)) is)
