-- Elements that are parted by commas, one after the other.
use Rattle.std.proofs.Common.{ℕ, Bool, true, false, List, ◌++◌, codes}
use Rattle.std.specs.List.{flat_map, join_by}

-- what is still to be written, where the first was written already or was not
abbrev pub left : {X : Type 0} → Bool → (X → List ℕ) → List X → List ℕ
left true f xs = join_by f (codes ",") xs
left false f xs = flat_map (λ y. codes "," ++ f y) xs
