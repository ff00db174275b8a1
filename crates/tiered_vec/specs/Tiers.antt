-- What a contract sees of a list in tiers.
use Rattle.std.specs.Prelude.{ℕ, List, refl}
use Rattle.std.specs.Coded.{Coded, code_by, coded×, coded_list, coded_ℕ}

-- The elements, and for how many more elements room was made.
pub record Tiered (X : Type 0) : Type 0 where
  pub items : List X
  pub room : ℕ

-- The code of a list in tiers: that of the pair of its elements and its room.
abbrev pub tiered_code : {X : Type 0} → Coded X → Coded (Tiered X)
tiered_code {X} c =
    code_by (List X × ℕ) (coded× (coded_list c) coded_ℕ) (λ t. (t.items, t.room)) (λ p. record { items = p.0; room = p.1 }) (λ _. refl)
