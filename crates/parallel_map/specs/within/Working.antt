-- What a worker gives back.
use Rattle.std.specs.Prelude.{◌≡◌, ℕ, ◌+◌, List, [], ◌++◌, map, length, All, flat_map}
use denote.Param.Members.{Shared}
use Rattle.std.specs.Fn.{FnReturns}
use Rattle.atomic_table.specs.Seated.{TableId}
use Rattle.atomic_table.specs.declared.shared.Seat.{Seat}
use Rattle.parallel_map.specs.declared.rule.View.{View}
use Rattle.parallel_map.specs.declared.workers.Placed.{Placed}
use Rattle.parallel_map.specs.declared.workers.Drawn.{Drawn}
use Rattle.parallel_map.specs.Claiming.{view}

abbrev pub GivesAt : {F T : Type 0} → Shared F (ℕ × Unit {0}) T → F → Placed T → Type 0
GivesAt g f p = FnReturns g f (p.place, tt) p.value

-- Each value is one that a call with its place may give.
abbrev pub GivesPlaced : {F T : Type 0} → Shared F (ℕ × Unit {0}) T → F → List (Placed T) → Type 0
GivesPlaced {F} {T} g f ps = All (GivesAt g f) ps

abbrev pub places : {T : Type 0} → List (Placed T) → List ℕ
places {T} ps = map (λ (p : Placed T). p.place) ps

-- A seat with one part, which has drawn nothing.
pub record Fresh (table : TableId) (s : Seat ℕ View) : Type 0 where
  pub table_is : s.table_id ≡ table
  pub me_is : s.me ≡ (view [] 0 1, [])

-- A worker's seat has the numbers of its values.
pub record Settled {T : Type 0} (table : TableId) (d : Drawn T) : Type 0 where
  pub table_is : d.seat.table_id ≡ table
  pub slots : d.seat.me.1 ≡ []
  pub numbers : d.seat.me.0.numbers ≡ places d.placed.items
  pub parts : d.seat.me.0.parts ≡ 1

-- The seat has the numbers of its values, and each value is one that the work may give.
pub record Worked {F T : Type 0} (g : Shared F (ℕ × Unit {0}) T) (f : F) (table : TableId) (d : Drawn T) : Type 0 where
  pub settled : Settled table d
  pub gives : GivesPlaced g f d.placed.items

-- A worker in its turns: the word that it saw, and its values so far.
pub record Drawing {F T : Type 0} (g : Shared F (ℕ × Unit {0}) T) (f : F) (table : TableId) (s : Seat ℕ View) (saw : ℕ) (ps : List (Placed T)) : Type 0 where
  pub table_is : s.table_id ≡ table
  pub me_is : s.me ≡ (view (places ps) saw 1, [])
  pub gives : GivesPlaced g f ps

-- A seat that takes the others in: what is left, and what came so far.
pub record Gathering {T : Type 0} (table : TableId) (all : List (Drawn T)) (parts : ℕ) (s : Seat ℕ View) (left : List (Drawn T)) (ps : List (Placed T)) : Type 0 where
  pub table_is : s.table_id ≡ table
  pub numbers : s.me.0.numbers ≡ places ps
  pub parts_is : s.me.0.parts + length left ≡ parts + length all
  pub settled : All (Settled table) left
  pub placed : ps ++ flat_map (λ (d : Drawn T). d.placed.items) left ≡ flat_map (λ (d : Drawn T). d.placed.items) all
