-- Statements that are joined with those that are held.
use Rattle.std.specs.Prelude.{◌≡◌, ◌≤◌, ◌↔◌, ◌⊎◌, ℕ, Bool, List, ◌++◌, length, reverse}
use Rattle.std.specs.List.{AllWithin, Contains, list_any}
use Rattle.std.specs.Ordering.{eq_by_cmp}
use Rattle.std.specs.declared.cmp.Ordering.TheVariants.{Less, Greater}
use Rattle.authenticators.specs.declared.authenticator.Authenticator.{Authenticator}
use Rattle.authenticators.specs.StatementSet.{by_fields, IsAscending}

-- The statement is held, as a test.
abbrev pub is_held : List Authenticator → Authenticator → Bool
is_held held x = list_any (eq_by_cmp by_fields x) held

-- The place of a statement that is not held: what stands before the place is below it, and the others are above it.
pub record IsPlaceOf (x : Authenticator) (held : List Authenticator) (place : ℕ) : Type 0 where
  pub inside : place ≤ length held
  pub below : AllWithin (λ y. by_fields y x ≡ Less) held 0 place
  pub above : AllWithin (λ y. by_fields y x ≡ Greater) held place (length held)

-- What is held, and behind it what was moved away from its end, the last first.
abbrev pub with_moved : List Authenticator → List Authenticator → List Authenticator
with_moved held moved = held ++ reverse moved

-- Each of these is above the statement.
abbrev pub AreAbove : Authenticator → List Authenticator → Type 0
AreAbove x moved = (y : Authenticator) → Contains moved y → by_fields x y ≡ Less

-- Each of these is the statement, or above it.
abbrev pub AreFrom : Authenticator → List Authenticator → Type 0
AreFrom x moved = (y : Authenticator) → Contains moved y → (y ≡ x) ⊎ (by_fields x y ≡ Less)

-- The statement stands among those that are held and were moved, and nothing below it was moved.
pub record IsPut (held moved : List Authenticator) (x : Authenticator) (held' moved' : List Authenticator) : Type 0 where
  pub ascending : IsAscending (with_moved held' moved')
  pub added : (y : Authenticator) → Contains (with_moved held' moved') y ↔ (Contains (with_moved held moved) y ⊎ (y ≡ x))
  pub from : AreFrom x moved'
