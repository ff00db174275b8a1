-- What tests tell.
use Rattle.std.proofs.Common.{◌≡◌, Bool, true, false, cond, not, List, refl}
use Rattle.std.specs.Prelude.{◌&&◌, ◌||◌}

pub turned : (b : Bool) → not b ≡ true → b ≡ false
turned true h = absurd cc
turned false h = refl

pub false_by : (b : Bool) → (b ≡ true → ⊥) → b ≡ false
false_by true h = absurd (h refl)
false_by false h = refl

-- The one test passes, and the other one does not.
pub both : (a b : Bool) → (a && not b) ≡ true → (a ≡ true) × (b ≡ false)
both true true h = absurd cc
both true false h = (refl, refl)
both false b h = absurd cc

pub open_so : (a b : Bool) → a ≡ true → b ≡ false → (a && not b) ≡ true
open_so true false h e = refl
open_so true true h e = absurd cc
open_so false b h e = absurd cc

pub and_both : (a b : Bool) → (a && b) ≡ true → (a ≡ true) × (b ≡ true)
and_both true b h = (refl, h)
and_both false b h = absurd cc

pub or_rest : (a b c : Bool) → a ≡ false → b ≡ c → (a || b) ≡ c
or_rest true b c h k = absurd cc
or_rest false b c h k = k

-- What an insertion that had room left.
pub chosen : {X : Type 0} (b : Bool) (xs ys zs : List X) → xs ≡ cond b ys zs → b ≡ true → xs ≡ ys
chosen true xs ys zs is h = is
chosen false xs ys zs is h = absurd cc
