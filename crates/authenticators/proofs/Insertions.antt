-- The ways in which a statement is inserted.
use Rattle.std.proofs.Common.{◌≡◌, Bool, true, false, List, Result, Ok, Err, ◌⊎◌, inl, ⊎_elim, refl, sym, subst}
use Rattle.std.specs.Prelude.{◌↔◌}
use Rattle.std.specs.List.{Contains}
use Rattle.authenticators.specs.declared.authenticator.Authenticator.{Authenticator}
use Rattle.authenticators.specs.declared.authenticator_store.InsertRefused.{InsertRefused}
use Rattle.authenticators.specs.StatementSet.{IsAscending}
use Rattle.authenticators.specs.within.Inserted.{HasInserted}

-- it was held
pub held_before : (held : List Authenticator) (x : Authenticator) → IsAscending held → Contains held x → HasInserted held held x (Ok false)
held_before held x up there = record {
  told = (λ _. there, λ _. refl);
  held = λ _. refl;
  added = λ y. (λ has. inl has, λ h. ⊎_elim (λ has. has) (λ (is : y ≡ x). subst (Contains held) (sym is) there) h);
  given_back = tt;
  unchanged = tt;
  ascending = up;
}

-- it was not, and a growth was refused
pub refused_back : (held new : List Authenticator) (x : Authenticator) (refused : InsertRefused) → IsAscending held → (Contains held x → ⊥) → refused.0 ≡ x → new ≡ held → HasInserted held new x (Err refused)
refused_back held new x refused up absent same is = record {
  told = tt;
  held = λ has. absurd (absent has);
  added = tt;
  given_back = same;
  unchanged = is;
  ascending = subst IsAscending (sym is) up;
}

-- it was not, and now is
pub held_now : (held new : List Authenticator) (x : Authenticator) → (Contains held x → ⊥) → ((y : Authenticator) → Contains new y ↔ (Contains held y ⊎ (y ≡ x))) → IsAscending new → HasInserted held new x (Ok true)
held_now held new x absent added up = record {
  told = (λ e. absurd cc, λ has. absurd (absent has));
  held = λ has. absurd (absent has);
  added = added;
  given_back = tt;
  unchanged = tt;
  ascending = up;
}

-- the same of an equal list
pub into_equal : {r : Result Bool InsertRefused} (held same new : List Authenticator) (x : Authenticator) → held ≡ same → HasInserted held new x r → HasInserted same new x r
into_equal {r} held same new x is inserted = subst (λ (l : List Authenticator). HasInserted l new x r) is inserted
