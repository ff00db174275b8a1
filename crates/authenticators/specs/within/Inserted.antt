-- A statement that is inserted.
use Rattle.std.specs.Prelude.{◌≡◌, ◌↔◌, ◌⊎◌, Bool, false, List, Result, Ok, IfOk, IfErr, OnOk, OnErr}
use Rattle.std.specs.List.{Contains}
use Rattle.authenticators.specs.declared.authenticator.Authenticator.{Authenticator}
use Rattle.authenticators.specs.declared.authenticator_store.InsertRefused.{InsertRefused}
use Rattle.authenticators.specs.StatementSet.{IsAscending}

-- The statement is now among those that are held, and whether it is new was returned; or it was given back, and nothing changed.
pub record HasInserted (old new : List Authenticator) (statement : Authenticator) (result : Result Bool InsertRefused) : Type 0 where
  pub told : IfOk result (λ is_new. (is_new ≡ false) ↔ Contains old statement)
  -- That it is held already is reported, whether there is memory or not.
  pub held : Contains old statement → result ≡ Ok false
  pub added : OnOk result ((x : Authenticator) → Contains new x ↔ (Contains old x ⊎ (x ≡ statement)))
  pub given_back : IfErr result (λ refused. refused.0 ≡ statement)
  pub unchanged : OnErr result (new ≡ old)
  pub ascending : IsAscending new
