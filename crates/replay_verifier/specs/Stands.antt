-- Where a log stands after entries that conform.
use Rattle.std.specs.Prelude.{◌≡◌, ℕ, List, [], ◌∷◌, Option, Some, None}
use Rattle.log_chain.specs.declared.entry.Entry.{Entry}
use Rattle.log_chain.specs.Chain.{Rising}
use Rattle.replay_verifier.specs.Conforming.{Setting, act, Begins, Stand, at_rest, Leads, ComeOnce, Conforms}

-- There are entries after the hash prev, and they conform. The first begins the log, and the others lead from there to the stand y.
pub record IsStandBehind {S : Type 0} (z : Setting S) (prev : List ℕ) (log : List Entry) (y : Stand S) : Type 0 where
  pub first : Entry
  pub rest : List Entry
  pub parts : log ≡ first ∷ rest
  pub rising : Rising log
  pub once : ComeOnce log
  pub start : S
  pub begins : Begins z prev (act first) start
  pub leads : Leads z (at_rest start) rest y

-- Where the log stands after the entries: at this stand; or nowhere, since they do not conform or there are none.
abbrev pub IsStanding : {S : Type 0} → Setting S → List ℕ → List Entry → Option (Stand S) → Type 0
IsStanding z prev log None = Conforms z prev log → log ≡ []
IsStanding z prev log (Some y) = IsStandBehind z prev log y
