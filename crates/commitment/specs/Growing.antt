-- A call only adds to what a node keeps, at the ends of its lists. `laws` proves it.
use Rattle.std.specs.Prelude.{◌≡◌, List, ◌++◌}
use Rattle.commitment.specs.Accounts.{Account}
use Rattle.commitment.specs.Calls.{Given, after_call}
use Rattle.commitment.specs.Nodes.{NodeState}
use Rattle.replay_verifier.specs.Meaning.{Meaning}

-- The new list is the old one with more after it.
pub record GrowsTo {A : Type 0} (old new : List A) : Type 0 where
  pub more : List A
  pub is : new ≡ old ++ more

-- It is the same node. Its log, its statements, the messages that it sent and those that it received are as they were, with more after
-- them.
pub record OnlyAdds (old new : Account) : Type 0 where
  pub me : new.me ≡ old.me
  pub entries : GrowsTo old.entries new.entries
  pub signed : GrowsTo old.signed new.signed
  pub sent : GrowsTo old.sent new.sent
  pub heard : GrowsTo old.heard new.heard

-- Whatever a call gives a node, its account only grows at the ends, and its directory stays.
pub record CallsOnlyAdd (S : Type 0) : Type 0 where
  pub account : (p : Meaning S) (n : NodeState S) (x : Given) → OnlyAdds n.account (after_call p n x).account
  pub directory : (p : Meaning S) (n : NodeState S) (x : Given) → (after_call p n x).directory ≡ n.directory
