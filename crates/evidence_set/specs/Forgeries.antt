-- Forged statements: a set holds them of a node, and the node did not sign them.
use Rattle.std.specs.Prelude.{◌≡◌, ◌≢◌, ℕ, ◌<◌, ◌^◌, List}
use Rattle.std.specs.List.{Contains}
use Rattle.log_chain.specs.Fields.{IsBytesOf}
use Rattle.authenticators.specs.declared.authenticator.Authenticator.{Authenticator}
use Rattle.authenticators.specs.Directory.{Listing}
use Rattle.commitment.specs.Accounts.{Stamp, stamp}
use Rattle.item_forms.specs.declared.forms.Fields.TheVariants as form
use Rattle.item_forms.specs.Pieces.{Piece}
use Rattle.evidence_item.specs.Statements.{IsSigned}
use Rattle.evidence_set.specs.Valid.{AreValid}
use Rattle.evidence_set.specs.Held.{IsHeld}
use Rattle.evidence_set.specs.ItemSets.{Items, IsWithin, insert, none}

-- The set holds a statement of node j whose number and hash are not among those that the node signed. The number has eight bytes, and the
-- hash has 32 bytes.
pub record Forged (ds : Listing) (E : Items) (j : ℕ) (signed : List Stamp) : Type 0 where
  pub statement : Authenticator
  pub held : IsHeld ds E j statement
  pub number : statement.seq < 2 ^ 64
  pub hash : IsBytesOf 32 statement.hash
  pub unsigned : ¬ (Contains signed (stamp statement))

-- ---- laws, which `laws` proves

-- What is a forgery and what is none.
pub record ForgeriesAreUnsigned : Type 0 where
  -- A statement that the set holds and its node did not sign is a forgery.
  pub found : (ds : Listing) (E : Items) (j : ℕ) (signed : List Stamp) (a : Authenticator)
      → IsHeld ds E j a → ¬ (Contains signed (stamp a)) → Forged ds E j signed
  -- If the items are valid, one of the node's keys verifies the forged statement.
  pub verifies : (ds : Listing) (E : Items) (j : ℕ) (signed : List Stamp) → AreValid ds E → (f : Forged ds E j signed) → IsSigned ds f.statement
  -- If the node signed each statement that the set holds of it, there is no forgery.
  pub all_signed : (ds : Listing) (E : Items) (j : ℕ) (signed : List Stamp)
      → ((a : Authenticator) → IsHeld ds E j a → Contains signed (stamp a)) → ¬ (Forged ds E j signed)
  -- The empty set has no forgery.
  pub empty : (ds : Listing) (j : ℕ) (signed : List Stamp) → ¬ (Forged ds none j signed)
  -- Another signature of what the node signed is no forgery.
  pub again : (ds : Listing) (x : Piece) (a : Authenticator) (signed : List Stamp)
      → x.fields ≡ form.Auth a → Contains signed (stamp a) → ¬ (Forged ds (insert none x) a.node signed)
  -- A statement of another node is no forgery of node j.
  pub others : (ds : Listing) (x : Piece) (a : Authenticator) (j : ℕ) (signed : List Stamp)
      → x.fields ≡ form.Auth a → j ≢ a.node → ¬ (Forged ds (insert none x) j signed)
  -- A set with a forgery still has one if more items are added.
  pub stay : (ds : Listing) (A B : Items) (j : ℕ) (signed : List Stamp) → IsWithin A B → Forged ds A j signed → Forged ds B j signed
