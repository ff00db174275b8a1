-- Extracts: each statement that segments quote of the nodes of other shards stands beside them as an item. So a segment goes only to the
-- shard of its own node.
use Rattle.std.specs.Prelude.{◌≡◌, ◌↔◌, ◌⊎◌, ◌==◌, ◌<◌, ℕ, zero, suc, Bool, false}
use Rattle.std.specs.List.{list_any}
use Rattle.authenticators.specs.declared.authenticator.Authenticator.{Authenticator}
use Rattle.authenticators.specs.Directory.{Listing}
use Rattle.replay_verifier.specs.Meaning.{Meaning}
use Rattle.item_forms.specs.declared.forms.Fields.{Fields}
use Rattle.item_forms.specs.declared.forms.Fields.TheVariants as form
use Rattle.item_forms.specs.Pieces.{Piece}
use Rattle.evidence_item.specs.Validity.{nodes_of}
use Rattle.evidence_set.specs.declared.indication.Indication.{Indication}
use Rattle.evidence_set.specs.Valid.{AreValid}
use Rattle.evidence_set.specs.Held.{Holds}
use Rattle.evidence_set.specs.Indications.{IsExposed, IsIndication}
use Rattle.evidence_set.specs.ItemSets.{Items, Has, Join, none}
use Rattle.localities.specs.Extracts.{IsExtract}
use Rattle.localities.specs.Parts.{part_of}

-- ---- shards

-- The item's fields name a node of shard k. Those of a segment name only its own node, whomever it quotes.
abbrev pub is_own_shard : (ℕ → ℕ) → ℕ → Piece → Bool
is_own_shard deal k x = list_any (λ j. deal j == k) (nodes_of x.fields)

-- The items of shard k of a set.
abbrev pub own_shard : (ℕ → ℕ) → ℕ → Items → Items
own_shard deal k X = part_of (is_own_shard deal k) X

-- The first so many of these shards, joined.
abbrev pub own_shards_joined : (ℕ → ℕ) → ℕ → Items → Items
own_shards_joined deal zero X = none
own_shards_joined deal (suc n) X = Join (own_shards_joined deal n X) (own_shard deal n X)

-- ---- what is quoted

-- The item is a statement that stands in an item of the set, and that item's fields name no node of the statement's shard. So the item is a
-- segment that has the statement as a genuine quote.
pub record IsQuoted (ds : Listing) (deal : ℕ → ℕ) (E : Items) (x : Fields) : Type 0 where
  pub item : Piece
  pub has : Has E item
  pub statement : Authenticator
  pub stands : Holds ds item.fields statement
  pub elsewhere : is_own_shard deal (deal statement.node) item ≡ false
  pub is : x ≡ form.Auth statement

-- The set X has the items of E and what is quoted in E, and nothing else.
abbrev pub AddsQuotes : Listing → (ℕ → ℕ) → Items → Items → Type 0
AddsQuotes ds deal E X = (x : Piece) → Has X x ↔ (Has E x ⊎ IsQuoted ds deal E x.fields)

-- ---- laws, which `laws` proves

-- Let a set X have the items of E and what is quoted in E. Then each shard of X is an extract of E for each of its nodes. There is only one
-- such set. For a join it is the join of such sets, and for a valid set it is valid. If each node's shard has a number below n, the n
-- shards joined are X.
pub record QuotesAsExpected : Type 0 where
  pub extract : (ds : Listing) (deal : ℕ → ℕ) (E X : Items) (j : ℕ) → AddsQuotes ds deal E X → IsExtract ds j E (own_shard deal (deal j) X)
  pub one : (ds : Listing) (deal : ℕ → ℕ) (E X Y : Items) → AddsQuotes ds deal E X → AddsQuotes ds deal E Y → X ≡ Y
  pub join : (ds : Listing) (deal : ℕ → ℕ) (E F X Y : Items) → AddsQuotes ds deal E X → AddsQuotes ds deal F Y → AddsQuotes ds deal (Join E F) (Join X Y)
  pub valid : (ds : Listing) (deal : ℕ → ℕ) (E X : Items) → AddsQuotes ds deal E X → AreValid ds E → AreValid ds X
  pub whole : (deal : ℕ → ℕ) (n : ℕ) (X : Items) → ((j : ℕ) → deal j < n) → own_shards_joined deal n X ≡ X

-- Such a shard gives each of its nodes the indication that E gives it, and exposes it just if E does.
pub record QuotesIndicate (S : Type 0) : Type 0 where
  pub indication : (ds : Listing) (program : Meaning S) (deal : ℕ → ℕ) (E X : Items) (j : ℕ) → AddsQuotes ds deal E X → (i : Indication) → IsIndication ds program (own_shard deal (deal j) X) j i ↔ IsIndication ds program E j i
  pub exposed : (ds : Listing) (program : Meaning S) (deal : ℕ → ℕ) (E X : Items) (j : ℕ) → AddsQuotes ds deal E X → IsExposed ds program (own_shard deal (deal j) X) j ↔ IsExposed ds program E j
