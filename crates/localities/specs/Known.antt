-- Whether anything is known of a node. A node that behaved well is trusted, and so is a node of which there is no evidence:
-- this tells them apart.
use Rattle.std.specs.Prelude.{◌↔◌, ◌⊎◌, ℕ, Bool, IsTrue}
use Rattle.std.specs.List.{list_any}
use Rattle.authenticators.specs.declared.authenticator.Authenticator.{Authenticator}
use Rattle.authenticators.specs.Directory.{Listing, is_listed}
use Rattle.replay_verifier.specs.Meaning.{Meaning}
use Rattle.evidence_set.specs.declared.indication.Indication.TheVariants.{Trusted}
use Rattle.evidence_set.specs.Challenges.{is_against}
use Rattle.evidence_set.specs.Held.{IsHeld}
use Rattle.evidence_set.specs.Indications.{IsIndication, IsUnanswered}
use Rattle.evidence_set.specs.ItemSets.{Items, IsWithin, SomeItem, listed}
use Rattle.evidence_set.specs.Valid.{AreValid}
use Rattle.localities.specs.Concerning.{Concerns}
use Rattle.localities.specs.Extracts.{IsExtract}
use Rattle.localities.specs.Parts.{is_of}

-- The set holds a statement of node j, whoever kept it.
abbrev pub HasStatement : Listing → Items → ℕ → Type 0
HasStatement ds E j = (a : Authenticator) × IsHeld ds E j a

-- The set has a challenge against node j.
abbrev pub IsChallenged : Items → ℕ → Type 0
IsChallenged E j = SomeItem E (λ x. IsTrue (is_against j x))

-- Something is known of node j: the set holds a statement of it, or has a challenge against it.
abbrev pub IsKnown : Listing → Items → ℕ → Type 0
IsKnown ds E j = HasStatement ds E j ⊎ IsChallenged E j

-- The test of whether something is known of node j: an item of the set concerns it.
abbrev pub is_known : Listing → Items → ℕ → Bool
is_known ds E j = list_any (is_of ds j) (listed E)

-- ---- laws, which `laws` proves

-- The laws:
-- - The test holds exactly if something is known, and something is known exactly if some item concerns the node.
-- - Of the challenges, only those that no item answers need to be looked at, because an answer to a challenge holds a statement
--   of its node.
-- - More items make nothing unknown. A valid set knows something only of listed nodes.
-- - An extract for a node knows something of it exactly if the whole set does.
pub record KnownAsExpected : Type 0 where
  pub test : (ds : Listing) (E : Items) (j : ℕ) → IsTrue (is_known ds E j) ↔ IsKnown ds E j
  pub concerning : (ds : Listing) (E : Items) (j : ℕ) → IsKnown ds E j ↔ SomeItem E (λ x. Concerns ds x j)
  pub open_challenges : (ds : Listing) (E : Items) (j : ℕ) → IsKnown ds E j ↔ (HasStatement ds E j ⊎ SomeItem E (IsUnanswered ds E j))
  pub grows : (ds : Listing) (A B : Items) (j : ℕ) → IsWithin A B → IsKnown ds A j → IsKnown ds B j
  pub of_listed : (ds : Listing) (E : Items) (j : ℕ) → AreValid ds E → IsKnown ds E j → IsTrue (is_listed ds j)
  pub extract : (ds : Listing) (j : ℕ) (E X : Items) → IsExtract ds j E X → IsKnown ds X j ↔ IsKnown ds E j

-- A node of which nothing is known is trusted. So something is known of each node that is suspected or exposed.
abbrev pub UnknownAreTrusted : Type 0 → Type 0
UnknownAreTrusted S = (ds : Listing) (program : Meaning S) (E : Items) (j : ℕ) → ¬ (IsKnown ds E j) → IsIndication ds program E j Trusted
