-- Proofs that are made of places.
use Rattle.std.specs.Prelude.{◌≡◌, ℕ, List, [], ◌∷◌, Option, Some, IsTrue, slice_get}
use Rattle.authenticators.specs.Directory.{Listing}
use Rattle.authenticators.specs.declared.authenticator.Authenticator.{Authenticator}
use Rattle.item_forms.specs.declared.forms.Fields.TheVariants as form
use Rattle.proofs.specs.Cases.{Case}
use Rattle.proofs.specs.ProofTexts.{items_of}
use Rattle.evidence_item.specs.Checking.{Checked, is_segment}
use Rattle.evidence_item.specs.Statements.{IsSigned}
use Rattle.node_tables.specs.declared.exposure.ExposingPlaces.{ExposingPlaces}
use Rattle.node_tables.specs.declared.exposure.ExposingPlaces.TheVariants as exposure
use Rattle.node_tables.specs.declared.row.Row.{Row}
use Rattle.node_tables.specs.Rows.{stated_at}

-- The statement of each row is signed.
abbrev pub AreSigned : Listing → List Checked → Type 0
AreSigned ds items = (r : Row) (a : Authenticator) → stated_at items r ≡ Some a → IsSigned ds a

-- If statements stand at both rows, there is a proof, and it has just these two.
abbrev pub IsTwoMade : List Checked → Row → Row → Option Case → Type 0
IsTwoMade items r q o = (a b : Authenticator) → stated_at items r ≡ Some a → stated_at items q ≡ Some b → (p : Case) × (o ≡ Some p) × (items_of p.parts ≡ form.Auth a ∷ form.Auth b ∷ [])

-- If a segment stands at the place, there is a proof, and it has just this one.
abbrev pub IsSegmentMade : List Checked → ℕ → Option Case → Type 0
IsSegmentMade items i o = (c : Checked) → slice_get items i ≡ Some c → IsTrue (is_segment c.item.fields) → (p : Case) × (o ≡ Some p) × (items_of p.parts ≡ c.item.fields ∷ [])

-- If a statement stands at the row and a segment at the place, there is a proof, and it has just these two.
abbrev pub IsDenialMade : List Checked → Row → ℕ → Option Case → Type 0
IsDenialMade items r i o =
    (a : Authenticator) (c : Checked) → stated_at items r ≡ Some a → slice_get items i ≡ Some c → IsTrue (is_segment c.item.fields) → (p : Case) × (o ≡ Some p) × (items_of p.parts ≡ form.Auth a ∷ c.item.fields ∷ [])

-- A proof was made of what exposes a node.
abbrev pub IsMade : List Checked → ExposingPlaces → Option Case → Type 0
IsMade items (exposure.TwoHashes r q) o = IsTwoMade items r q o
IsMade items (exposure.Denied r i) o = IsDenialMade items r i o
IsMade items (exposure.Deviates i) o = IsSegmentMade items i o
