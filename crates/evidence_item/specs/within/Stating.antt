-- What items that are no segments state.
use Rattle.std.specs.Prelude.{◌≡◌, ◌<◌, ℕ, Bool, true, false, length, slice_index_or, List, [], ◌∷◌, ◌++◌, Option, Some, None, Result, Ok, Err, cond, map}
use Rattle.std.specs.List.{list_all}
use Rattle.authenticators.specs.declared.authenticator.Authenticator.{Authenticator}
use Rattle.authenticators.specs.declared.claims.Claim.{Claim}
use Rattle.authenticators.specs.Directory.{Listing}
use Rattle.item_forms.specs.declared.forms.Fields.{Fields}
use Rattle.item_forms.specs.Pieces.{Piece}
use Rattle.evidence_item.specs.declared.examining.Found.{Found}
use Rattle.evidence_item.specs.declared.fault.ItemFault.{ItemFault}
use Rattle.evidence_item.specs.declared.fault.ItemFault.TheVariants.{BadSignature}
use Rattle.evidence_item.specs.declared.stating.Stated.{Stated}
use Rattle.evidence_item.specs.declared.stating.Stated.TheVariants as stated
use Rattle.evidence_item.specs.Checking.{findings_of, is_segment}
use Rattle.evidence_item.specs.Examining.{findings_as}
use Rattle.evidence_item.specs.Statements.{says, statements_of}
use Rattle.evidence_item.specs.Validity.{early_fault}

-- The statement that is claimed.
abbrev pub said : Claim → Authenticator
said c = says c.node c.seq c.hash c.sig.now

abbrev pub first_in : Option Claim → List Claim
first_in None = []
first_in (Some c) = c ∷ []

-- What is claimed, in order.
abbrev pub claims_of : Stated → List Claim
claims_of (stated.Auth c) = c ∷ []
claims_of (stated.Audit first last) = first_in first ++ last ∷ []
claims_of (stated.Send c) = c ∷ []
claims_of (stated.Ack sent received) = sent ∷ received ∷ []

-- What is found where all of it is signed: the hashes that do not stand in the item's fields.
abbrev pub found_of : Stated → Found
found_of (stated.Auth c) = record { sent = None; received = None }
found_of (stated.Audit first last) = record { sent = None; received = None }
found_of (stated.Send c) = record { sent = Some c.hash; received = None }
found_of (stated.Ack sent received) = record { sent = Some sent.hash; received = Some received.hash }

-- The item is no segment, no test holds that verifies no signature, its statements are claimed, and what is found is its own.
pub record States (ds : Listing) (x : Fields) (s : Stated) : Type 0 where
  pub other : is_segment x ≡ false
  pub sound : early_fault ds x ≡ None
  pub claims : map said (claims_of s) ≡ statements_of x
  pub found : findings_of ds x ≡ findings_as (found_of s)

-- What was looked at of an item: nothing of a segment; else what it states, or why it is refused.
abbrev pub Stage : Type 0
Stage = Option (Result Stated ItemFault)

-- The stage is the item's.
abbrev pub IsStated : Listing → Fields → Result Stated ItemFault → Type 0
IsStated ds x (Ok s) = States ds x s
IsStated ds x (Err e) = (is_segment x ≡ false) × (early_fault ds x ≡ Some e)

abbrev pub IsStage : Listing → Fields → Stage → Type 0
IsStage ds x None = is_segment x ≡ true
IsStage ds x (Some stated) = IsStated ds x stated

-- There is one for each item, at its place.
pub record AreStages (ds : Listing) (items : List Piece) (stages : List Stage) : Type 0 where
  pub count : length stages ≡ length items
  pub each : (n : ℕ) (x : Piece) (s : Stage) → n < length items → IsStage ds (slice_index_or items n x).fields (slice_index_or stages n s)

-- What is claimed of the item.
abbrev pub claims_in : Stage → List Claim
claims_in None = []
claims_in (Some (Err e)) = []
claims_in (Some (Ok s)) = claims_of s

-- What is known of an item whose claims have these answers.
abbrev pub concluded : List Bool → Stage → Option (Result Found ItemFault)
concluded answers None = None
concluded answers (Some (Err e)) = Some (Err e)
concluded answers (Some (Ok s)) = Some (cond (list_all (λ b. b) answers) (Ok (found_of s)) (Err BadSignature))
