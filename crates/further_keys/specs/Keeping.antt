-- What stays valid, what conforms and which proofs convict, if nodes have further keys.
use Rattle.std.specs.Prelude.{◌≢◌, ℕ, IsTrue, List}
use Rattle.std.specs.List.{All}
use Rattle.log_chain.specs.declared.entry.Entry.{Entry}
use Rattle.authenticators.specs.Directory.{Listing}
use Rattle.replay_verifier.specs.declared.verdict.Reason.{Reason}
use Rattle.replay_verifier.specs.declared.verdict.Reason.TheVariants.{BadReceipt}
use Rattle.replay_verifier.specs.Conforming.{Conforms, setting_of}
use Rattle.replay_verifier.specs.Deviation.{DeviatesAt, is_genuine_entry}
use Rattle.replay_verifier.specs.Meaning.{Meaning}
use Rattle.item_forms.specs.declared.forms.Fields.{Fields}
use Rattle.item_forms.specs.declared.forms.Fields.TheVariants as form
use Rattle.item_forms.specs.declared.forms.Segment.{Segment}
use Rattle.evidence_item.specs.Validity.{IsValid}
use Rattle.proofs.specs.declared.proof.Parts.{Parts}
use Rattle.proofs.specs.declared.proof.Parts.TheVariants as parts
use Rattle.proofs.specs.Convicting.{Convicts}
use Rattle.evidence_set.specs.Valid.{AreValid}
use Rattle.evidence_set.specs.Indications.{Denies, DoesNotConform, SaysTwo}
use Rattle.evidence_set.specs.ItemSets.{Items}
use Rattle.further_keys.specs.FurtherKeys.{HasFurtherKeys}

-- The entry of node me is no RECV entry whose quote is genuine under the new directory only.
abbrev pub QuotesNothingNew : Listing → Listing → ℕ → Entry → Type 0
QuotesNothingNew old new me e = IsTrue (is_genuine_entry new me e) → IsTrue (is_genuine_entry old me e)

-- If the proof is that a segment does not conform, no entry of the segment has a quote that is genuine under the new directory
-- only.
abbrev pub ShowsNothingNew : Listing → Listing → Parts → Type 0
ShowsNothingNew old new (parts.TwoAuths a b) = Unit {0}
ShowsNothingNew old new (parts.AuthSegment a s) = Unit {0}
ShowsNothingNew old new (parts.Nonconforming s) = All (QuotesNothingNew old new s.node) s.entries

-- ---- laws, which `laws` proves

-- Each item that was valid stays valid.
abbrev pub FurtherKeysKeepItems : Type 0
FurtherKeysKeepItems = (old new : Listing) → HasFurtherKeys old new → (x : Fields) → IsValid old x → IsValid new x

-- The laws:
-- - What conformed conforms.
-- - What conforms with the further keys, and quotes nothing new, conformed before.
-- - What deviated deviates at the same place and for the same reason, if the entry at that place quotes nothing new.
-- - It also does if the reason is not that the entry's quote is not genuine.
pub record FurtherKeysKeepVerdicts (S : Type 0) : Type 0 where
  pub conforms : (old new : Listing) → HasFurtherKeys old new → (me : ℕ) (program : Meaning S) (prev : List ℕ) (log : List Entry)
      → Conforms (setting_of old me program) prev log → Conforms (setting_of new me program) prev log
  pub conformed : (old new : Listing) → HasFurtherKeys old new → (me : ℕ) (program : Meaning S) (prev : List ℕ) (log : List Entry)
      → All (QuotesNothingNew old new me) log → Conforms (setting_of new me program) prev log → Conforms (setting_of old me program) prev log
  pub deviates : (old new : Listing) → HasFurtherKeys old new → (me : ℕ) (program : Meaning S) (prev : List ℕ) (log : List Entry) (at : ℕ) (why : Reason)
      → (d : DeviatesAt (setting_of old me program) prev log at why) → QuotesNothingNew old new me d.entry → DeviatesAt (setting_of new me program) prev log at why
  pub stays : (old new : Listing) → HasFurtherKeys old new → (me : ℕ) (program : Meaning S) (prev : List ℕ) (log : List Entry) (at : ℕ) (why : Reason)
      → why ≢ BadReceipt → DeviatesAt (setting_of old me program) prev log at why → DeviatesAt (setting_of new me program) prev log at why

-- A proof that convicts a node still convicts it, if it is of statements, or of a statement and a segment. A proof of a segment
-- that does not conform does so if it shows nothing new. It is enough that the entry at which the segment deviates quotes
-- nothing new, or that it deviates there for another reason than its quote.
pub record FurtherKeysKeepProofs (S : Type 0) : Type 0 where
  pub convicts : (old new : Listing) → HasFurtherKeys old new → (program : Meaning S) (node : ℕ) (x : Parts)
      → ShowsNothingNew old new x → Convicts old program node x → Convicts new program node x
  pub deviating : (old new : Listing) → HasFurtherKeys old new → (program : Meaning S) (s : Segment) (at : ℕ) (why : Reason)
      → IsValid old (form.Segment s) → (d : DeviatesAt (setting_of old s.node program) s.prev s.entries at why) → QuotesNothingNew old new s.node d.entry
      → Convicts new program s.node (parts.Nonconforming s)
  pub stays : (old new : Listing) → HasFurtherKeys old new → (program : Meaning S) (s : Segment) (at : ℕ) (why : Reason)
      → IsValid old (form.Segment s) → why ≢ BadReceipt → DeviatesAt (setting_of old s.node program) s.prev s.entries at why
      → Convicts new program s.node (parts.Nonconforming s)

-- A set of valid items stays one. If two statements expose a node, or a statement and a segment, they still expose it. A set
-- that has, with the further keys, a segment that does not conform, had one before.
pub record FurtherKeysKeepExposures (S : Type 0) : Type 0 where
  pub valid : (old new : Listing) → HasFurtherKeys old new → (E : Items) → AreValid old E → AreValid new E
  pub two : (old new : Listing) → HasFurtherKeys old new → (E : Items) (j : ℕ) → SaysTwo old E j → SaysTwo new E j
  pub denies : (old new : Listing) → HasFurtherKeys old new → (E : Items) (j : ℕ) → Denies old E j → Denies new E j
  pub deviated : (old new : Listing) → HasFurtherKeys old new → (program : Meaning S) (E : Items) (j : ℕ) → DoesNotConform new program E j → DoesNotConform old program E j
