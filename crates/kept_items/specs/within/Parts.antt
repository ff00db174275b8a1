-- The segment that shared entries and what stands beside them make.
use Rattle.std.specs.Prelude.{◌≡◌, ℕ, zero, suc, Bool, false, List, [], ◌∷◌, Option, Some}
use Rattle.log_chain.specs.Chain.{hashes}
use Rattle.replay_verifier.specs.declared.verdict.Verdict.{Verdict}
use Rattle.item_forms.specs.declared.forms.Fields.{Fields}
use Rattle.item_forms.specs.declared.forms.Fields.TheVariants as form
use Rattle.item_forms.specs.declared.forms.Segment.{Segment}
use Rattle.item_forms.specs.Spelling.{Fits}
use Rattle.proofs.specs.Contradictions.{is_rising}
use Rattle.evidence_item.specs.declared.findings.Findings.{Findings}
use Rattle.evidence_item.specs.declared.findings.Findings.TheVariants as found
use Rattle.evidence_item.specs.Checking.{Checked}
use Rattle.kept_entries.specs.Shared.{SharedEntry, entries_of, hashes_of}
use Rattle.kept_items.specs.declared.pair.Pair.{Pair}
use Rattle.kept_items.specs.within.Pairing.{ArePairs}
use Rattle.kept_items.specs.within.Shared.{quotes_of}

abbrev pub segment_of : ℕ → List ℕ → List SharedEntry → List ℕ → Segment
segment_of node prev shared sig = record { node = node; prev = prev; entries = entries_of shared; sig = sig }

abbrev pub fields_of : ℕ → List ℕ → List SharedEntry → List ℕ → Fields
fields_of node prev shared sig = form.Segment (segment_of node prev shared sig)

abbrev pub findings_in : List SharedEntry → Option Findings
findings_in shared = Some (found.Segment (record { hashes = hashes_of shared; quotes = quotes_of shared }))

-- The hash before the entry at a place.
abbrev pub before : List ℕ → List SharedEntry → ℕ → List ℕ
before prev [] k = prev
before prev (x ∷ xs) zero = prev
before prev (x ∷ xs) (suc k) = before x.hash xs k

-- The checked item that they make.
abbrev pub checked_of : (node : ℕ) (prev : List ℕ) (shared : List SharedEntry) (sig : List ℕ) → Fits (fields_of node prev shared sig) → Option Verdict → Checked
checked_of node prev shared sig fits verdict = record { item = record { fields = fields_of node prev shared sig; fits = fits }; verdict = verdict; findings = findings_in shared }

-- The hashes are those of the entries, and it is known whether the numbers rise. If they do not, the pairs of number and hash stand in
-- order.
pub record IsHashed (prev : List ℕ) (shared : List SharedEntry) (rises : Bool) (pairs : List Pair) : Type 0 where
  pub hashed : hashes_of shared ≡ hashes prev (entries_of shared)
  pub rising : rises ≡ is_rising (entries_of shared)
  pub paired : rises ≡ false → ArePairs shared pairs
