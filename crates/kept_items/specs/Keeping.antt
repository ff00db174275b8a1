-- What can be kept, and which node an item is about.
use Rattle.std.specs.Prelude.{◌≡◌, ◌≤◌, ◌+◌, ◌-◌, ◌^◌, ℕ, Bool, false, List, Option, Some, None, length, min, true, if◌then◌else◌, IfSome}
use Rattle.log_chain.specs.Chain.{hashes}
use Rattle.authenticators.specs.declared.authenticator.Authenticator.{Authenticator}
use Rattle.authenticators.specs.Directory.{Listing}
use Rattle.replay_verifier.specs.Deviation.{is_base}
use Rattle.item_forms.specs.declared.forms.Fields.{Fields}
use Rattle.item_forms.specs.declared.forms.Fields.TheVariants as form
use Rattle.item_forms.specs.declared.forms.Segment.{Segment}
use Rattle.item_forms.specs.Segments.{first_seq, last_seq}
use Rattle.proofs.specs.Contradictions.{is_rising}
use Rattle.evidence_item.specs.declared.findings.Findings.{Findings}
use Rattle.evidence_item.specs.Checking.{AreFindings, Checked, IsFound, findings_of}
use Rattle.kept_evidence.specs.Kept.{found_hashes}
use Rattle.kept_evidence.specs.Telling.{denies, found_quotes}
use Rattle.kept_items.specs.declared.reach.Reach.{Reach}

-- ---- what can be kept

-- The hash of each entry of a segment was found, and for each entry it was found whether it has a genuine quote.
pub record IsFoundSegment (s : Segment) (f : Option Findings) : Type 0 where
  pub hashed : found_hashes f ≡ Some (hashes s.prev s.entries)
  pub quoted : length (found_quotes f) ≡ length s.entries

-- An item with these fields and these findings can be kept.
abbrev pub CanBeKeptWith : Fields → Option Findings → Type 0
CanBeKeptWith (form.Auth a) f = Unit {0}
CanBeKeptWith (form.Segment s) f = IsFoundSegment s f
CanBeKeptWith (form.Audit c) f = Unit {0}
CanBeKeptWith (form.Send m) f = Unit {0}
CanBeKeptWith (form.Ack a) f = Unit {0}

-- A checked item can be kept. A segment can if these were found of it, and any other item can.
abbrev pub CanBeKept : Checked → Type 0
CanBeKept c = CanBeKeptWith c.item.fields c.findings

-- ---- which node an item is about

-- Whether the item is a challenge.
abbrev pub is_challenge : Fields → Bool
is_challenge (form.Auth a) = false
is_challenge (form.Segment s) = false
is_challenge (form.Audit c) = true
is_challenge (form.Send m) = true
is_challenge (form.Ack a) = false

-- The node of a segment, the node that a challenge is against, or the node that sent an acknowledgement. A statement has none.
abbrev pub subject : Fields → Option ℕ
subject (form.Auth a) = None
subject (form.Segment s) = Some s.node
subject (form.Audit c) = Some c.node
subject (form.Send m) = Some m.to
subject (form.Ack a) = Some a.message.to

-- ---- which statements can contradict a segment

-- The next number. The greatest number stands for itself, since none is above it.
abbrev pub above : ℕ → ℕ
above n = min (n + 1) (2 ^ 64 - 1)

-- Where a segment begins that follows this hash and has this first number: 0 if it begins a log, and else one above the number.
abbrev pub low_number : List ℕ → ℕ → ℕ
low_number prev first = if is_base prev then 0 else above first

-- Where a segment begins, and its last number. Nothing contradicts a segment whose numbers do not rise, so no number lies within its reach.
abbrev pub segment_reach : Segment → Reach
segment_reach s = if is_rising s.entries then record { low = low_number s.prev (first_seq s.entries); last = last_seq s.entries } else record { low = 2 ^ 64 - 1; last = 0 }

-- The reach of an item, if it is a segment.
abbrev pub reach : Fields → Option Reach
reach (form.Auth a) = None
reach (form.Segment s) = Some (segment_reach s)
reach (form.Audit c) = None
reach (form.Send m) = None
reach (form.Ack a) = None

-- ---- laws, which `laws` proves

-- An item can be kept if its findings are those that checking finds under some directory.
abbrev pub FoundItemsCanBeKept : Type 0
FoundItemsCanBeKept = (ds : Listing) (c : Checked) → c.findings ≡ findings_of ds c.item.fields → CanBeKept c

-- An item can be kept if its findings, if it has any, are its own under some directory, and if none are missing. `IsFound` says of which
-- forms there are findings.
abbrev pub CheckedItemsCanBeKept : Type 0
CheckedItemsCanBeKept = (ds : Listing) (c : Checked) → IfSome c.findings (AreFindings ds c.item.fields) → IsFound c.item.fields c.findings → CanBeKept c

-- A statement with this number lies within the reach. If the segment does not begin a log, its first number is at most one above this
-- number, or at most two above if it is the greatest 64-bit number.
pub record IsWithin (n : ℕ) (r : Reach) : Type 0 where
  pub from : r.low ≤ n + 2
  pub to : n ≤ r.last

-- A statement that contradicts a segment lies within its reach.
abbrev pub DenialsAreWithinReach : Type 0
DenialsAreWithinReach = (a : Authenticator) (x : Fields) (r : Reach) → reach x ≡ Some r → denies a x ≡ true → IsWithin a.seq r
