-- The entries of a segment as links of the chain of their log.
use Rattle.std.specs.Prelude.{◌≡◌, ◌≢◌, ◌+◌, ◌≤◌, ◌⊎◌, ℕ, true, List, [], ◌∷◌, Option, Some, None, slice_get}
use Rattle.log_chain.specs.declared.entry.Entry.{Entry}
use Rattle.log_chain.specs.Chain.{base, entry_hash}
use Rattle.item_forms.specs.declared.forms.AuditChallenge.{AuditChallenge}
use Rattle.item_forms.specs.declared.forms.Fields.{Fields}
use Rattle.item_forms.specs.declared.forms.Fields.TheVariants as form
use Rattle.item_forms.specs.declared.forms.Statement.{Statement}
use Rattle.evidence_set.specs.Challenges.{answers_audit}
use Rattle.kept_evidence.specs.Telling.{IsSegmentOf}
use Rattle.kept_items.specs.declared.link.Link.{Link}

-- The entries that follow the hash prev, as links.
abbrev pub links : List ℕ → List Entry → List Link
links prev [] = []
links prev (e ∷ es) = record { prev = prev; seq = e.seq; hash = entry_hash prev e } ∷ links (entry_hash prev e) es

-- The entry at a position of a segment, counted from 0.
abbrev pub link_in : Fields → ℕ → Option Link
link_in (form.Auth a) k = None
link_in (form.Segment s) k = slice_get (links s.prev s.entries) k
link_in (form.Audit c) k = None
link_in (form.Send m) k = None
link_in (form.Ack a) k = None

-- Two segments agree. If an entry of one has the hash of an entry of the other, the two are one link. And no entry of the second has the
-- hash before a log's first entry. They agree unless two texts with one SHA-256 value were found.
pub record Agree (x y : Fields) : Type 0 where
  pub one : (i k : ℕ) (a b : Link) → link_in x i ≡ Some a → link_in y k ≡ Some b → a.hash ≡ b.hash → a ≡ b
  pub based : (k : ℕ) (b : Link) → link_in y k ≡ Some b → b.hash ≢ base

-- The audit challenge names the hash.
abbrev pub Names : AuditChallenge → List ℕ → Type 0
Names c hash = (c.last.hash ≡ hash) ⊎ ((f : Statement) × (c.first ≡ Some f) × (f.hash ≡ hash))

-- The hash beside which an audit challenge names its last one: that of its first statement. If it has none, it is the hash before a log's
-- first entry.
abbrev pub first_hash : Option Statement → List ℕ
first_hash None = base
first_hash (Some f) = f.hash

-- The audit challenge names the hash g, and beside it the hash h.
abbrev pub NamesBeside : AuditChallenge → (g h : List ℕ) → Type 0
NamesBeside c g h = ((c.last.hash ≡ g) × (first_hash c.first ≡ h)) ⊎ ((f : Statement) × (c.first ≡ Some f) × (f.hash ≡ g) × (c.last.hash ≡ h))

-- The hash h stands d entries before position k of a segment. Before the first entry stands the hash that the segment follows.
abbrev pub IsBehind : Fields → (k d : ℕ) → List ℕ → Type 0
IsBehind x k d h = ((n : ℕ) × (b : Link) × (n + d ≡ k) × (link_in x n ≡ Some b) × (b.hash ≡ h)) ⊎ ((b : Link) × (d ≡ k) × (link_in x 0 ≡ Some b) × (b.prev ≡ h))

-- ---- a law, which `laws` proves

-- Suppose that a segment x answers an audit challenge. Then it has an entry that the challenge names, at position k, and the other hash
-- stands d entries before it. Each segment of the challenge's node answers the challenge too, if x agrees with it, and if it has that entry
-- with d entries or more before it.
abbrev pub AnswersAreInherited : Type 0
AnswersAreInherited = (c : AuditChallenge) (x : Fields) → answers_audit c x ≡ true
    → (k d : ℕ) × (a : Link) × (h : List ℕ) × (link_in x k ≡ Some a) × NamesBeside c a.hash h × IsBehind x k d h
    × ((y : Fields) (i : ℕ) → IsSegmentOf c.node y → Agree x y → link_in y i ≡ Some a → d ≤ i → answers_audit c y ≡ true)
