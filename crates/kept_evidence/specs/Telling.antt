-- What a list of items and a list of statements say of a node, as tests.
use Rattle.std.specs.Prelude.{◌≡◌, ℕ, ◌==◌, ◌&&◌, ◌||◌, not, is_some, List, [], ◌∷◌, ◌++◌, Bool, true, false, Option, Some, None}
use Rattle.std.specs.List.{Contains, cons_option, list_any}
use Rattle.log_chain.specs.declared.entry.Entry.{Entry}
use Rattle.authenticators.specs.declared.authenticator.Authenticator.{Authenticator}
use Rattle.authenticators.specs.StatementSet.{Conflict, NoConflictOf}
use Rattle.item_forms.specs.Messages.{Message}
use Rattle.replay_verifier.specs.declared.verdict.Verdict.{Verdict}
use Rattle.replay_verifier.specs.declared.verdict.Verdict.TheVariants as verdict
use Rattle.replay_verifier.specs.Quotes.{Quote, receipt_of}
use Rattle.item_forms.specs.declared.forms.Fields.{Fields}
use Rattle.item_forms.specs.declared.forms.Fields.TheVariants as form
use Rattle.item_forms.specs.declared.forms.Segment.{Segment}
use Rattle.item_forms.specs.Segments.{last_seq}
use Rattle.proofs.specs.Contradictions.{contradicts}
use Rattle.evidence_item.specs.declared.findings.Findings.{Findings}
use Rattle.evidence_item.specs.declared.findings.Findings.TheVariants as found
use Rattle.evidence_item.specs.declared.findings.SegmentFindings.{SegmentFindings}
use Rattle.evidence_item.specs.Checking.{Checked}
use Rattle.evidence_item.specs.Statements.{first_named, named, says}
use Rattle.evidence_set.specs.Challenges.{answers_audit, is_against, is_of_number, is_same_sending}
use Rattle.kept_evidence.specs.declared.exposure.Exposure.{Exposure}
use Rattle.kept_evidence.specs.declared.exposure.Exposure.TheVariants as exposure

-- The item is a segment that the statement contradicts.
abbrev pub denies : Authenticator → Fields → Bool
denies a (form.Auth b) = false
denies a (form.Segment s) = contradicts a.seq a.hash s
denies a (form.Audit c) = false
denies a (form.Send m) = false
denies a (form.Ack b) = false

-- The item is a segment that one of the statements contradicts.
abbrev pub is_denied : List Authenticator → Fields → Bool
is_denied held (form.Auth b) = false
is_denied held (form.Segment s) = list_any (λ a. contradicts a.seq a.hash s) held
is_denied held (form.Audit c) = false
is_denied held (form.Send m) = false
is_denied held (form.Ack b) = false

-- The verdict is that the entries deviate.
abbrev pub deviates : Option Verdict → Bool
deviates None = false
deviates (Some verdict.Conforms) = false
deviates (Some (verdict.Deviates at reason)) = true

-- The entry is a receipt of a message of this sender and number, and its quote is genuine: the hash of the quoted statement was
-- found.
abbrev pub is_told_receipt : Message → Entry → Option (List ℕ) → Bool
is_told_receipt m e hash = is_some hash && is_of_number m (receipt_of e.content)

-- One of the entries is such a receipt. The hashes are those that were found of the entries' quotes.
abbrev pub told_receipt : Message → List Entry → List (Option (List ℕ)) → Bool
told_receipt m [] hashes = false
told_receipt m (e ∷ es) [] = false
told_receipt m (e ∷ es) (h ∷ hs) = is_told_receipt m e h || told_receipt m es hs

-- For each entry of a segment, the hash of the statement that it quotes genuinely. The list is empty if these were not found.
abbrev pub found_quotes : Option Findings → List (Option (List ℕ))
found_quotes None = []
found_quotes (Some (found.Segment f)) = f.quotes
found_quotes (Some (found.Send h)) = []
found_quotes (Some (found.Ack h i)) = []

-- The item answers the send challenge of message m, by its fields and by what was found of it.
abbrev pub told_send : Message → Fields → Option Findings → Bool
told_send m (form.Auth a) f = false
told_send m (form.Segment s) f = (s.node == m.to) && told_receipt m s.entries (found_quotes f)
told_send m (form.Audit c) f = false
told_send m (form.Send n) f = false
told_send m (form.Ack a) f = is_same_sending a.message m

-- The item answers the challenge, of either form.
abbrev pub told_answers : Fields → Checked → Bool
told_answers (form.Auth a) c = false
told_answers (form.Segment s) c = false
told_answers (form.Audit d) c = answers_audit d c.item.fields
told_answers (form.Send m) c = told_send m c.item.fields c.findings
told_answers (form.Ack a) c = false

-- Some item of the list answers the challenge.
abbrev pub is_answered : List Checked → Fields → Bool
is_answered kept x = list_any (told_answers x) kept

-- The item is a challenge against node j that no item of the list answers.
abbrev pub is_unanswered : List Checked → ℕ → Fields → Bool
is_unanswered kept j x = is_against j x && not (is_answered kept x)

-- ---- a node

-- The item is a segment of node j.
abbrev pub IsSegmentOf : ℕ → Fields → Type 0
IsSegmentOf j (form.Auth a) = ⊥
IsSegmentOf j (form.Segment s) = s.node ≡ j
IsSegmentOf j (form.Audit c) = ⊥
IsSegmentOf j (form.Send m) = ⊥
IsSegmentOf j (form.Ack a) = ⊥

-- The list has the item, and it is a segment of node j.
pub record IsKeptOf (j : ℕ) (kept : List Checked) (c : Checked) : Type 0 where
  pub contains : Contains kept c
  pub segment : IsSegmentOf j c.item.fields

-- No statement of node j that is held contradicts a segment of j that is kept.
abbrev pub IsUndenied : ℕ → List Authenticator → List Checked → Type 0
IsUndenied j held kept = (c : Checked) → IsKeptOf j kept c → (a : Authenticator) → Contains held a → a.node ≡ j → denies a c.item.fields ≡ false

-- No segment of node j that is kept has the verdict that it deviates.
abbrev pub DeviatesNowhere : ℕ → List Checked → Type 0
DeviatesNowhere j kept = (c : Checked) → IsKeptOf j kept c → deviates c.verdict ≡ false

-- Nothing that is kept exposes node j.
pub record IsUnexposed (j : ℕ) (held : List Authenticator) (kept : List Checked) : Type 0 where
  pub one_hash : NoConflictOf j held
  pub undenied : IsUndenied j held kept
  pub conforming : DeviatesNowhere j kept

-- The two statements are held, they are of node j, and they are in conflict.
pub record AreTwo (j : ℕ) (held : List Authenticator) (a b : Authenticator) : Type 0 where
  pub one : Contains held a
  pub other : Contains held b
  pub of : a.node ≡ j
  pub conflict : Conflict a b

-- The statement is held and is of node j. It contradicts the segment, which is kept and of j.
pub record IsDenial (j : ℕ) (held : List Authenticator) (kept : List Checked) (a : Authenticator) (c : Checked) : Type 0 where
  pub statement : Contains held a
  pub of : a.node ≡ j
  pub segment : IsKeptOf j kept c
  pub contradicts : denies a c.item.fields ≡ true

-- The segment is kept and is of node j, and its verdict is that it deviates.
pub record IsDeviation (j : ℕ) (kept : List Checked) (c : Checked) : Type 0 where
  pub segment : IsKeptOf j kept c
  pub verdict : deviates c.verdict ≡ true

-- What was found exposes node j.
abbrev pub Shows : {P : Type 0} → ℕ → List Authenticator → List Checked → Exposure P → Type 0
Shows j held kept (exposure.TwoHashes a b) = AreTwo j held a.now b.now
Shows j held kept (exposure.Denied d) = IsDenial j held kept d.statement.now d.segment.now
Shows j held kept (exposure.Deviates c) = IsDeviation j kept c.now

-- ---- the statements of an item

-- The last of the hashes, or `prev` if there is none.
abbrev pub last_or : List ℕ → List (List ℕ) → List ℕ
last_or prev [] = prev
last_or prev (h ∷ []) = h
last_or prev (h ∷ i ∷ hs) = last_or prev (i ∷ hs)

-- The statement that a quote makes with this hash.
abbrev pub quote_with : List ℕ → Option Quote → Option Authenticator
quote_with hash None = None
quote_with hash (Some q) = Some (says q.from q.seq hash q.sig)

-- The statement that the entry quotes, if its hash was found.
abbrev pub told_quote : Entry → Option (List ℕ) → Option Authenticator
told_quote e None = None
told_quote e (Some hash) = quote_with hash (receipt_of e.content)

-- The statements that the entries quote, of which these hashes were found.
abbrev pub told_quotes : List Entry → List (Option (List ℕ)) → List Authenticator
told_quotes [] hashes = []
told_quotes (e ∷ es) [] = []
told_quotes (e ∷ es) (h ∷ hs) = cons_option (told_quote e h) (told_quotes es hs)

-- The statements that a segment holds: its own, and those that its entries quote.
abbrev pub told_segment : Segment → SegmentFindings → List Authenticator
told_segment s f = says s.node (last_seq s.entries) (last_or s.prev f.hashes) s.sig ∷ told_quotes s.entries f.quotes

-- The statements that an item holds, made from its fields and from what was found of it.
abbrev pub told_statements : Fields → Option Findings → List Authenticator
told_statements (form.Auth a) f = a ∷ []
told_statements (form.Segment s) (Some (found.Segment f)) = told_segment s f
told_statements (form.Segment s) (Some (found.Send h)) = []
told_statements (form.Segment s) (Some (found.Ack h i)) = []
told_statements (form.Segment s) None = []
told_statements (form.Audit c) f = first_named c.node c.first ++ named c.node c.last ∷ []
told_statements (form.Send m) (Some (found.Send h)) = says m.from m.seq h m.sig ∷ []
told_statements (form.Send m) (Some (found.Segment f)) = []
told_statements (form.Send m) (Some (found.Ack h i)) = []
told_statements (form.Send m) None = []
told_statements (form.Ack a) (Some (found.Ack h i)) = says a.message.from a.message.seq h a.message.sig ∷ says a.message.to a.seq i a.sig ∷ []
told_statements (form.Ack a) (Some (found.Segment f)) = []
told_statements (form.Ack a) (Some (found.Send h)) = []
told_statements (form.Ack a) None = []
