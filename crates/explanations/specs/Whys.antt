-- The reasons for what the items of a set say of a node.
use Rattle.std.specs.Prelude.{◌≡◌, ◌↔◌, ◌++◌, ℕ, List, [], ◌∷◌, map, string_bytes, Bool, IsTrue, true, false, Result, Ok, Err}
use Rattle.std.specs.List.{All, Contains}
use Rattle.std.specs.List.Sorted.{IsStrictlyIncreasing, IsStrictlySortedBy}
use Rattle.authenticators.specs.Directory.{Listing, is_listed}
use Rattle.item_forms.specs.Pieces.{Piece, by_bytes}
use Rattle.replay_verifier.specs.Meaning.{Meaning}
use Rattle.proofs.specs.Convicting.{Convicts}
use Rattle.evidence_set.specs.declared.indication.Indication.{Indication}
use Rattle.evidence_set.specs.declared.indication.Indication.TheVariants.{Trusted, Suspected, Exposed}
use Rattle.evidence_set.specs.Indications.{IsIndication, IsUnanswered}
use Rattle.evidence_set.specs.ItemSets.{Has, Items}
use Rattle.evidence.specs.Contents.{Contents}
use Rattle.localities.specs.Known.{IsKnown}
use Rattle.proofs.specs.declared.fault.ProofFault.{ProofFault}
use Rattle.proofs.specs.declared.proof.Parts.{Parts}
use Rattle.sentences.specs.declared.basis.Basis.{Basis}
use Rattle.sentences.specs.declared.explanation.Explanation.{Explanation}
use Rattle.sentences.specs.declared.explanation.NodeExplanation.{NodeExplanation}
use Rattle.sentences.specs.Bases.{basis_text}
use Rattle.sentences.specs.Texts.{margin, nodes_text, report_of, text_of}
use Rattle.explanations.specs.Headings.{IsHeading, proof_words}
use Rattle.explanations.specs.Leads.{TellsParts}
use Rattle.explanations.specs.declared.convicting.Conviction.{Conviction}
use Rattle.explanations.specs.declared.why.Why.{Why}
use Rattle.explanations.specs.declared.why.Why.TheVariants as why
use Rattle.explanations.specs.declared.why.NodeWhy.{NodeWhy}

-- What a node is for this reason.
abbrev pub indication_of : Why → Indication
indication_of (why.Exposed q xs) = Exposed
indication_of (why.Suspected xs) = Suspected
indication_of why.Trusted = Trusted
indication_of why.Unknown = Trusted

-- The reason is that nothing is known of the node.
abbrev pub is_unknown : Why → Bool
is_unknown (why.Exposed q xs) = false
is_unknown (why.Suspected xs) = false
is_unknown why.Trusted = false
is_unknown why.Unknown = true

-- The items are those challenges against the node that no item of the set answers. They ascend by their encodings.
pub record AreOpen (ds : Listing) (E : Items) (node : ℕ) (xs : List Piece) : Type 0 where
  pub members : (x : Piece) → Contains xs x ↔ (Has E x × IsUnanswered ds E node x.fields)
  pub ascending : IsStrictlySortedBy by_bytes xs

-- If the node is exposed, the proof convicts it. The challenges are the open ones.
abbrev pub Speaks : {S : Type 0} → Listing → Meaning S → Items → ℕ → Why → Type 0
Speaks ds program E node (why.Exposed q xs) = Convicts ds program node q.parts × AreOpen ds E node (map (λ i. i.now) xs.items)
Speaks ds program E node (why.Suspected xs) = AreOpen ds E node (map (λ i. i.now) xs.items)
Speaks ds program E node why.Trusted = IsKnown ds E node
Speaks ds program E node why.Unknown = ¬ (IsKnown ds E node)

-- The set says of the node what the reason says, and what the reason names speaks against the node.
pub record IsWhy {S : Type 0} (ds : Listing) (program : Meaning S) (E : Items) (node : ℕ) (w : Why) : Type 0 where
  pub indication : IsIndication ds program E node (indication_of w)
  pub speaks : Speaks ds program E node w

-- Each listed node and no other, in ascending order of their numbers, with why it is what it is.
pub record AreWhys {S : Type 0} (program : Meaning S) (s : Contents) (rows : List NodeWhy) : Type 0 where
  pub ascending : IsStrictlyIncreasing (map (λ row. row.node) rows)
  pub complete : (node : ℕ) → Contains (map (λ row. row.node) rows) node ↔ IsTrue (is_listed s.directory node)
  pub right : All (λ row. IsWhy s.directory program s.items row.node row.why) rows

-- A node and what it is, by its reason.
abbrev pub row_of : NodeWhy → ℕ × Indication
row_of row = (row.node, indication_of row.why)

-- A node and what it is, by its explanation.
abbrev pub told_of : NodeExplanation → ℕ × Indication
told_of n = (n.node, n.indication)

-- Each listed node and no other is explained, in ascending order of their numbers, with what the set says of it.
pub record AreIndications {S : Type 0} (program : Meaning S) (s : Contents) (nodes : List NodeExplanation) : Type 0 where
  pub ascending : IsStrictlyIncreasing (map (λ n. n.node) nodes)
  pub complete : (node : ℕ) → Contains (map (λ n. n.node) nodes) node ↔ IsTrue (is_listed s.directory node)
  pub right : All (λ n. IsIndication s.directory program s.items n.node n.indication) nodes

-- An exposed node is explained by a proof that convicts it.
abbrev pub IsGrounded : {S : Type 0} → Listing → Meaning S → NodeExplanation → Type 0
IsGrounded ds program n = n.indication ≡ Exposed → (q : Parts) × Convicts ds program n.node q × TellsParts q n.sentences.items

-- A node is explained as one without an item exactly if it is trusted and the set says nothing of it: the set holds no statement of it, and
-- has no challenge against it.
abbrev pub MarksUnknown : Listing → Items → NodeExplanation → Type 0
MarksUnknown ds E n = (n.has_no_item ≡ true) ↔ ((n.indication ≡ Trusted) × (¬ (IsKnown ds E n.node)))

-- The explanation of a set has how many nodes and items there are, the nodes with their indications, and a proof that convicts each exposed
-- node.
pub record ExplainsSet {S : Type 0} (program : Meaning S) (s : Contents) (e : Explanation) : Type 0 where
  pub headed : IsHeading s.items e
  pub indicated : AreIndications program s e.nodes.items
  pub grounded : All (IsGrounded s.directory program) e.nodes.items
  pub marked : All (MarksUnknown s.directory s.items) e.nodes.items

-- The text explains the set under a basis. It begins with the lines of the basis and one line about the whole. Behind these, the lines that
-- do not begin with a blank are the nodes' own, and no other.
pub record IsExplained {S : Type 0} (program : Meaning S) (basis : Basis) (s : Contents) (text : List ℕ) : Type 0 where
  pub explanation : Explanation
  pub told : ExplainsSet program s explanation
  pub is : text ≡ basis_text basis ++ text_of explanation
  pub lines : margin (nodes_text explanation) ≡ report_of explanation

-- The explanation of a proof that convicts a node has the line about the proof, and that node alone. The node is exposed, by the proof's
-- parts.
pub record ExplainsParts (node : ℕ) (x : Parts) (e : Explanation) : Type 0 where
  pub headed : string_bytes e.heading ≡ proof_words node x
  pub told : map told_of e.nodes.items ≡ (node, Exposed) ∷ []
  pub grounded : All (λ n. TellsParts x n.sentences.items) e.nodes.items
  pub unmarked : All (λ n. n.has_no_item ≡ false) e.nodes.items

-- The node that a proof convicts, or why the proof is refused.
abbrev pub convicted_of : Result Conviction ProofFault → Result ℕ ProofFault
convicted_of (Ok c) = Ok c.node
convicted_of (Err e) = Err e
