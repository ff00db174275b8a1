-- The line about the whole. Of a store it says how many nodes there are by indication, and how many items; the items by form come behind
-- that. Of a proof it says whom it convicts, and its parts.
use Rattle.std.specs.Prelude.{◌≡◌, ◌==◌, ℕ, Bool, true, false, List, ◌++◌, codes, count_by, decimal, length, string_bytes, if◌then◌else◌}
use Rattle.evidence_set.specs.declared.indication.Indication.{Indication}
use Rattle.evidence_set.specs.declared.indication.Indication.TheVariants.{Trusted, Suspected, Exposed}
use Rattle.evidence_set.specs.ItemSets.{Items, count}
use Rattle.proofs.specs.declared.proof.Parts.{Parts}
use Rattle.proofs.specs.declared.proof.Parts.TheVariants as parts
use Rattle.sentences.specs.declared.explanation.Explanation.{Explanation}
use Rattle.sentences.specs.declared.explanation.NodeExplanation.{NodeExplanation}

-- Two indications are the same one.
abbrev pub is_same : Indication → Indication → Bool
is_same Trusted Trusted = true
is_same Suspected Suspected = true
is_same Exposed Exposed = true
is_same _ _ = false

-- It is said of a node that it has this indication.
abbrev pub is_told : Indication → NodeExplanation → Bool
is_told i n = is_same i n.indication

-- A number of things in words, with the word for one and the word for any other number.
abbrev pub counted : ℕ → List ℕ → List ℕ → List ℕ
counted n one more = (decimal n ++ codes " ") ++ (if n == 1 then one else more)

-- The words that say how many nodes are trusted, suspected and exposed.
abbrev pub indications_words : (trusted suspected exposed : ℕ) → List ℕ
indications_words trusted suspected exposed = (codes ": " ++ decimal trusted ++ codes " trusted, ") ++ ((decimal suspected ++ codes " suspected, ") ++ (decimal exposed ++ codes " exposed; "))

-- The words that say how many nodes there are, how many of them are trusted, suspected and exposed, and how many items there are.
abbrev pub heading_words : (nodes trusted suspected exposed items : ℕ) → List ℕ
heading_words nodes trusted suspected exposed items =
    counted nodes (codes "node") (codes "nodes") ++ (indications_words trusted suspected exposed ++ counted items (codes "item") (codes "items"))

-- The heading begins with the right numbers of the nodes that the explanation has, and of the items.
abbrev pub IsHeading : Items → Explanation → Type 0
IsHeading E e = (behind : List ℕ) × (string_bytes e.heading ≡ heading_words (length e.nodes.items) (count_by (is_told Trusted) e.nodes.items) (count_by (is_told Suspected) e.nodes.items) (count_by (is_told Exposed) e.nodes.items) (count E) ++ behind)

-- The parts of a proof, in words.
abbrev pub parts_words : Parts → List ℕ
parts_words (parts.TwoAuths a b) = codes "two statements"
parts_words (parts.AuthSegment a s) = codes "a statement and a segment"
parts_words (parts.Nonconforming s) = codes "one segment"

-- The line about a proof that convicts a node.
abbrev pub proof_words : ℕ → Parts → List ℕ
proof_words node x = codes "The proof exposes node " ++ decimal node ++ codes " by " ++ parts_words x ++ codes "."
