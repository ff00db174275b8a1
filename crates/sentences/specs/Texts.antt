-- An explanation has a line for each node, and below it the node's sentences.
use Rattle.std.specs.Prelude.{ℕ, ◌≡◌, ◌==◌, List, [], ◌∷◌, ◌++◌, Bool, false, true, not, if◌then◌else◌, map, codes, decimal, string_bytes}
use Rattle.std.specs.List.{flat_map}
use Rattle.evidence_set.specs.declared.indication.Indication.{Indication}
use Rattle.evidence_set.specs.Names.{name_of}
use Rattle.sentences.specs.declared.explanation.Explanation.{Explanation}
use Rattle.sentences.specs.declared.explanation.NodeExplanation.{NodeExplanation}
use Rattle.sentences.specs.declared.explanation.Sentence.{Sentence}

-- What follows the word for a node's indication: that no item is of the node, or nothing.
abbrev pub mark_of : Bool → List ℕ
mark_of true = codes " (no item)"
mark_of false = []

-- The end of a node's line: a blank, the word for the node's indication, whether no item is of the node, and a line feed.
abbrev pub ending_of : Indication → Bool → List ℕ
ending_of i has_no_item = codes " " ++ name_of i ++ mark_of has_no_item ++ codes "\n"

-- A node's line: its number in decimal digits, and the end of the line.
abbrev pub row_line : NodeExplanation → List ℕ
row_line n = decimal n.node ++ ending_of n.indication n.has_no_item

-- A byte within a line: a line feed is written as a blank.
abbrev pub in_line : ℕ → ℕ
in_line b = if b == 10 then 32 else b

-- A text in one line.
abbrev pub in_one_line : List ℕ → List ℕ
in_one_line text = map in_line text

-- A sentence in a line of its own, after two blanks.
abbrev pub sentence_text : Sentence → List ℕ
sentence_text s = codes "  " ++ in_one_line (string_bytes s.text) ++ codes "\n"

-- A node's line, and its sentences.
abbrev pub node_text : NodeExplanation → List ℕ
node_text n = row_line n ++ flat_map sentence_text n.sentences.items

-- The nodes in order.
abbrev pub nodes_text : Explanation → List ℕ
nodes_text e = flat_map node_text e.nodes.items

-- The heading's line, and the nodes.
abbrev pub text_of : Explanation → List ℕ
text_of e = in_one_line (string_bytes e.heading) ++ codes "\n" ++ nodes_text e

-- The lines of the nodes alone, without their sentences.
abbrev pub report_of : Explanation → List ℕ
report_of e = flat_map row_line e.nodes.items

-- Whether a byte stands in a line that does not begin with a blank. After a line feed the byte itself shows this. After another byte it is
-- so if it was so of that one.
unfoldable pub is_margin : ℕ → Bool → ℕ → Bool
is_margin before so b = if before == 10 then not (b == 32) else so

-- The bytes of a text that stand in such lines, if the byte `before` comes before the text.
unfoldable pub margin_behind : ℕ → Bool → List ℕ → List ℕ
margin_behind before so [] = []
margin_behind before so (b ∷ text) = if is_margin before so b then b ∷ margin_behind b true text else margin_behind b (is_margin before so b) text

-- The lines of a text that do not begin with a blank, each with its line feed.
abbrev pub margin : List ℕ → List ℕ
margin text = margin_behind 10 true text
