-- What a page shows: what the verdict is given under, and what is said of each node.
use Rattle.std.specs.Prelude.{◌≡◌, ℕ, List, ◌++◌, codes, decimal, string_bytes}
use Rattle.std.specs.List.{flat_map}
use Rattle.evidence_set.specs.Names.{name_of}
use Rattle.page_text.specs.Escaping.{escaped}
use Rattle.page_text.specs.Pages.{IsPage, head_of}
use Rattle.sentences.specs.declared.basis.Basis.{Basis}
use Rattle.sentences.specs.declared.explanation.Explanation.{Explanation}
use Rattle.sentences.specs.declared.explanation.NodeExplanation.{NodeExplanation}
use Rattle.sentences.specs.declared.site.Input.{Input}
use Rattle.sentences.specs.declared.site.Input.TheVariants as input
use Rattle.sentences.specs.Bases.{groups, input_name}
use Rattle.sentences.specs.Texts.{mark_of}

-- ---- under what it is said

-- The heading, by what was judged.
abbrev pub heading_name : Input → List ℕ
heading_name input.Store = codes "What the evidence says"
heading_name input.Union = codes "What the evidence says"
heading_name input.Proof = codes "What the proof shows"

-- The title: the heading, and the line about the whole.
abbrev pub title_text : Basis → List ℕ → List ℕ
title_text b summary = heading_name b.input ++ codes ": " ++ summary

-- The heading as it stands, and below it the line about the whole.
abbrev pub heading_text : List ℕ → List ℕ → List ℕ
heading_text heading summary = codes "<body>\n<header>\n<h1>" ++ (escaped heading ++ (codes "</h1>\n<p class=\"summary\">" ++ (escaped summary ++ codes "</p>\n")))

-- A name, and the text that it is the name of.
abbrev pub term_text : List ℕ → List ℕ → List ℕ
term_text name value = codes "<dt>" ++ (escaped name ++ (codes "</dt><dd>" ++ (escaped value ++ codes "</dd>\n")))

-- A name, and the digits that it is the name of.
abbrev pub digits_text : List ℕ → List ℕ → List ℕ
digits_text name digits = codes "<dt>" ++ (escaped name ++ (codes "</dt><dd><code>" ++ (escaped digits ++ codes "</code></dd>\n")))

-- A name, and the SHA-256 value of what it names, in groups of digits.
abbrev pub digest_text : List ℕ → List ℕ → List ℕ
digest_text name hash = digits_text (codes "SHA-256 of " ++ name) (groups hash)

-- The name of what was judged.
abbrev pub judged_name : Input → List ℕ
judged_name i = codes "the " ++ input_name i

-- The program, and the digests of the directory and of what was judged.
abbrev pub terms_text : Basis → List ℕ
terms_text b = term_text (codes "Program") (string_bytes b.program) ++ (digest_text (codes "the directory") b.directory ++ digest_text (judged_name b.input) b.evidence)

-- The list of what the verdict is given under.
abbrev pub basis_list : Basis → List ℕ
basis_list b = codes "<dl class=\"basis\">\n" ++ (terms_text b ++ codes "</dl>\n")

-- The beginning of the page, after its head.
abbrev pub front_text : Basis → List ℕ → List ℕ
front_text b summary = heading_text (heading_name b.input) summary ++ basis_list b

-- ---- nodes

-- The link from the list of all nodes to a node's section.
abbrev pub link_text : ℕ → List ℕ
link_text node = codes "<li><a href=\"#node-" ++ (decimal node ++ (codes "\">node " ++ (decimal node ++ codes "</a> ")))

-- The word for what is said of a node, and whether no item is of it.
abbrev pub said_text : NodeExplanation → List ℕ
said_text n = name_of n.indication ++ mark_of n.has_no_item

-- A node in the list: the link, and what is said of the node.
abbrev pub entry_text : NodeExplanation → List ℕ
entry_text n = link_text n.node ++ said_text n ++ codes "</li>\n"

-- The nodes in the list, in order.
abbrev pub entries_text : List NodeExplanation → List ℕ
entries_text nodes = flat_map entry_text nodes

-- ---- the page

-- The text begins with a head, the line about the whole, and what the verdict is given under. Further on it has the list of the nodes.
pub record Shows (basis : Basis) (summary : List ℕ) (nodes : List NodeExplanation) (text : List ℕ) : Type 0 where
  pub style : List ℕ
  pub between : List ℕ
  pub behind : List ℕ
  pub is : text ≡ head_of (title_text basis summary) style ++ (front_text basis summary ++ (between ++ (entries_text nodes ++ behind)))

-- The text is a page. It shows what the explanation is given under, and what is said of each node.
pub record IsPageOf (basis : Basis) (e : Explanation) (text : List ℕ) : Type 0 where
  pub page : IsPage text
  pub shows : Shows basis (string_bytes e.heading) e.nodes.items text
