-- Answers in lines, for people.
use Rattle.std.specs.Prelude.{ℕ, List, [], ◌++◌, codes, decimal}
use Rattle.std.specs.List.{flat_map}
use Rattle.hex.specs.Hex.{encode_lower}
use Rattle.sha2.specs.Sha256.{sha256}
use Rattle.authenticators.specs.Refusals as listing
use Rattle.containers.specs.Refusals as container
use Rattle.evidence_set.specs.Names.{name_of}
use Rattle.answers.specs.declared.keys.KeyPrint.{KeyPrint}
use Rattle.answers.specs.declared.tally.Tally.{Tally}
use Rattle.answers.specs.declared.showing.Contents.{Contents}
use Rattle.answers.specs.declared.showing.Contents.TheVariants as contents
use Rattle.answers.specs.declared.showing.Shown.{Shown}
use Rattle.answers.specs.declared.standings.Standing.{Standing}
use Rattle.answers.specs.Showing.{form_name}

-- ---- what is said of a node

-- The node's number, a blank, and the word for its indication.
abbrev pub standing_line : ℕ × Standing → List ℕ
standing_line row = decimal row.0 ++ codes " " ++ name_of row.1.indication ++ codes "\n"

-- ---- whom a proof convicts

-- The node's number. Then the name of the program, and the SHA-256 value of the directory's text, under which the node is convicted.
abbrev pub conviction_lines : ℕ → List ℕ → List ℕ → List ℕ
conviction_lines node program directory = codes "exposes " ++ decimal node ++ codes "\nprogram " ++ program ++ codes "\ndirectory " ++ encode_lower (sha256 directory) ++ codes "\n"

-- ---- what is in a text

-- A number behind its name.
abbrev pub count_line : List ℕ → ℕ → List ℕ
count_line name n = name ++ codes ": " ++ decimal n ++ codes "\n"

-- A key of a node.
unfoldable pub key_line : KeyPrint → List ℕ
key_line k = codes "key of node " ++ decimal k.node ++ codes ": SHA-256 " ++ encode_lower k.sha256 ++ codes "\n"

-- How many items there are of a node.
abbrev pub node_line : ℕ × ℕ → List ℕ
node_line row = codes "items of node " ++ decimal row.0 ++ codes ": " ++ decimal row.1 ++ codes "\n"

-- How many items there are, of each form and of each node.
abbrev pub tally_lines : Tally → List ℕ
tally_lines t =
    count_line (codes "items") t.items
    ++ count_line (codes "signed statements") t.statements
    ++ count_line (codes "segments") t.segments
    ++ count_line (codes "audit challenges") t.audit_challenges
    ++ count_line (codes "send challenges") t.send_challenges
    ++ count_line (codes "acknowledgements") t.acknowledgements
    ++ flat_map node_line t.nodes.entries

-- Why a text cannot be read: a refusal's number and its name.
abbrev pub refused_line : ℕ → List ℕ → List ℕ
refused_line number name = codes "can't be read: refused " ++ decimal number ++ codes " " ++ name ++ codes "\n"

-- What is in a text.
abbrev pub contents_lines : Contents → List ℕ
contents_lines (contents.Keys prints) = flat_map key_line prints.items
contents_lines (contents.NoDirectory f) = refused_line (listing.number_of f) (listing.name_of f)
contents_lines (contents.Items tally) = tally_lines tally
contents_lines (contents.NoItems f) = refused_line (container.number_of f.cause) (container.name_of f.cause) ++ count_line (codes "items before it") f.item
contents_lines contents.Untold = []

-- What a text is, how long it is, its SHA-256 value, and what is in it.
abbrev pub shown_lines : Shown → List ℕ
shown_lines s =
    codes "form: " ++ form_name s.form ++ codes "\n"
    ++ count_line (codes "bytes") s.bytes
    ++ codes "SHA-256: " ++ encode_lower s.sha256 ++ codes "\n"
    ++ contents_lines s.contents
