-- Answers as JSON (RFC 8259), for programs: one document, in one line. Names and words have no character that JSON escapes.
use Rattle.std.specs.Prelude.{ℕ, Bool, true, false, List, [], ◌++◌, codes, decimal}
use Rattle.std.specs.List.{join_by}
use Rattle.hex.specs.Hex.{encode_lower}
use Rattle.sha2.specs.Sha256.{sha256}
use Rattle.authenticators.specs.Refusals as listing
use Rattle.containers.specs.Refusals as container
use Rattle.evidence_set.specs.declared.indication.Indication.{Indication}
use Rattle.evidence_set.specs.Names.{name_of}
use Rattle.answers.specs.declared.form.TextForm.{TextForm}
use Rattle.answers.specs.declared.keys.KeyPrint.{KeyPrint}
use Rattle.answers.specs.declared.tally.Tally.{Tally}
use Rattle.answers.specs.declared.showing.Contents.{Contents}
use Rattle.answers.specs.declared.showing.Contents.TheVariants as contents
use Rattle.answers.specs.declared.showing.Shown.{Shown}
use Rattle.answers.specs.declared.standings.Standing.{Standing}
use Rattle.answers.specs.Showing.{form_name}

-- What stands between an element and the one before it.
abbrev pub comma : Bool → List ℕ
comma true = []
comma false = codes ","

-- A truth value, as a literal.
abbrev pub literal_of : Bool → List ℕ
literal_of true = codes "true"
literal_of false = codes "false"

-- ---- what is said of a node

-- The node's number, and the word for its indication.
unfoldable pub indication_members : ℕ → Indication → List ℕ
indication_members node i = codes "\"node\":" ++ decimal node ++ codes ",\"indication\":\"" ++ name_of i ++ codes "\""

-- Whether anything is known of the node.
unfoldable pub known_member : Bool → List ℕ
known_member known = codes ",\"known\":" ++ literal_of known

-- What is said of a node.
abbrev pub standing_object : ℕ × Standing → List ℕ
standing_object row = codes "{" ++ indication_members row.0 row.1.indication ++ known_member row.1.known ++ codes "}"

-- What is said of each of these nodes. In front of it stand the name of the program and the SHA-256 value of the directory's text, under
-- which it is said.
abbrev pub standings_json : List ℕ → List ℕ → List (ℕ × Standing) → List ℕ
standings_json program directory rows =
    codes "{\"program\":\"" ++ program ++ codes "\",\"directory\":\"" ++ encode_lower (sha256 directory)
    ++ codes "\",\"nodes\":[" ++ join_by standing_object (codes ",") rows ++ codes "]}\n"

-- ---- whom a proof convicts

-- The node's number. Then the name of the program, and the SHA-256 value of the directory's text, under which the node is convicted.
abbrev pub conviction_members : ℕ → List ℕ → List ℕ → List ℕ
conviction_members node program directory = codes "\"exposes\":" ++ decimal node ++ codes ",\"program\":\"" ++ program ++ codes "\",\"directory\":\"" ++ encode_lower (sha256 directory) ++ codes "\""

-- The document that says whom a proof convicts.
abbrev pub conviction_json : ℕ → List ℕ → List ℕ → List ℕ
conviction_json node program directory = codes "{" ++ conviction_members node program directory ++ codes "}\n"

-- ---- what is in a text

-- A comma, a name, and a number behind it.
unfoldable pub count_member : List ℕ → ℕ → List ℕ
count_member name n = codes ",\"" ++ name ++ codes "\":" ++ decimal n

-- A key of a node.
abbrev pub key_object : KeyPrint → List ℕ
key_object k = codes "{\"node\":" ++ decimal k.node ++ codes ",\"sha256\":\"" ++ encode_lower k.sha256 ++ codes "\"}"

-- How many items there are of a node.
abbrev pub node_object : ℕ × ℕ → List ℕ
node_object row = codes "{\"node\":" ++ decimal row.0 ++ codes ",\"items\":" ++ decimal row.1 ++ codes "}"

-- How many items there are of each node.
unfoldable pub nodes_member : List (ℕ × ℕ) → List ℕ
nodes_member rows = codes ",\"nodes\":[" ++ join_by node_object (codes ",") rows ++ codes "]"

-- How many statements and segments there are.
unfoldable pub logged_members : Tally → List ℕ
logged_members t = count_member (codes "statements") t.statements ++ count_member (codes "segments") t.segments

-- How many challenges there are.
unfoldable pub asked_members : Tally → List ℕ
asked_members t = count_member (codes "audit_challenges") t.audit_challenges ++ count_member (codes "send_challenges") t.send_challenges

-- How many items there are, of each form and of each node.
abbrev pub tally_members : Tally → List ℕ
tally_members t =
    count_member (codes "items") t.items ++ logged_members t ++ asked_members t
    ++ count_member (codes "acknowledgements") t.acknowledgements ++ nodes_member t.nodes.entries

-- The name of a refusal.
unfoldable pub name_member : List ℕ → List ℕ
name_member name = codes ",\"name\":\"" ++ name ++ codes "\""

-- Why a text cannot be read: a refusal's number and its name.
abbrev pub refused_members : ℕ → List ℕ → List ℕ
refused_members number name = count_member (codes "refused") number ++ name_member name

-- What is in a text.
abbrev pub contents_members : Contents → List ℕ
contents_members (contents.Keys prints) = codes ",\"keys\":[" ++ join_by key_object (codes ",") prints.items ++ codes "]"
contents_members (contents.NoDirectory f) = refused_members (listing.number_of f) (listing.name_of f)
contents_members (contents.Items tally) = tally_members tally
contents_members (contents.NoItems f) = refused_members (container.number_of f.cause) (container.name_of f.cause) ++ count_member (codes "items_before") f.item
contents_members contents.Untold = []

-- What a text is.
unfoldable pub form_member : TextForm → List ℕ
form_member f = codes "{\"form\":\"" ++ form_name f ++ codes "\""

-- The SHA-256 value of a text.
unfoldable pub digest_member : List ℕ → List ℕ
digest_member digest = codes ",\"sha256\":\"" ++ encode_lower digest ++ codes "\""

-- The document that says what a text is, how long it is, its SHA-256 value, and what is in it.
abbrev pub shown_json : Shown → List ℕ
shown_json s = form_member s.form ++ count_member (codes "bytes") s.bytes ++ digest_member s.sha256 ++ contents_members s.contents ++ codes "}\n"
