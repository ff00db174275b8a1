-- What a text is and what is in it. Nothing of the text is checked: no signature, no log, and no node against a directory.
use Rattle.std.specs.Prelude.{ℕ, zero, suc, ◌≡◌, Bool, true, false, ◌||◌, List, [], ◌∷◌, length, map, nat_eq, take, codes, count_by, Option, Some, None, Result, Ok, Err, ltb, if◌then◌else◌}
use Rattle.std.specs.BTreeMap.{IsOrdered, get}
use Rattle.std.specs.List.{flat_map}
use Rattle.std.specs.Ordering.{nat_cmp}
use Rattle.std.specs.Str.{bytes_eq}
use Rattle.sha2.specs.Sha256.{sha256}
use Rattle.lms_sign.specs.KeyText.{key_text}
use Rattle.lms_sign.specs.declared.key.PublicKey.{PublicKey}
use Rattle.authenticators.specs.Directory.{Listing, keys_at}
use Rattle.authenticators.specs.DirectoryText.{directory_of}
use Rattle.item_forms.specs.declared.forms.Fields.{Fields}
use Rattle.item_forms.specs.declared.forms.Fields.TheVariants as item
use Rattle.item_forms.specs.declared.fault.DecodeFault.{DecodeFault}
use Rattle.item_forms.specs.Reading.{item_of}
use Rattle.containers.specs.declared.fault.ImportFault.{ImportFault}
use Rattle.containers.specs.Container.{import_of}
use Rattle.containers.specs.DecodedItems.{decoded_of}
use Rattle.proofs.specs.declared.proof.Parts.{Parts}
use Rattle.proofs.specs.ProofTexts.{items_of, proof_of}
use Rattle.authenticators.specs.declared.fault.DirectoryFault.{DirectoryFault}
use Rattle.answers.specs.declared.form.TextForm.{TextForm}
use Rattle.answers.specs.declared.form.TextForm.TheVariants as form
use Rattle.answers.specs.declared.keys.KeyPrint.{KeyPrint}
use Rattle.answers.specs.declared.tally.Kind.{Kind}
use Rattle.answers.specs.declared.tally.Kind.TheVariants as kind
use Rattle.answers.specs.declared.tally.Seen.{Seen}
use Rattle.answers.specs.declared.tally.Tally.{Tally}
use Rattle.answers.specs.declared.showing.Contents.{Contents}
use Rattle.answers.specs.declared.showing.Contents.TheVariants as contents
use Rattle.answers.specs.declared.showing.Shown.{Shown}

-- ---- what a text is

-- What eight bytes say that a text is.
unfoldable pub form_of_front : List ℕ → TextForm
form_of_front front =
    if bytes_eq front (codes "PRDIREC2") || bytes_eq front (codes "PRDIRECT") then form.Directory
    else (if bytes_eq front (codes "PRSTORE2") || bytes_eq front (codes "PRSTORE1") then form.Store
    else (if bytes_eq front (codes "PRSUMM01") || bytes_eq front (codes "PRSUMM02") then form.Summary
    else (if bytes_eq front (codes "PROUTL01") then form.Outline
    else (if bytes_eq front (codes "PRPACK01") then form.Pack
    else form.Unknown))))

-- What the first eight bytes of a text say that it is.
unfoldable pub known_form : List ℕ → TextForm
known_form text = if ltb (length text) 8 then form.Unknown else form_of_front (take 8 text)

-- What a text is that begins as none of these and is no proof, by what it is read as.
abbrev pub item_form : Result Fields DecodeFault → TextForm
item_form (Ok x) = form.Item
item_form (Err f) = form.Unknown

-- What a text is that begins as none of these, by what it is read as.
abbrev pub plain_form : Result Parts DecodeFault → Result Fields DecodeFault → TextForm
plain_form (Ok parts) item = form.Proof
plain_form (Err e) item = item_form item

-- What the first eight bytes say, if they say something. Otherwise what the text is read as.
abbrev pub or_plain : TextForm → TextForm → TextForm
or_plain form.Proof plain = plain
or_plain form.Item plain = plain
or_plain form.Unknown plain = plain
or_plain f plain = f

-- What a text is.
abbrev pub form_of : List ℕ → TextForm
form_of text = or_plain (known_form text) (plain_form (proof_of text) (item_of text))

-- The word for a form.
abbrev pub form_name : TextForm → List ℕ
form_name form.Directory = codes "directory"
form_name form.Store = codes "store"
form_name form.Summary = codes "summary"
form_name form.Outline = codes "outline"
form_name form.Pack = codes "pack"
form_name form.Proof = codes "proof"
form_name form.Item = codes "item"
form_name form.Unknown = codes "unknown"

-- ---- a directory's keys

-- A key of a node, by the SHA-256 value of its text.
abbrev pub print_of : ℕ → PublicKey → KeyPrint
print_of node key = record { node = node; sha256 = sha256 (key_text key) }

-- The keys of a node, in the order of their numbers.
abbrev pub prints_in : ℕ → Option (List PublicKey) → List KeyPrint
prints_in node None = []
prints_in node (Some keys) = map (print_of node) keys

-- The keys of a node that a directory lists.
abbrev pub prints_at : Listing → ℕ → List KeyPrint
prints_at ds node = prints_in node (keys_at ds node)

-- The keys of all nodes, in the directory's order.
abbrev pub prints_of : Listing → List KeyPrint
prints_of ds = flat_map (prints_at ds) (map (λ p. p.0) ds)

-- ---- items

-- An item's form, and the node that signed it or is challenged by it.
abbrev pub seen_of : Fields → Seen
seen_of (item.Auth a) = record { kind = kind.Statement; node = a.node }
seen_of (item.Segment s) = record { kind = kind.Segment; node = s.node }
seen_of (item.Audit c) = record { kind = kind.AuditChallenge; node = c.node }
seen_of (item.Send m) = record { kind = kind.SendChallenge; node = m.to }
seen_of (item.Ack a) = record { kind = kind.Acknowledgement; node = a.message.to }

-- Whether the two forms are one.
abbrev pub same_kind : Kind → Kind → Bool
same_kind kind.Statement kind.Statement = true
same_kind kind.Segment kind.Segment = true
same_kind kind.AuditChallenge kind.AuditChallenge = true
same_kind kind.SendChallenge kind.SendChallenge = true
same_kind kind.Acknowledgement kind.Acknowledgement = true
same_kind k l = false

-- Whether an item has this form.
abbrev pub is_kind : Kind → Seen → Bool
is_kind k s = same_kind k s.kind

-- Whether an item is of this node.
abbrev pub is_of : ℕ → Seen → Bool
is_of node s = nat_eq s.node node

-- A count, or none if nothing is counted.
abbrev pub told : ℕ → Option ℕ
told zero = None
told (suc n) = Some (suc n)

-- The count of an entry, or 0 if there is no entry.
abbrev pub count_in : Option ℕ → ℕ
count_in None = 0
count_in (Some n) = n

-- How many items there are, of each form and of each node. A node of which there is no item is not named.
pub record IsTally (seen : List Seen) (t : Tally) : Type 0 where
  pub items : t.items ≡ length seen
  pub statements : t.statements ≡ count_by (is_kind kind.Statement) seen
  pub segments : t.segments ≡ count_by (is_kind kind.Segment) seen
  pub audit_challenges : t.audit_challenges ≡ count_by (is_kind kind.AuditChallenge) seen
  pub send_challenges : t.send_challenges ≡ count_by (is_kind kind.SendChallenge) seen
  pub acknowledgements : t.acknowledgements ≡ count_by (is_kind kind.Acknowledgement) seen
  pub ordered : IsOrdered nat_cmp t.nodes
  pub nodes : (node : ℕ) → get nat_cmp t.nodes node ≡ told (count_by (is_of node) seen)

-- ---- what is in a text

-- The keys of the directory that was read, or why none was.
abbrev pub AreKeys : Result Listing DirectoryFault → Contents → Type 0
AreKeys read (contents.Keys prints) = (ds : Listing) × (read ≡ Ok ds) × (prints.items ≡ prints_of ds)
AreKeys read (contents.NoDirectory f) = read ≡ Err f
AreKeys read c = ⊥

-- The items that were read, or why none were.
abbrev pub AreItems : Result (List Fields) ImportFault → Contents → Type 0
AreItems read (contents.Items tally) = (items : List Fields) × (read ≡ Ok items) × IsTally (map seen_of items) tally
AreItems read (contents.NoItems f) = read ≡ Err f
AreItems read c = ⊥

-- The items of a store or of a pack, each read and in its place.
abbrev pub items_in : List ℕ → Result (List Fields) ImportFault
items_in text = import_of (take 8 text) decoded_of text

-- What is in a text of each form.
abbrev pub AreContents : List ℕ → TextForm → Contents → Type 0
AreContents text form.Directory c = AreKeys (directory_of text) c
AreContents text form.Store c = AreItems (items_in text) c
AreContents text form.Pack c = AreItems (items_in text) c
AreContents text form.Proof c = (parts : Parts) × (proof_of text ≡ Ok parts) × AreItems (Ok (items_of parts)) c
AreContents text form.Item c = (x : Fields) × (item_of text ≡ Ok x) × AreItems (Ok (x ∷ [])) c
AreContents text f c = c ≡ contents.Untold

-- What a text is, how long it is, its SHA-256 value, and what is in it.
pub record IsShown (text : List ℕ) (s : Shown) : Type 0 where
  pub form : s.form ≡ form_of text
  pub bytes : s.bytes ≡ length text
  pub sha256 : s.sha256 ≡ sha256 text
  pub contents : AreContents text s.form s.contents
