-- What is kept of a node by hashes: the entries of its segments, and the open audit challenges against it.
use Rattle.std.specs.List.{Contains}
use Rattle.std.specs.List.Sorted.{IsNonDecreasingBy}
use Rattle.std.specs.Int.{from_be_bytes, w64}
use Rattle.std.specs.Prelude.{◌≡◌, ◌≢◌, ◌<◌, ◌≤◌, ◌⊎◌, ℕ, true, false, List, [], ◌∷◌, Option, Some, None, length, slice_get, slice_index, slice_index_or}
use Rattle.log_chain.specs.Chain.{base}
use Rattle.item_forms.specs.declared.forms.AuditChallenge.{AuditChallenge}
use Rattle.item_forms.specs.declared.forms.Fields.TheVariants as form
use Rattle.evidence_item.specs.Checking.{Checked}
use Rattle.kept_items.specs.declared.link.Link.{Link}
use Rattle.kept_items.specs.Links.{NamesBeside, link_in}
use Rattle.node_tables.specs.declared.hashes.Hashes.{Hashes}
use Rattle.node_tables.specs.declared.mark.Mark.{Mark}
use Rattle.node_tables.specs.declared.naming.Naming.{Naming}
use Rattle.node_tables.specs.declared.table.Table.{Table}
use Rattle.node_tables.specs.Places.{AscendBySpelling}
use Rattle.node_tables.specs.Tables.{IsSegmentAt, shows_at}

-- The first eight bytes of a hash.
abbrev pub front_of : List ℕ → ℕ
front_of h = from_be_bytes w64 (slice_index h 0 ∷ slice_index h 1 ∷ slice_index h 2 ∷ slice_index h 3 ∷ slice_index h 4 ∷ slice_index h 5 ∷ slice_index h 6 ∷ slice_index h 7 ∷ [])

-- The marks stand by the first eight bytes of their hashes.
abbrev pub DoNotFall : List Mark → Type 0
DoNotFall marks = IsNonDecreasingBy (λ (m : Mark). m.front) marks

-- The first naming does not stand behind the second. They stand by the one hash, and those with one hash by the other hash.
abbrev pub IsUpTo : Naming → Naming → Type 0
IsUpTo m k = (m.front < k.front) ⊎ ((m.front ≡ k.front) × (m.other ≤ k.other))

-- The namings stand by their two hashes.
abbrev pub StandByPairs : List Naming → Type 0
StandByPairs namings = (a b : ℕ) (d : Naming) → a ≤ b → b < length namings → IsUpTo (slice_index_or namings a d) (slice_index_or namings b d)

-- The entry at a position of an item, if there is one.
abbrev pub link_by : Option Checked → ℕ → Option Link
link_by None k = None
link_by (Some c) k = link_in c.item.fields k

-- The entry at a position of the item at a place in the list.
abbrev pub link_at : List Checked → ℕ → ℕ → Option Link
link_at items i k = link_by (slice_get items i) k

-- Position k of the segment of node j at place i came. Of the segment at place n only the first p positions came, and of each other one
-- all.
abbrev pub HasCome : List Checked → (j n p i k : ℕ) → Type 0
HasCome items j n p i k = IsSegmentAt items j i × (i ≡ n → k < p)

-- The mark is that of an entry that came.
pub record IsHolder (items : List Checked) (j n p : ℕ) (m : Mark) : Type 0 where
  pub came : HasCome items j n p m.item m.position
  pub link : Link
  pub here : link_at items m.item m.position ≡ Some link
  pub front : m.front ≡ front_of link.hash

-- Some holder has the entry, behind k others or more.
abbrev pub IsHeldBy : List Checked → List Mark → Link → ℕ → Type 0
IsHeldBy items holders x k = (m : Mark) × Contains holders m × (link_at items m.item m.position ≡ Some x) × (k ≤ m.position)

-- The holders are of entries that came. For each entry that came, some holder has it behind as many others. Different entries that came
-- have different hashes.
pub record AreHolders (items : List Checked) (j n p : ℕ) (holders : List Mark) : Type 0 where
  pub order : DoNotFall holders
  pub each : (m : Mark) → Contains holders m → IsHolder items j n p m
  pub all : (i k : ℕ) (x : Link) → HasCome items j n p i k → link_at items i k ≡ Some x → IsHeldBy items holders x k
  pub one : (i k l m : ℕ) (x y : Link) → HasCome items j n p i k → HasCome items j n p l m → link_at items i k ≡ Some x → link_at items l m ≡ Some y → x.hash ≡ y.hash → x ≡ y
  pub based : (i k : ℕ) (x : Link) → HasCome items j n p i k → link_at items i k ≡ Some x → x.hash ≢ base

-- The item at a place is this audit challenge.
abbrev pub IsAuditAt : List Checked → ℕ → AuditChallenge → Type 0
IsAuditAt items i c = (x : Checked) × (slice_get items i ≡ Some x) × (x.item.fields ≡ form.Audit c)

-- One of the namings is that of the hash g beside the hash h, by the item at place i.
abbrev pub HasNaming : List Naming → ℕ → (g h : List ℕ) → Type 0
HasNaming namings i g h = (m : Naming) × Contains namings m × (m.item ≡ i) × (m.front ≡ front_of g) × (m.other ≡ front_of h)

-- Entries stand by their hashes, and each open audit challenge by the hashes that it names. No segment answers one of these challenges,
-- save perhaps the segment at place n.
pub record AreHashed (items : List Checked) (j n p : ℕ) (places : List ℕ) (h : Hashes) : Type 0 where
  pub holders : AreHolders items j n p h.holders.items
  pub lasts : StandByPairs h.lasts.items
  pub firsts : StandByPairs h.firsts.items
  pub named : (i : ℕ) (c : AuditChallenge) (f g : List ℕ) → Contains places i → IsAuditAt items i c → NamesBeside c f g → HasNaming h.lasts.items i f g ⊎ HasNaming h.firsts.items i f g
  pub quiet : (i m : ℕ) (c : AuditChallenge) → Contains places i → IsAuditAt items i c → IsSegmentAt items j m → m ≢ n → shows_at items c m ≡ false

-- Both keep the same marks and namings.
pub record AreSame (g h : Hashes) : Type 0 where
  pub whole : h.whole ≡ g.whole
  pub holders : h.holders.items ≡ g.holders.items
  pub lasts : h.lasts.items ≡ g.lasts.items
  pub firsts : h.firsts.items ≡ g.firsts.items

-- The open challenges stand by their encodings. If marks and namings are kept, entries and audit challenges stand by hashes.
pub record AreAsked (items : List Checked) (n : ℕ) (t : Table) : Type 0 where
  pub spelled : AscendBySpelling items t.unanswered.items
  pub hashed : t.hashes.whole ≡ true → AreHashed items t.node n 0 t.unanswered.items t.hashes
