-- What becomes of open audit challenges, and of their namings, while a segment comes.
use Rattle.std.specs.List.{Contains, filter}
use Rattle.std.specs.Prelude.{◌≡◌, ◌<◌, ◌⊎◌, ◌==◌, ℕ, Bool, true, false, List, Option, Some, None, not, nat_le, nat_lt, slice_get, if◌then◌else◌}
use Rattle.std.specs.Ordering.{is_eq}
use Rattle.item_forms.specs.declared.forms.AuditChallenge.{AuditChallenge}
use Rattle.evidence_item.specs.Checking.{Checked}
use Rattle.kept_items.specs.declared.link.Link.{Link}
use Rattle.kept_items.specs.Links.{NamesBeside}
use Rattle.node_tables.specs.declared.hashes.Hashes.{Hashes}
use Rattle.node_tables.specs.declared.naming.Fronts.{Fronts}
use Rattle.node_tables.specs.declared.naming.Naming.{Naming}
use Rattle.node_tables.specs.Hashed.{AreHashed, IsAuditAt, StandByPairs, front_of, link_at}
use Rattle.node_tables.specs.Places.{AscendBySpelling, item_order_by}
use Rattle.node_tables.specs.Tables.{shows_at}
use Rattle.node_tables.specs.within.Marking.{IsKnown, IsKnownBut}
use Rattle.node_tables.specs.within.Sendings.{audited_by}

-- ---- what is looked for

-- The naming is one of those that are looked for.
abbrev pub IsOther : Option ℕ → ℕ → Type 0
IsOther None n = Unit {0}
IsOther (Some o) n = n ≡ o

abbrev pub IsOf : Fronts → Naming → Type 0
IsOf f m = (m.front ≡ f.front) × IsOther f.other m.other

-- It stands before them; not behind them.
abbrev pub is_less : ℕ → Option ℕ → Bool
is_less n None = false
is_less n (Some o) = nat_lt n o

abbrev pub is_most : ℕ → Option ℕ → Bool
is_most n None = true
is_most n (Some o) = nat_le n o

abbrev pub stands_before : Fronts → Naming → Bool
stands_before f m = if m.front == f.front then is_less m.other f.other else nat_lt m.front f.front

abbrev pub stands_up_to : Fronts → Naming → Bool
stands_up_to f m = if m.front == f.front then is_most m.other f.other else nat_lt m.front f.front

-- The namings of a hash beside another one.
abbrev pub beside : (front other : ℕ) → Fronts
beside front other = record { front = front; other = Some other }

-- ---- what is taken away

-- Two items have one encoding.
abbrev pub is_like : Option Checked → Option Checked → Bool
is_like o None = false
is_like o (Some c) = is_eq (item_order_by o c.item)

-- Of the challenges at the places some were taken away, each an audit challenge that the item at place n answers.
pub record AreTaken (items : List Checked) (n : ℕ) (old new : List ℕ) : Type 0 where
  pub spelled : AscendBySpelling items new
  pub rest : filter (λ i. not (audited_by (slice_get items i) (slice_get items n))) new ≡ filter (λ i. not (audited_by (slice_get items i) (slice_get items n))) old
  pub fewer : (i : ℕ) → Contains new i → Contains old i

-- Some of the namings were taken away, but none of an item at the places.
pub record AreNamingsOf (places : List ℕ) (old new : List Naming) : Type 0 where
  pub order : StandByPairs new
  pub fewer : (m : Naming) → Contains new m → Contains old m
  pub stay : (m : Naming) → Contains old m → Contains places m.item → Contains new m

-- Both: some of the challenges, and some of all namings.
pub record AreStruck (items : List Checked) (n : ℕ) (old new : List ℕ) (g h : Hashes) : Type 0 where
  pub places : AreTaken items n old new
  pub holders : h.holders.items ≡ g.holders.items
  pub lasts : AreNamingsOf new g.lasts.items h.lasts.items
  pub firsts : AreNamingsOf new g.firsts.items h.firsts.items

-- Those that stand by hashes still do.
pub record KeepNamings (g h : Hashes) : Type 0 where
  pub lasts : StandByPairs h.lasts.items
  pub firsts : StandByPairs h.firsts.items
  pub still_lasts : (m : Naming) → Contains g.lasts.items m → Contains h.lasts.items m
  pub still_firsts : (m : Naming) → Contains g.firsts.items m → Contains h.firsts.items m

-- ---- what is left

-- The item at place n answers none of those that are looked for.
abbrev pub AreAnswered : List Checked → ℕ → Fronts → List Naming → Type 0
AreAnswered items n f namings = (m : Naming) → Contains namings m → IsOf f m → audited_by (slice_get items m.item) (slice_get items n) ≡ false

abbrev pub AreBothAnswered : List Checked → ℕ → Fronts → Hashes → Type 0
AreBothAnswered items n f h = AreAnswered items n f h.lasts.items × AreAnswered items n f h.firsts.items

-- The hash is that of one of the first r entries of the segment at place n, or the one before them.
abbrev pub IsAmongFirst : List Checked → (n r : ℕ) → List ℕ → Type 0
IsAmongFirst items n r g = ((k : ℕ) × (b : Link) × (k < r) × (link_at items n k ≡ Some b) × (b.hash ≡ g)) ⊎ ((b : Link) × (link_at items n 0 ≡ Some b) × (b.prev ≡ g))

-- So it is beside each of those hashes.
abbrev pub AreLookedAt : List Checked → (n front r : ℕ) → Hashes → Type 0
AreLookedAt items n front r h = (g : List ℕ) → IsAmongFirst items n r g → AreBothAnswered items n (beside front (front_of g)) h

-- The segment at place n answers no challenge that names the entry at its position k beside one of the first r, or beside the hash before
-- them. Behind the other entries a segment at another place has it.
pub record IsLookedAt (items : List Checked) (j n : ℕ) (places : List ℕ) (k : ℕ) (x : Link) : Type 0 where
  pub first : ℕ
  pub known : IsKnownBut items j n k x first
  pub none : (i : ℕ) (c : AuditChallenge) (g : List ℕ) → Contains places i → IsAuditAt items i c → NamesBeside c x.hash g → IsAmongFirst items n first g → shows_at items c n ≡ false

-- So it is; or a segment at another place has the entry behind as many.
abbrev pub IsDone : List Checked → (j n : ℕ) → List ℕ → (k : ℕ) → Link → Type 0
IsDone items j n places k x = IsLookedAt items j n places k x ⊎ IsKnown items j n k x

-- The first p positions of the segment at place n came.
pub record AreClosed (items : List Checked) (j n p : ℕ) (places : List ℕ) (h : Hashes) : Type 0 where
  pub hashed : AreHashed items j n p places h
  pub done : (k : ℕ) (x : Link) → k < p → link_at items n k ≡ Some x → IsDone items j n places k x
