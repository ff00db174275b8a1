-- What a statement or a segment more brings against its node, and what happens to a table with it.
use Rattle.std.specs.List.{Contains}
use Rattle.std.specs.Prelude.{◌≡◌, ℕ, Bool, true, false, List, Option, Some, None, Result, Ok, Err, ◌≢◌, ◌+◌, ◌↔◌, ◌⊎◌, ◌&&◌, ◌==◌, ◌≤◌, ◌<◌, ◌-◌, not, length, slice_get, slice_index_or, nat_le, nat_lt, if◌then◌else◌}
use Rattle.std.specs.Str.{bytes_eq}
use Rattle.std.specs.declared.cmp.Ordering.TheVariants.{Less, Greater}
use Rattle.std.specs.declared.cmp.Ordering.{Ordering}
use Rattle.authenticators.specs.StatementSet.{by_fields}
use Rattle.authenticators.specs.declared.authenticator.Authenticator.{Authenticator}
use Rattle.item_forms.specs.declared.forms.Fields.{Fields}
use Rattle.evidence_item.specs.Checking.{Checked}
use Rattle.kept_evidence.specs.Telling.{denies}
use Rattle.node_tables.specs.Receipts.{receipt_at, receipt_by}
use Rattle.node_tables.specs.Rows.{stated_at}
use Rattle.node_tables.specs.Steps.{room, wanted, position_of, is_of}
use Rattle.node_tables.specs.Tables.{HasSpanAt, Says, denies_at, deviates_at}
use Rattle.node_tables.specs.declared.exposure.ExposingPlaces.TheVariants as exposure
use Rattle.node_tables.specs.declared.exposure.ExposingPlaces.{ExposingPlaces}
use Rattle.node_tables.specs.declared.receipt_list.ReceiptList.{ReceiptList}
use Rattle.node_tables.specs.declared.row.Row.{Row}
use Rattle.node_tables.specs.declared.sending.Sending.{Sending}
use Rattle.node_tables.specs.declared.span.Span.{Span}
use Rattle.node_tables.specs.declared.table.Table.{Table}

-- How a row's statement compares with another; a row that names none is above all.
abbrev pub order_by : Option Authenticator → Authenticator → Ordering
order_by None a = Greater
order_by (Some b) a = by_fields b a

abbrev pub order_at : List Checked → Row → Authenticator → Ordering
order_at items r a = order_by (stated_at items r) a

-- What passes the test stands before the edge.
abbrev pub side : Bool → Ordering
side true = Less
side false = Greater

-- The edge that such a search found.
abbrev pub edge_of : Result ℕ ℕ → ℕ
edge_of (Ok i) = i
edge_of (Err i) = i

-- The row's statement has the number and another hash.
abbrev pub two_by : Option Authenticator → Authenticator → Bool
two_by None a = false
two_by (Some b) a = (b.seq == a.seq) && not (bytes_eq b.hash a.hash)

abbrev pub two_at : List Checked → Row → Authenticator → Bool
two_at items r a = two_by (stated_at items r) a

-- The row's statement has the number and the same hash.
abbrev pub again_by : Option Authenticator → Authenticator → Bool
again_by None a = false
again_by (Some b) a = (b.seq == a.seq) && bytes_eq b.hash a.hash

abbrev pub again_at : List Checked → Row → Authenticator → Bool
again_at items r a = again_by (stated_at items r) a

-- No statement of the rows contradicts one of the segments.
abbrev pub AreUndenied : List Checked → List Row → List Span → Type 0
AreUndenied items rows spans = (r : Row) (b : Authenticator) (p : Span) → Contains rows r → stated_at items r ≡ Some b → Contains spans p → denies_at items b p.item ≡ false

-- No row beside the place has the number of the statement and another hash.
pub record NoneBeside (items : List Checked) (rows : List Row) (place : ℕ) (a : Authenticator) : Type 0 where
  pub before : (d : Row) → 1 ≤ place → two_at items (slice_index_or rows (place - 1) d) a ≡ false
  pub behind : (d : Row) → place < length rows → two_at items (slice_index_or rows place d) a ≡ false

-- It brings nothing against the node.
pub record BringsNothing (items : List Checked) (rows : List Row) (spans : List Span) (place : ℕ) (a : Authenticator) : Type 0 where
  pub beside : NoneBeside items rows place a
  pub undenied : (p : Span) → Contains spans p → denies_at items a p.item ≡ false

-- It exposes the node, with a row or a segment that is kept.
abbrev pub IsBrought : List Checked → List Row → List Span → Row → Authenticator → ExposingPlaces → Type 0
IsBrought items rows spans row a (exposure.TwoHashes r q) = (r ≡ row) × Contains rows q × (two_at items q a ≡ true)
IsBrought items rows spans row a (exposure.Denied r i) = (r ≡ row) × HasSpanAt spans i × (denies_at items a i ≡ true)
IsBrought items rows spans row a (exposure.Deviates i) = ⊥

-- What exposes the node after the statement, by what did before.
abbrev pub IsNext : List Checked → List Row → List Span → ℕ → Row → Authenticator → Option ExposingPlaces → Option ExposingPlaces → Type 0
IsNext items rows spans place row a (Some e) o = o ≡ Some e
IsNext items rows spans place row a None None = BringsNothing items rows spans place a
IsNext items rows spans place row a None (Some e) = IsBrought items rows spans row a e

-- A statement comes among the rows.
pub record RowStep (items : List Checked) (row : Row) (t u : Table) : Type 0 where
  pub node : u.node ≡ t.node
  pub says : (a : Authenticator) → Says items u.rows.items a ↔ (Says items t.rows.items a ⊎ ((stated_at items row ≡ Some a) × (a.node ≡ t.node)))
  pub receipts : u.receipts ≡ t.receipts
  pub spans : u.spans ≡ t.spans
  pub unanswered : u.unanswered ≡ t.unanswered
  pub hashes : u.hashes ≡ t.hashes
  pub room : t.rows.room ≤ u.rows.room + 1

-- If receipts are kept, they were kept before, and just those messages came to them.
abbrev pub HaveCome : ReceiptList → ReceiptList → (Sending → Type 0) → Type 0
HaveCome r q P = q.whole ≡ true → (r.whole ≡ true) × ((s : Sending) → Contains q.sendings.items s ↔ (Contains r.sendings.items s ⊎ P s))

-- A receipt comes, if the statement is quoted.
pub record ReceiptStep (items : List Checked) (row : Row) (t u : Table) : Type 0 where
  pub node : u.node ≡ t.node
  pub rows : u.rows ≡ t.rows
  pub receipts : HaveCome t.receipts u.receipts (λ s. (receipt_at items row ≡ Some s) × (s.from ≡ t.node))
  pub spans : u.spans ≡ t.spans
  pub unanswered : u.unanswered ≡ t.unanswered
  pub hashes : u.hashes ≡ t.hashes

-- A statement comes.
pub record StatementStep (items : List Checked) (row : Row) (t u : Table) : Type 0 where
  pub node : u.node ≡ t.node
  pub says : (a : Authenticator) → Says items u.rows.items a ↔ (Says items t.rows.items a ⊎ ((stated_at items row ≡ Some a) × (a.node ≡ t.node)))
  pub receipts : HaveCome t.receipts u.receipts (λ s. (receipt_at items row ≡ Some s) × (s.from ≡ t.node))
  pub spans : u.spans ≡ t.spans
  pub unanswered : u.unanswered ≡ t.unanswered
  pub hashes : u.hashes ≡ t.hashes
  pub other_room : ((a : Authenticator) → stated_at items row ≡ Some a → a.node ≢ t.node) → room t ≤ room u
  pub room : room t ≤ room u + 1

-- The statement of the row contradicts the item.
abbrev pub denied_by_row : Option Authenticator → Fields → Bool
denied_by_row None x = false
denied_by_row (Some a) x = denies a x

-- The statement of the row has a number below this one; one that is at most this one.
abbrev pub below_by : Option Authenticator → ℕ → Bool
below_by None n = false
below_by (Some a) n = nat_lt a.seq n

abbrev pub up_to_by : Option Authenticator → ℕ → Bool
up_to_by None n = false
up_to_by (Some a) n = nat_le a.seq n

-- Where among the rows those stand whose statements have the numbers from low up to last.
pub record AreBetween (items : List Checked) (rows : List Row) (low last start end : ℕ) : Type 0 where
  pub inside : end ≤ length rows
  pub around : (k : ℕ) (r : Row) (a : Authenticator) → k < length rows → stated_at items (slice_index_or rows k r) ≡ Some a → low ≤ a.seq → a.seq ≤ last → (start ≤ k) × (k < end)

-- The number of the statement that a row names.
abbrev pub number_by : Option Authenticator → Option ℕ
number_by None = None
number_by (Some a) = Some a.seq

-- Rows from one place to another have the number of the first of them.
abbrev pub AreAlike : List Checked → List Row → (start end : ℕ) → Type 0
AreAlike items rows start end = (k : ℕ) (r : Row) (a b : Authenticator) → start ≤ k → k < end → k < length rows → stated_at items (slice_index_or rows start r) ≡ Some a → stated_at items (slice_index_or rows k r) ≡ Some b → b.seq ≡ a.seq

-- The segment brings nothing against the node.
pub record SegmentBringsNothing (items : List Checked) (rows : List Row) (place : ℕ) : Type 0 where
  pub undenied : (a : Authenticator) → Says items rows a → denies_at items a place ≡ false
  pub conforming : deviates_at items place ≡ false

-- It exposes the node, with a row that is kept or by itself.
abbrev pub IsBroughtBySegment : List Checked → List Row → ℕ → ExposingPlaces → Type 0
IsBroughtBySegment items rows place (exposure.TwoHashes r q) = ⊥
IsBroughtBySegment items rows place (exposure.Denied r i) = (i ≡ place) × Contains rows r × ((a : Authenticator) × (stated_at items r ≡ Some a) × (denies_at items a place ≡ true))
IsBroughtBySegment items rows place (exposure.Deviates i) = (i ≡ place) × (deviates_at items place ≡ true)

abbrev pub IsNextBySegment : List Checked → List Row → ℕ → Option ExposingPlaces → Option ExposingPlaces → Type 0
IsNextBySegment items rows place (Some e) o = o ≡ Some e
IsNextBySegment items rows place None None = SegmentBringsNothing items rows place
IsNextBySegment items rows place None (Some e) = IsBroughtBySegment items rows place e

-- The segment at a place comes.
pub record SegmentStep (items : List Checked) (place : ℕ) (t u : Table) : Type 0 where
  pub node : u.node ≡ t.node
  pub rows : u.rows ≡ t.rows
  pub receipts : u.receipts ≡ t.receipts
  pub stands : (i : ℕ) → HasSpanAt u.spans.items i ↔ (HasSpanAt t.spans.items i ⊎ (i ≡ place))
  pub unanswered : u.unanswered ≡ t.unanswered
  pub hashes : u.hashes ≡ t.hashes

-- The first statements of the item at a place come.
pub record StatementsStep (items : List Checked) (n k : ℕ) (t u : Table) : Type 0 where
  pub node : u.node ≡ t.node
  pub says : (a : Authenticator) → Says items u.rows.items a ↔ (Says items t.rows.items a ⊎ ((p : ℕ) × (p < k) × (position_of items n p ≡ Some a) × (a.node ≡ t.node)))
  pub receipts : HaveCome t.receipts u.receipts (λ s. (p : ℕ) × (p < k) × (receipt_by (slice_get items n) p ≡ Some s) × (s.from ≡ t.node))
  pub spans : u.spans ≡ t.spans
  pub unanswered : u.unanswered ≡ t.unanswered
  pub hashes : u.hashes ≡ t.hashes
  pub room : room t ≤ room u + wanted (position_of items n) k t.node

-- Whether the statement is of the node, as a number.
abbrev pub one_of : ℕ → Option Authenticator → ℕ
one_of j o = if is_of j o then 1 else 0

-- The promise of the statement is taken back, in the table of its node.
pub record OneTakenBack (o : Option Authenticator) (t u : Table) : Type 0 where
  pub node : u.node ≡ t.node
  pub promised : u.promised ≡ t.promised - one_of t.node o
  pub bodies : u.bodies ≡ t.bodies

-- The promises of the first statements of the item at a place are taken back.
pub record TakenBack (items : List Checked) (n k : ℕ) (t u : Table) : Type 0 where
  pub node : u.node ≡ t.node
  pub promised : u.promised ≡ t.promised - wanted (position_of items n) k t.node
  pub bodies : u.bodies ≡ t.bodies
