-- A secure history: a log whose numbers rise, with the hash of each entry (PeerReview, SOSP 2007).
use Rattle.std.specs.Prelude.{◌≡◌, ℕ, ◌-◌, ◌<◌, ◌==◌, ◌&&◌, Bool, true, List, [], ◌∷◌, ◌++◌, length, filter, max, Option, Some, None, Result, Ok, Err, nat_lt, nat_le, slice_get, slice_index_or, if◌then◌else◌}
use Rattle.std.specs.List.{list_any}
use Rattle.log_chain.specs.declared.entry.Entry.{Entry}
use Rattle.log_chain.specs.declared.fault.AppendFault.{AppendFault}
use Rattle.log_chain.specs.declared.fault.AppendFault.TheVariants.{SeqNotRising, ContentTooLong}
use Rattle.log_chain.specs.declared.fault.SegmentFault.{SegmentFault}
use Rattle.log_chain.specs.declared.fault.SegmentFault.TheVariants.{NoEntry, SegmentTooLong}
use Rattle.log_chain.specs.declared.limits.TheConstants.{LONGEST_CONTENT, MOST_ENTRIES}
use Rattle.log_chain.specs.Chain.{chain_end}

-- What a contract sees of a history: the hash before its first entry, its entries, and for how many more entries there is room.
pub record History : Type 0 where
  pub prev : List ℕ
  pub entries : List Entry
  pub room : ℕ

-- The greatest length of an entry's content, in bytes.
abbrev pub most_content : ℕ
most_content = LONGEST_CONTENT

-- The greatest number of entries in a segment.
abbrev pub most_entries : ℕ
most_entries = MOST_ENTRIES

-- ---- adding an entry

-- The last entry, if there is one.
abbrev pub last_entry : List Entry → Option Entry
last_entry es = slice_get es (length es - 1)

-- Whether a number is above that of the last entry. It is if there is no last entry.
abbrev pub is_above : ℕ → Option Entry → Bool
is_above seq None = true
is_above seq (Some last) = nat_lt last.seq seq

-- The first fault that forbids an entry, if there is one.
unfoldable pub append_fault : List Entry → Entry → Option AppendFault
append_fault es e =
    if is_above e.seq (last_entry es) then (if nat_lt LONGEST_CONTENT (length e.content) then Some ContentTooLong else None)
    else Some SeqNotRising

-- The fault, if there is one. Otherwise it is the value.
abbrev pub unless : {A E : Type 0} → Option E → A → Result A E
unless None x = Ok x
unless (Some e) x = Err e

-- The history with one entry more at its end. The entry takes one of the places that there was room for.
abbrev pub grown : History → Entry → History
grown h e = record { prev = h.prev; entries = h.entries ++ e ∷ []; room = h.room - 1 }

-- What appending an entry makes of a history, or the first fault that forbids the entry.
abbrev pub appended : History → Entry → Result History AppendFault
appended h e = unless (append_fault h.entries e) (grown h e)

-- The history with room for n more entries, or for more if there was more.
abbrev pub roomy : History → ℕ → History
roomy h n = record { prev = h.prev; entries = h.entries; room = max h.room n }

-- ---- finding entries

-- The entries with numbers below a number.
abbrev pub below : ℕ → List Entry → List Entry
below seq es = filter (λ e. nat_lt e.seq seq) es

-- The entries with numbers up to a number, itself included.
abbrev pub up_to : ℕ → List Entry → List Entry
up_to seq es = filter (λ e. nat_le e.seq seq) es

-- The entries with numbers from one number up to another, both included.
abbrev pub between : ℕ → ℕ → List Entry → List Entry
between from to es = filter (λ e. nat_le from e.seq && nat_le e.seq to) es

-- Whether an entry has the number.
abbrev pub has_seq : ℕ → List Entry → Bool
has_seq seq es = list_any (λ e. e.seq == seq) es

-- The list has an entry at the place, and this entry has the number.
pub record StandsAt (es : List Entry) (seq place : ℕ) : Type 0 where
  pub within : place < length es
  pub is : (d : Entry) → (slice_index_or es place d).seq ≡ seq

-- An entry's number and the end of the history's chain, if there is an entry.
abbrev pub stamp : History → Option Entry → Option (ℕ × List ℕ)
stamp h None = None
stamp h (Some e) = Some (e.seq, chain_end h.prev h.entries)

-- The last entry's number and its hash, if there is an entry.
abbrev pub last_stamp : History → Option (ℕ × List ℕ)
last_stamp h = stamp h (last_entry h.entries)

-- The hash of the entry with a number, if there is one. It is the end of the chain up to that entry.
unfoldable pub hash_at : History → ℕ → Option (List ℕ)
hash_at h seq = if has_seq seq h.entries then Some (chain_end h.prev (up_to seq h.entries)) else None

-- Whether two numbers are the first and the last of some entries: both are numbers of entries, and the first is not above the second.
abbrev pub are_ends : ℕ → ℕ → List Entry → Bool
are_ends from to es = nat_le from to && has_seq from es && has_seq to es

-- Why there is no segment from one number to another, if there is none.
unfoldable pub segment_fault : List Entry → ℕ → ℕ → Option SegmentFault
segment_fault es from to =
    if are_ends from to es then (if nat_lt MOST_ENTRIES (length (between from to es)) then Some SegmentTooLong else None)
    else Some NoEntry

-- The hash before the entry numbered from, and the entries from there up to the one numbered to; or why there is no such segment.
abbrev pub segment_of : History → ℕ → ℕ → Result (List ℕ × List Entry) SegmentFault
segment_of h from to = unless (segment_fault h.entries from to) (chain_end h.prev (below from h.entries), between from to h.entries)
