-- How a history is kept: its entries beside their hashes, in two lists that have room for as many more.
use Rattle.std.specs.Prelude.{◌≡◌, ◌+◌, ◌≤◌, vec_capacity, vec_len}
use Rattle.log_chain.specs.declared.secure_history.SecureHistory.TheInside.{Inside}
use Rattle.log_chain.specs.Chain.{Rising, hashes}
use Rattle.log_chain.specs.History.{History}

-- what a contract sees
abbrev pub seen : Inside → History
seen h = record { prev = h.prev; entries = h.entries.items; room = h.room }

-- The numbers rise, each entry's hash is kept, and the room is there.
pub record IsKept (h : Inside) : Type 0 where
  pub rising : Rising h.entries.items
  pub kept : h.hashes.items ≡ hashes h.prev h.entries.items
  pub entries_room : vec_len h.entries + h.room ≤ vec_capacity h.entries
  pub hashes_room : vec_len h.hashes + h.room ≤ vec_capacity h.hashes
