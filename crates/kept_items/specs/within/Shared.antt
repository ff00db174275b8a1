-- Shared entries, by what they are made of and what they quote.
use Rattle.std.specs.Prelude.{ℕ, List, [], ◌∷◌, ◌&&◌, nat_lt, Bool, true, Option, map}
use Rattle.log_chain.specs.declared.entry.Entry.{Entry}
use Rattle.item_forms.specs.Spelling.{FitsEntry, entry_spelling}
use Rattle.kept_entries.specs.Shared.{SharedEntry}

-- The hashes of what they quote.
abbrev pub quotes_of : List SharedEntry → List (Option (List ℕ))
quotes_of xs = map (λ (x : SharedEntry). x.quoted) xs

-- Entries, each with the hash before it, its own and that of what it quotes.
abbrev pub shared_of : List ℕ → List Entry → List (List ℕ) → List (Option (List ℕ)) → List SharedEntry
shared_of prev [] hashes quotes = []
shared_of prev (e ∷ es) [] quotes = []
shared_of prev (e ∷ es) (h ∷ hs) [] = []
shared_of prev (e ∷ es) (h ∷ hs) (q ∷ qs) = record { prev = prev; entry = e; hash = h; quoted = q } ∷ shared_of h es hs qs

-- The numbers rise from this one on.
abbrev pub rises_from : ℕ → List Entry → Bool
rises_from first [] = true
rises_from first (e ∷ es) = nat_lt first e.seq && rises_from e.seq es

-- The entry is within its limits. Below it stands its part of a segment's encoding.
abbrev pub FitsShared : SharedEntry → Type 0
FitsShared x = FitsEntry x.entry

abbrev pub shared_spelling : SharedEntry → List ℕ
shared_spelling x = entry_spelling x.entry
