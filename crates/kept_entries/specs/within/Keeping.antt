-- What a shared entry keeps, and what a pool looks for.
use Rattle.std.specs.Prelude.{ℕ, List, Option, None}
use Rattle.log_chain.specs.declared.entry.Entry.{Entry}
use Rattle.kept_entries.specs.declared.keeping.Wanted.{Wanted}
use Rattle.kept_entries.specs.declared.body.Body.{Body}
use Rattle.kept_entries.specs.declared.body.Body.TheVariants as body
use Rattle.kept_entries.specs.Shared.{SharedEntry}

-- What an entry says: its kind, its content, and the hash of what it quotes.
abbrev pub kind_in : Body → ℕ
kind_in (body.Short kind content) = kind
kind_in (body.Long long) = long.value.kind

abbrev pub content_in : Body → List ℕ
content_in (body.Short kind content) = content
content_in (body.Long long) = long.value.content

abbrev pub quoted_in : Body → Option (List ℕ)
quoted_in (body.Short kind content) = None
quoted_in (body.Long long) = long.value.quoted

-- The entry with this number that says it.
abbrev pub entry_in : ℕ → Body → Entry
entry_in seq s = record { seq = seq; kind = kind_in s; content = content_in s }

-- The entry that is wanted.
abbrev pub wanted_entry : Wanted → SharedEntry
wanted_entry w = record { prev = w.prev; entry = record { seq = w.seq; kind = w.kind; content = w.content.now }; hash = w.hash; quoted = w.quoted }
