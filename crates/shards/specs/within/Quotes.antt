-- What segments quote, as lists.
use Rattle.std.specs.Prelude.{ℕ, ◌==◌, not, Bool, List, [], map}
use Rattle.std.specs.List.{filter, filter_map}
use Rattle.log_chain.specs.declared.entry.Entry.{Entry}
use Rattle.authenticators.specs.declared.authenticator.Authenticator.{Authenticator}
use Rattle.authenticators.specs.Directory.{Listing}
use Rattle.item_forms.specs.declared.forms.Fields.{Fields}
use Rattle.item_forms.specs.declared.forms.Fields.TheVariants as form
use Rattle.evidence_set.specs.Held.{statement_quoted_by}

-- The statement is of a node of another shard than that of node `me`.
abbrev pub is_elsewhere : (ℕ → ℕ) → ℕ → Authenticator → Bool
is_elsewhere deal me a = not (deal me == deal a.node)

-- What entries of node `me` quote of nodes of other shards, if the quote is genuine, each statement as the fields of an item.
abbrev pub quoted_by : Listing → (ℕ → ℕ) → ℕ → List Entry → List Fields
quoted_by ds deal me es = map (λ (a : Authenticator). form.Auth a) (filter (is_elsewhere deal me) (filter_map (statement_quoted_by ds me) es))

abbrev pub quoted_in : Listing → (ℕ → ℕ) → Fields → List Fields
quoted_in ds deal (form.Auth a) = []
quoted_in ds deal (form.Segment s) = quoted_by ds deal s.node s.entries
quoted_in ds deal (form.Audit c) = []
quoted_in ds deal (form.Send m) = []
quoted_in ds deal (form.Ack a) = []
