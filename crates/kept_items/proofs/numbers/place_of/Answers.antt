use Rattle.std.proofs.Common.{◌≡◌, rules}
use Rattle.std.specs.Prelude.{IfSome, is_some}
use Rattle.std.proofs.lemmas.List.Sorted.{answers_always}
use Rattle.log_chain.specs.History.{StandsAt, has_seq}
use Rattle.log_chain.proofs.Finds.{searched}
use Rattle.kept_entries.specs.Shared.{SharedEntry, entries_of}
use Rattle.kept_items.proofs.Entries.{in_range, searched_entries}
use Rattle.kept_items.proofs.numbers.place_of.Goals as goal

found : (c : goal.After-ok) → (is_some c.ok.result ≡ has_seq c.args.seq (entries_of c.args.handles.now)) × IfSome c.ok.result (λ place. StandsAt (entries_of c.args.handles.now) c.args.seq place)
found c =
    let facts = c.binary_search_by_key.ensures in
    let xs = c.args.handles.now in
    let by_number = facts.position (λ (x : SharedEntry). x.entry.seq) (answers_always _ _ _ (λ f a r g called. search rules)) in
    rw c.ok.ensures.value (searched (entries_of xs) c.args.seq c.binary_search_by_key.result c.requires (in_range xs c.binary_search_by_key.result facts.bound) (searched_entries xs c.args.seq c.binary_search_by_key.result by_number))

pub returns-clause-has : goal.returns-clause-has
returns-clause-has c = (found c).0

pub returns-clause-stands : goal.returns-clause-stands
returns-clause-stands c = (found c).1
