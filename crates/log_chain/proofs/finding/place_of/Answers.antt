use Rattle.std.proofs.Common.{◌≡◌, rules}
use Rattle.std.specs.Prelude.{IfSome, is_some}
use Rattle.std.proofs.lemmas.List.Sorted.{answers_always}
use Rattle.log_chain.specs.History.{StandsAt, has_seq}
use Rattle.log_chain.proofs.Finds.{searched}
use Rattle.log_chain.proofs.finding.place_of.Goals as goal

found : (c : goal.After-ok) → (is_some c.ok.result ≡ has_seq c.args.seq c.args.entries.now) × IfSome c.ok.result (λ place. StandsAt c.args.entries.now c.args.seq place)
found c =
    let facts = c.binary_search_by_key.ensures in
    let by_number = facts.position (λ e. e.seq) (answers_always _ _ _ (λ f a r g called. search rules)) in
    rw c.ok.ensures.value (searched c.args.entries.now c.args.seq c.binary_search_by_key.result c.requires facts.bound by_number)

pub returns-clause-has : goal.returns-clause-has
returns-clause-has c = (found c).0

pub returns-clause-stands : goal.returns-clause-stands
returns-clause-stands c = (found c).1
