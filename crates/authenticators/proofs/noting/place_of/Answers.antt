use Rattle.std.proofs.Common.{rules}
use Rattle.std.proofs.lemmas.List.Sorted.{answers_always}
use Rattle.authenticators.specs.declared.clash.Clash.{Clash}
use Rattle.authenticators.proofs.noting.place_of.Goals as goal

pub returns-clause-position : goal.returns-clause-position
returns-clause-position c = c.binary_search_by_key.ensures.position (λ (p : Clash). p.node) (answers_always _ _ _ (λ f a r g called. search rules))
