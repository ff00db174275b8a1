use Rattle.std.proofs.Common.{◌≡◌, map}
use Rattle.std.specs.List.{All}
use Rattle.evidence.specs.Contents.{Contents}
use Rattle.witness_tests.proofs.worlds.testing.make_stores.Given as goal

abbrev pub invariant-loop : goal.invariant-loop
invariant-loop g l = All (λ (s : Contents). s.directory ≡ l.directory) (map g.S.Evidence.contents l.stores.items)
