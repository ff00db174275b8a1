use Rattle.std.proofs.Common.{◌≡◌, take}
use Rattle.std.specs.Prelude.{map}
use Rattle.std.specs.List.{All}
use Rattle.explanations.specs.Whys.{IsWhy}
use Rattle.explanations.proofs.why.whys_of.Given as goal

abbrev pub invariant-loop-node : goal.invariant-loop-node
invariant-loop-node g l = record {
  nodes : map (λ row. row.node) l.rows.items ≡ map (λ n. n) (take l.node-index l.node-items);
  right : All (λ row. IsWhy (g.S.Evidence.contents l.store).directory g.P.Program.means (g.S.Evidence.contents l.store).items row.node row.why) l.rows.items;
}
