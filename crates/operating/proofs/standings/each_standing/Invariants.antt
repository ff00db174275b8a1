use Rattle.std.proofs.Common.{◌≡◌, ℕ, Some, take}
use Rattle.std.specs.Prelude.{is_some, nat_eq}
use Rattle.std.specs.List.{list_any}
use Rattle.std.specs.BTreeMap.{get}
use Rattle.std.specs.Ordering.{nat_cmp}
use Rattle.answers.specs.declared.standings.Standing.{Standing}
use Rattle.operating.specs.Questions.{IsStanding}
use Rattle.operating.proofs.standings.each_standing.Given as goal

abbrev pub invariant-loop-node : goal.invariant-loop-node
invariant-loop-node g l = record {
  listed : (q : ℕ) → is_some (get nat_cmp l.standings q) ≡ list_any (nat_eq q) (take l.node-index l.node-items);
  right : (q : ℕ) (x : Standing) → get nat_cmp l.standings q ≡ Some x → IsStanding g.P.Program.means l.store q x;
}
