use Rattle.std.proofs.Common.{◌≡◌, ℕ, [], List, Some, length, get_or, sym, subst, ◌∙◌, arith}
use Rattle.std.specs.Prelude.{slice_get}
use Rattle.std.specs.List.{AllWithin, Contains}
use Rattle.std.proofs.lemmas.List.{get_or_default}
use Rattle.authenticators.proofs.AscendingLists.{sorted-nil}
use Rattle.node_tables.specs.declared.table.Table.{Table}
use Rattle.node_tables.specs.Indexed.{HasNode, IsTable}
use Rattle.node_tables.specs.Rooms.{Owes}
use Rattle.node_tables.specs.Steps.{AllTables, AscendByNode, by_node}
use Rattle.node_tables.proofs.Opened.{listed_in}
use Rattle.node_tables.proofs.Spans.{all_hold, one_more}
use Rattle.node_tables.proofs.opening.empty_tables.Goals as goal

none_at : (P : Table → Type 0) (i : ℕ) (t : Table) → slice_get [] i ≡ Some t → P t
none_at P i t h = absurd cc

pub loop-node-init : goal.loop-node-init
loop-node-init c = (
  subst AscendByNode (sym c.new-tables.ensures.items) (sorted-nil by_node),
  subst (AllTables (IsTable [])) (sym c.new-tables.ensures.items) (none_at (IsTable [])),
  λ k d lo lt. absurd (omega (arith, lt)),
  subst (AllTables (Owes [])) (sym c.new-tables.ensures.items) (none_at (Owes [])),
)

pub loop-node-preserved : goal.loop-node-preserved
loop-node-preserved c =
    let step = c.in_ok-open.ensures in
    let nodes = c.nodes-node-items.result.now in (
      step.ascending,
      step.each,
      one_more (HasNode c.open.new.tables.items) nodes c.loop-node.node-index (λ k d lo lt. step.still (get_or nodes k d) (c.loop-node.invariant.2 k d lo lt))
          (λ d. subst (HasNode c.open.new.tables.items) (c.node-item.is ∙ get_or_default nodes c.loop-node.node-index c.node-item.result d c.loop-node-test.true) step.has),
      step.owes,
    )

pub returns-clause-listed : goal.returns-clause-listed
returns-clause-listed c = λ j is.
    let nodes = c.nodes-node-items.result.now in
    let all : c.loop-node.node-index ≡ length nodes = omega (arith, c.loop-node-test.false, c.loop-node.auto.node-index-end) in
    let has : Contains nodes j = subst (λ (l : List ℕ). Contains l j) (sym c.nodes-node-items.ensures.numbers) (listed_in c.args.directory.now j is) in
    all_hold (HasNode c.loop-node.tables.items) nodes (subst (AllWithin (HasNode c.loop-node.tables.items) nodes 0) all c.loop-node.invariant.2) j has
