use Rattle.std.proofs.Common.{◌≡◌, ◌<◌, ◌≤◌, [], ℕ, List, length, sym, subst}
use Rattle.std.specs.Prelude.{Ok, Err}
use Rattle.std.specs.List.{insert}
use Rattle.std.specs.List.Sorted.{IsBinarySearchResult}
use Rattle.std.specs.Ordering.{nat_cmp}
use Rattle.node_tables.specs.declared.table.Table.{Table}
use Rattle.node_tables.specs.Indexed.{HasNode, IsTable}
use Rattle.node_tables.specs.Rooms.{Owes}
use Rattle.node_tables.specs.Steps.{AllTables, AscendByNode}
use Rattle.node_tables.proofs.Lookup.{found}
use Rattle.node_tables.proofs.Places.{contains_at}
use Rattle.node_tables.proofs.Opened.{all_more, ascend_more, has_more, has_new}
use Rattle.node_tables.proofs.opening.open.Goals as goal

-- where the table of a new node goes
gap : (tables lent : List Table) (t : Table) (node i : ℕ) → lent ≡ tables → t.node ≡ node → i ≤ length lent → IsBinarySearchResult (λ (u : Table). nat_cmp u.node node) lent (Err i)
    → (i ≤ length tables) × IsBinarySearchResult (λ (u : Table). nat_cmp u.node t.node) tables (Err i)
gap tables lent t node i is own bound place = (
  subst (λ (l : List Table). i ≤ length l) is bound,
  subst (λ (n : ℕ). IsBinarySearchResult (λ (u : Table). nat_cmp u.node n) tables (Err i)) (sym own)
      (subst (λ (l : List Table). IsBinarySearchResult (λ (u : Table). nat_cmp u.node node) l (Err i)) is place),
)

pub returns-in-Ok-clause-has : goal.returns-in-Ok-clause-has
returns-in-Ok-clause-has c =
    let i = c.in-Ok.field-0 in
    let tables = c.args.tables.now.items in
    let inside = subst (λ (l : List Table). i < length l) c.deref.ensures.value c.in-Ok.ensures.bound in
    let equal = subst (λ (l : List Table). IsBinarySearchResult (λ (t : Table). nat_cmp t.node c.args.node) l (Ok i)) c.deref.ensures.value c.in-Ok.ensures.position in
    let h = (found tables c.args.node c.requires.ascending (Ok i) inside equal).1 in
    (h.0, contains_at tables i h.0 h.1, h.2)

pub returns-in_ok-insert-in-Err-clause-ascending : goal.returns-in_ok-insert-in-Err-clause-ascending
returns-in_ok-insert-in-Err-clause-ascending c =
    let tables = c.args.tables.now.items in
    let at = gap tables c.deref.result.now c.empty-table.result c.args.node c.in-Err.place c.deref.ensures.value c.empty-table.ensures.node c.in-Err.ensures.bound c.in-Err.ensures.position in
    subst AscendByNode (sym c.in_ok-insert-in-Err.ensures.items) (ascend_more tables c.requires.ascending c.empty-table.result c.in-Err.place at.0 at.1)

pub returns-in_ok-insert-in-Err-clause-each : goal.returns-in_ok-insert-in-Err-clause-each
returns-in_ok-insert-in-Err-clause-each c =
    let tables = c.args.tables.now.items in
    let at = gap tables c.deref.result.now c.empty-table.result c.args.node c.in-Err.place c.deref.ensures.value c.empty-table.ensures.node c.in-Err.ensures.bound c.in-Err.ensures.position in
    subst (AllTables (IsTable [])) (sym c.in_ok-insert-in-Err.ensures.items) (all_more tables c.requires.ascending c.empty-table.result c.in-Err.place at.0 at.1 (IsTable []) c.requires.each c.empty-table.ensures.table)

pub returns-in_ok-insert-in-Err-clause-owes : goal.returns-in_ok-insert-in-Err-clause-owes
returns-in_ok-insert-in-Err-clause-owes c =
    let tables = c.args.tables.now.items in
    let at = gap tables c.deref.result.now c.empty-table.result c.args.node c.in-Err.place c.deref.ensures.value c.empty-table.ensures.node c.in-Err.ensures.bound c.in-Err.ensures.position in
    subst (AllTables (Owes [])) (sym c.in_ok-insert-in-Err.ensures.items) (all_more tables c.requires.ascending c.empty-table.result c.in-Err.place at.0 at.1 (Owes []) c.requires.owes c.empty-table.ensures.owes)

pub returns-in_ok-insert-in-Err-clause-has : goal.returns-in_ok-insert-in-Err-clause-has
returns-in_ok-insert-in-Err-clause-has c =
    let tables = c.args.tables.now.items in
    let at = gap tables c.deref.result.now c.empty-table.result c.args.node c.in-Err.place c.deref.ensures.value c.empty-table.ensures.node c.in-Err.ensures.bound c.in-Err.ensures.position in
    subst (λ (l : List Table). HasNode l c.args.node) (sym c.in_ok-insert-in-Err.ensures.items) (subst (HasNode (insert tables c.in-Err.place c.empty-table.result)) c.empty-table.ensures.node (has_new tables c.requires.ascending c.empty-table.result c.in-Err.place at.0 at.1))

pub returns-in_ok-insert-in-Err-clause-still : goal.returns-in_ok-insert-in-Err-clause-still
returns-in_ok-insert-in-Err-clause-still c = λ j has.
    let tables = c.args.tables.now.items in
    let at = gap tables c.deref.result.now c.empty-table.result c.args.node c.in-Err.place c.deref.ensures.value c.empty-table.ensures.node c.in-Err.ensures.bound c.in-Err.ensures.position in
    subst (λ (l : List Table). HasNode l j) (sym c.in_ok-insert-in-Err.ensures.items) (has_more tables c.requires.ascending c.empty-table.result c.in-Err.place at.0 at.1 j has)
