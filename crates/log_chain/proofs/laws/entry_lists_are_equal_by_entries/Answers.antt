use Rattle.std.proofs.Common.{rules, ◌≡◌, ◌↔◌, IsTrue}
use Rattle.std.specs.Cmp.Lexicographic.{pointwise_decides}
use Rattle.log_chain.specs.declared.entry.Entry.{Entry}
use Rattle.log_chain.specs.contracts.entry.EntryPartialEq.TheImpl.{eq-value}
use Rattle.log_chain.proofs.laws.entry_lists_are_equal_by_entries.Goals as goal

pub returns : goal.returns
returns c =
    let each : (a b : Entry) → IsTrue (eq-value.it a b) ↔ (a ≡ b) = search rules in
    pointwise_decides each
