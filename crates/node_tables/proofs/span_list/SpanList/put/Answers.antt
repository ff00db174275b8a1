use Rattle.std.proofs.Common.{◌≡◌, ◌⊎◌, subst}
use Rattle.std.specs.Prelude.{◌↔◌}
use Rattle.std.specs.List.{Contains}
use Rattle.tiered_vec.specs.Tiers.{Tiered}
use Rattle.node_tables.specs.declared.span.Span.{Span}
use Rattle.node_tables.proofs.span_list.SpanList.put.Goals as goal

pub returns-clause-members : goal.returns-clause-members
returns-clause-members c = λ q. subst (λ (v : Tiered Span). Contains c.put.new.spans.items q ↔ (Contains v.items q ⊎ (q ≡ c.args.span))) c.self.view_is (c.put.ensures.members q)
