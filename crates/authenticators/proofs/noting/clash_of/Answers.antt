use Rattle.std.proofs.Common.{sym, ap, ◌∙◌}
use Rattle.authenticators.specs.declared.clash.Clash.{Clash}
use Rattle.authenticators.proofs.ClashNotes.{found, nowhere}
use Rattle.authenticators.proofs.noting.clash_of.Goals as goal

pub returns-in-Err-clause-none : goal.returns-in-Err-clause-none
returns-in-Err-clause-none c = nowhere c.args.clashes.now c.args.node c.requires c.in-Err.field-0 c.in-Err.ensures.position

pub returns-in-Ok-clause-some : goal.returns-in-Ok-clause-some
returns-in-Ok-clause-some c = (
  (c.in-Ok.place, c.in-Ok.ensures.bound, sym c.index-clashes-place.is),
  ap (λ (p : Clash). p.node) c.index-clashes-place.is ∙ found c.args.clashes.now c.args.node c.requires c.in-Ok.place c.in-Ok.ensures.bound c.in-Ok.ensures.position c.index-clashes-place.result,
)
