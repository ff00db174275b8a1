use Rattle.std.proofs.Common.{List, subst}
use Rattle.authenticators.specs.declared.authenticator.Authenticator.{Authenticator}
use Rattle.authenticators.specs.StatementSet.{IsUnion}
use Rattle.authenticators.proofs.joining.insert_new.Goals as goal

pub returns-then-len-le-FEW-clause-added : goal.returns-then-len-le-FEW-clause-added
returns-then-len-le-FEW-clause-added c = subst (λ (l : List Authenticator). IsUnion l c.args.statements.items c.insert_each.new.held.items) c.in_ok-reserve.ensures.items c.insert_each.ensures.added

pub returns-clause-added : goal.returns-clause-added
returns-clause-added c = subst (λ (l : List Authenticator). IsUnion l c.args.statements.items c.join.new.held.items) c.in_ok-reserve.ensures.items c.join.ensures.added
