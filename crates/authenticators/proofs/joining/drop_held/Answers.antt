use Rattle.std.proofs.Common.{rules, not}
use Rattle.std.proofs.lemmas.Fn.{filter_same}
use Rattle.authenticators.specs.declared.authenticator.Authenticator.{Authenticator}
use Rattle.authenticators.specs.within.Joins.{is_held}
use Rattle.authenticators.proofs.joining.drop_held.Goals as goal

pub returns : goal.returns
returns c = filter_same _ (λ (x : Authenticator). not (is_held c.args.held.now x)) _ (λ x b f' k. search rules) _ _ c.retain.ensures.filtered
