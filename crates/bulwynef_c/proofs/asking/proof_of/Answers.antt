use Rattle.std.proofs.Common.{◌≡◌, sym, subst}
use Rattle.std.specs.Prelude.{IfOk}
use Rattle.bulwynef_c.specs.Calls.{ConvictsBy}
use Rattle.bulwynef_c.specs.Handles.{IsStore}
use Rattle.bulwynef_c.specs.declared.object.Object.{Object}
use Rattle.bulwynef_c.proofs.asking.proof_of.Goals as goal

pub returns-in-TallyStore-clause-convicts : goal.returns-in-TallyStore-clause-convicts
returns-in-TallyStore-clause-convicts c = subst (λ (x : Object). IfOk c.proof_in.result (λ text. IsStore (λ S p s. ConvictsBy c.args.node text.items p s) x)) (sym c.in-TallyStore.is) c.proof_in.ensures.convicts

pub returns-in-RelayStore-clause-convicts : goal.returns-in-RelayStore-clause-convicts
returns-in-RelayStore-clause-convicts c = subst (λ (x : Object). IfOk c.proof_in-in-RelayStore.result (λ text. IsStore (λ S p s. ConvictsBy c.args.node text.items p s) x)) (sym c.in-RelayStore.is) c.proof_in-in-RelayStore.ensures.convicts

pub returns-in-MailboxStore-clause-convicts : goal.returns-in-MailboxStore-clause-convicts
returns-in-MailboxStore-clause-convicts c = subst (λ (x : Object). IfOk c.proof_in-in-MailboxStore.result (λ text. IsStore (λ S p s. ConvictsBy c.args.node text.items p s) x)) (sym c.in-MailboxStore.is) c.proof_in-in-MailboxStore.ensures.convicts
