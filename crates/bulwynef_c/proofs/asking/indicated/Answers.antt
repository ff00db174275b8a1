use Rattle.std.proofs.Common.{◌≡◌, sym, subst}
use Rattle.std.specs.Prelude.{IfOk}
use Rattle.bulwynef_c.specs.Calls.{Indicates}
use Rattle.bulwynef_c.specs.Handles.{IsStore}
use Rattle.bulwynef_c.specs.declared.object.Object.{Object}
use Rattle.bulwynef_c.proofs.asking.indicated.Goals as goal

pub returns-in-TallyStore-clause-told : goal.returns-in-TallyStore-clause-told
returns-in-TallyStore-clause-told c = subst (λ (x : Object). IfOk c.indicated_in.result (λ n. IsStore (λ S p s. Indicates c.args.node n p s) x)) (sym c.in-TallyStore.is) c.indicated_in.ensures.told

pub returns-in-RelayStore-clause-told : goal.returns-in-RelayStore-clause-told
returns-in-RelayStore-clause-told c = subst (λ (x : Object). IfOk c.indicated_in-in-RelayStore.result (λ n. IsStore (λ S p s. Indicates c.args.node n p s) x)) (sym c.in-RelayStore.is) c.indicated_in-in-RelayStore.ensures.told

pub returns-in-MailboxStore-clause-told : goal.returns-in-MailboxStore-clause-told
returns-in-MailboxStore-clause-told c = subst (λ (x : Object). IfOk c.indicated_in-in-MailboxStore.result (λ n. IsStore (λ S p s. Indicates c.args.node n p s) x)) (sym c.in-MailboxStore.is) c.indicated_in-in-MailboxStore.ensures.told
