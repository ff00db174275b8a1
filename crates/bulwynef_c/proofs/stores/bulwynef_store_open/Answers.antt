use Rattle.std.proofs.Common.{sym, subst}
use Rattle.bulwynef_c.specs.Calls.{IsStoreOf}
use Rattle.bulwynef_c.specs.Handles.{Is}
use Rattle.bulwynef_c.proofs.stores.bulwynef_store_open.Goals as goal

pub returns-in-Ok-clause-opened : goal.returns-in-Ok-clause-opened
returns-in-Ok-clause-opened c = λ zero. subst (λ v. Is (IsStoreOf c.args.program c.args.directory.now) v) (sym (c.put.ensures.put zero)) c.in-Ok.ensures.made
