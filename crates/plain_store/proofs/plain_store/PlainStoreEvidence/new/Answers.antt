use Rattle.plain_store.proofs.Stores.{of_nothing}
use Rattle.plain_store.proofs.plain_store.PlainStoreEvidence.new.Goals as goal

pub invariant_of-result : goal.invariant_of-result
invariant_of-result g c = of_nothing c.args.directory g.P.Program.means c.new.result.items c.new-2.result c.new.ensures.items c.new-2.ensures
