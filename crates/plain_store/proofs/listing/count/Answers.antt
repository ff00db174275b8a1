use Rattle.std.proofs.Common.{sym}
use Rattle.kept_evidence.proofs.Added.{counted}
use Rattle.plain_store.proofs.listing.count.Goals as goal

pub returns : goal.returns
returns g c = sym (counted c.args.kept.now c.requires)
