use Rattle.std.proofs.Common.{◌≡◌, ◌≤◌, ◌++◌, length, subst}
use Rattle.std.specs.Prelude.{IfErr, IfOk}
use Rattle.containers.specs.declared.fault.Cause.TheVariants as cause
use Rattle.containers.specs.Refusals.{IsOfItems}
use Rattle.evidence.specs.Importing.{Importing, fed_by}
use Rattle.evidence.proofs.importer.Importer.feed.Goals as goal

pub returns-clause-memory : goal.returns-clause-memory
returns-clause-memory g c =
    subst (λ (v : Importing). IfOk v.fed (λ text. IfErr c.feed.result (λ f. f.cause ≡ cause.Memory → IsOfItems (λ reads. fed_by reads c.args.piece.now v.fed)))) c.self.view_is c.feed.ensures.memory

pub returns-clause-header : goal.returns-clause-header
returns-clause-header g c =
    subst (λ (v : Importing). IfOk v.fed (λ text. IfErr c.feed.result (λ f. f.cause ≡ cause.Memory → 16 ≤ length (text ++ c.args.piece.now)))) c.self.view_is c.feed.ensures.header
