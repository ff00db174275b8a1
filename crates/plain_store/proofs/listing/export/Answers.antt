use Rattle.std.proofs.Common.{◌∙◌, ap, sym}
use Rattle.containers.specs.Container.{container_text}
use Rattle.evidence.specs.Exports.{magic}
use Rattle.kept_evidence.proofs.Listed.{texts_are}
use Rattle.plain_store.proofs.listing.export.Goals as goal

pub returns : goal.returns
returns g c = c.in_ok-text.ensures ∙ sym (ap (container_text magic) (texts_are c.args.kept.now c.requires))
