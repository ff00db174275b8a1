use Rattle.std.proofs.Common.{ap, subst, sym}
use Rattle.std.specs.Io.KnownBytes.{Appends}
use Rattle.containers.specs.Container.{container_text}
use Rattle.evidence.specs.Exports.{magic}
use Rattle.kept_evidence.proofs.Listed.{texts_are}
use Rattle.plain_store.proofs.listing.export_to.Goals as goal

pub returns : goal.returns
returns g c =
    subst (Appends (g.W.Write.contents c.args.writer.now) (g.W.Write.contents c.write_pieces.new.writer))
    (sym (ap (container_text magic) (texts_are c.args.kept.now c.requires))) c.in_ok-write_pieces.ensures
