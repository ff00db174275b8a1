use Rattle.std.proofs.Common.{ap, map, subst, ◌∙◌}
use Rattle.std.specs.Io.KnownBytes.{Appends}
use Rattle.indexed_store.specs.declared.listing.Lent.{Lent}
use Rattle.indexed_store.proofs.Listed.{text_of}
use Rattle.indexed_store.proofs.listing.export_to.Goals as goal

pub returns : goal.returns
returns g c =
    subst (Appends (g.W.Write.contents c.args.writer.now) (g.W.Write.contents c.write_pieces.new.writer))
    (text_of (λ (l : Lent _). l.kept.now.item) c.deref.result.now c.args.index.now.items.items c.args.index.now.order.items c.requires (ap (map (λ (l : Lent _). l.kept.now.item)) c.deref.ensures.value ∙ c.in_ok-lent.ensures))
    c.in_ok-write_pieces.ensures
