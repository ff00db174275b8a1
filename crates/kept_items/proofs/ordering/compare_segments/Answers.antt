use Rattle.std.proofs.Common.{◌∙◌, sym}
use Rattle.kept_items.specs.within.Lent.{whole}
use Rattle.kept_items.proofs.ordering.compare_segments.Goals as goal

pub returns : goal.returns
returns c =
    c.compare_shared_parts.ensures
    ∙ sym (c.segments_are_ordered_by_fields.ensures.fields c.args.a.now.item c.args.b.now.item (whole c.parts.result) (whole c.parts-2.result) c.parts.ensures.fields c.parts-2.ensures.fields)
