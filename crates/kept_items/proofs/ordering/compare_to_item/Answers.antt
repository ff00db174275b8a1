use Rattle.std.proofs.Common.{◌∙◌, ap, sym}
use Rattle.item_forms.specs.Forms.{shown}
use Rattle.kept_items.specs.within.Lent.{whole}
use Rattle.kept_items.proofs.ordering.compare_to_item.Goals as goal

pub returns-in-Segment : goal.returns-in-Segment
returns-in-Segment c =
    c.compare_parts.ensures
    ∙ sym (c.segments_are_ordered_by_fields.ensures.fields c.args.segment.now.item c.args.item.now (whole c.parts-parts.result) c.in-Segment.other.now c.parts-parts.ensures.fields (sym c.form.ensures ∙ ap shown c.in-Segment.is))
