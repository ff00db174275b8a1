-- The segment whose parts are lent.
use Rattle.item_forms.specs.declared.forms.Segment.{Segment}
use Rattle.kept_items.specs.declared.segment.Parts.{Parts}
use Rattle.kept_items.specs.within.Parts.{segment_of}

abbrev pub whole : Parts → Segment
whole p = segment_of p.node p.prev p.handles.now p.sig.now
