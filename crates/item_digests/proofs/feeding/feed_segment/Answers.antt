use Rattle.std.proofs.Common.{List, subst}
use Rattle.log_chain.specs.declared.entry.Entry.{Entry}
use Rattle.log_chain.specs.Fields.{counted_text}
use Rattle.item_forms.specs.declared.forms.Segment.{Segment}
use Rattle.item_forms.specs.Spelling.{entry_spelling, segment_spelling}
use Rattle.item_digests.specs.Feeding.{Feeds}
use Rattle.item_digests.proofs.Fed.{both_fed, bytes_fed}
use Rattle.item_digests.proofs.feeding.feed_segment.Goals as goal

pub returns : goal.returns
returns c =
    let sig = bytes_fed _ _ _ _ c.feed_bytes.ensures c.as_slice-2.ensures in
    let entries = subst (λ (es : List Entry). Feeds c.feed_hash.new.hasher c.feed_entries.new.hasher (counted_text entry_spelling es)) c.as_slice.ensures c.feed_entries.ensures in
    let prev = both_fed _ _ _ _ _ c.feed_u32.ensures c.feed_hash.ensures in
    let all = both_fed _ _ _ _ _ (both_fed _ _ _ _ _ prev entries) sig in
    subst (λ (x : Segment). Feeds c.args.hasher.now c.feed_bytes.new.hasher (segment_spelling x)) c.segment.view_is all
