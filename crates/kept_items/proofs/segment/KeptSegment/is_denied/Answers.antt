use Rattle.std.proofs.Common.{List, sym, ap, ◌∙◌}
use Rattle.proofs.specs.Contradictions.{is_rising}
use Rattle.proofs.proofs.Contradicting.{rising-decides}
use Rattle.kept_entries.specs.Shared.{SharedEntry, entries_of}
use Rattle.kept_items.proofs.segment.KeptSegment.is_denied.Goals as goal

pub finds_pair-requires-clause-rising : goal.finds_pair-requires-clause-rising
finds_pair-requires-clause-rising c =
    let xs = c.as_slice-handles.result.now in
    (rising-decides (entries_of xs)).0 (ap (λ (ys : List SharedEntry). is_rising (entries_of ys)) c.as_slice-handles.ensures.value ∙ sym c.self.invariant.rising ∙ c.if-not-self.false)
