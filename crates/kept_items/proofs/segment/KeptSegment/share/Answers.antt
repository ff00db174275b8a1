use Rattle.std.proofs.Common.{◌≡◌, List, ap, ◌∙◌}
use Rattle.evidence_item.specs.Checking.{Checked}
use Rattle.kept_entries.specs.Shared.{SharedEntry}
use Rattle.kept_items.specs.within.Parts.{fields_of, findings_in}
use Rattle.kept_items.proofs.Made.{one_checked}
use Rattle.kept_items.proofs.segment.KeptSegment.share.Goals as goal

pub returns : goal.returns
returns c =
    let k = c.self.inside in
    let handles : c.in_ok-handles.handles.items ≡ k.handles.items = c.in_ok-handles.ensures ∙ c.as_slice.ensures.value in
    one_checked _ c.args.self.now
    (ap (λ (xs : List SharedEntry). fields_of k.node k.prev xs c.in_ok-sig.sig) handles ∙ ap (fields_of k.node k.prev k.handles.items) c.in_ok-sig.ensures ∙ ap (λ (x : Checked). x.item.fields) c.self.view_is)
    (ap (λ (x : Checked). x.verdict) c.self.view_is)
    (ap findings_in handles ∙ ap (λ (x : Checked). x.findings) c.self.view_is)
