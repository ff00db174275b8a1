use Rattle.std.proofs.Common.{◌≡◌, ℕ, List, Option, Some, ap, sym, subst, ◌∙◌}
use Rattle.log_chain.specs.declared.entry.Entry.{Entry}
use Rattle.item_forms.specs.declared.forms.Fields.TheVariants as form
use Rattle.item_forms.specs.declared.forms.Segment.{Segment}
use Rattle.item_forms.specs.Spelling.{FitsSegment}
use Rattle.evidence_item.specs.declared.findings.Findings.TheVariants as found
use Rattle.kept_entries.specs.Shared.{entries_of, hashes_of}
use Rattle.kept_items.specs.within.Lent.{whole}
use Rattle.kept_items.proofs.Made.{one_checked}
use Rattle.kept_items.proofs.copying.copy_segment.Goals as goal

pub item_of-item-requires : goal.item_of-item-requires
item_of-item-requires g c =
    let p = c.parts-parts.result in
    let same : record { node = p.node; prev = p.prev; entries = c.in_ok-entries.entries.items; sig = c.in_ok-sig.sig } ≡ whole p =
    ap (λ (es : List Entry). record { node = p.node; prev = p.prev; entries = es; sig = c.in_ok-sig.sig }) c.in_ok-entries.ensures
    ∙ ap (λ (t : List ℕ). record { node = p.node; prev = p.prev; entries = entries_of p.handles.now; sig = t }) c.in_ok-sig.ensures in
    subst FitsSegment (sym same) c.parts-parts.ensures.fits

pub returns : goal.returns
returns g c =
    let p = c.parts-parts.result in
    let x = c.args.segment.now in
    let same : record { node = p.node; prev = p.prev; entries = c.in_ok-entries.entries.items; sig = c.in_ok-sig.sig } ≡ whole p =
    ap (λ (es : List Entry). record { node = p.node; prev = p.prev; entries = es; sig = c.in_ok-sig.sig }) c.in_ok-entries.ensures
    ∙ ap (λ (t : List ℕ). record { node = p.node; prev = p.prev; entries = entries_of p.handles.now; sig = t }) c.in_ok-sig.ensures in
    let fields : c.item_of-item.result.fields ≡ x.item.fields = c.item_of-item.ensures ∙ ap (λ (s : Segment). form.Segment s) same ∙ sym c.parts-parts.ensures.fields in
    let verdict = c.copied.ensures ∙ c.verdict.ensures in
    let findings : Some (found.Segment (record { hashes = c.in_ok-hashes.hashes; quotes = c.in_ok-quotes.quotes })) ≡ x.findings =
    ap (λ (hs : List (List ℕ)). Some (found.Segment (record { hashes = hs; quotes = c.in_ok-quotes.quotes }))) c.in_ok-hashes.ensures
    ∙ ap (λ (qs : List (Option (List ℕ))). Some (found.Segment (record { hashes = hashes_of p.handles.now; quotes = qs }))) c.in_ok-quotes.ensures
    ∙ sym c.parts-parts.ensures.findings in
    c.with_findings.ensures ∙ one_checked _ x fields verdict findings
