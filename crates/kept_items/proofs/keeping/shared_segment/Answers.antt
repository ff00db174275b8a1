use Rattle.std.proofs.Common.{◌≡◌, Some, sym, ap, subst, ◌∙◌}
use Rattle.std.specs.Option.{option_copied}
use Rattle.item_forms.specs.declared.forms.Fields.TheVariants as form
use Rattle.item_forms.specs.Forms.{shown}
use Rattle.item_forms.specs.Spelling.{Fits}
use Rattle.evidence_item.specs.declared.findings.Findings.{Findings}
use Rattle.evidence_item.specs.declared.findings.Findings.TheVariants as found
use Rattle.kept_items.specs.within.Parts.{fields_of}
use Rattle.kept_items.specs.within.Shared.{shared_of}
use Rattle.kept_items.proofs.Made.{fields_are, findings_are, found_is, hashed_are, one_checked}
use Rattle.kept_items.proofs.keeping.shared_segment.Goals as goal

pub from_parts-kept-requires-clause-fits : goal.from_parts-kept-requires-clause-fits
from_parts-kept-requires-clause-fits g c =
    let s = c.in-Segment.segment.now in
    let f = c.in-Some-Segment.found in
    let x = c.args.checked.now in
    let fields : x.item.fields ≡ form.Segment s = sym (ap (λ p. p.fields) c.item.ensures) ∙ sym c.form.ensures ∙ ap shown c.in-Segment.is in
    let findings : x.findings ≡ Some (found.Segment f) = sym c.findings.ensures ∙ ap option_copied c.in-Some-Segment.is ∙ ap (λ (k : Findings). Some k) c.in-Some-Segment.field-0-is in
    let can = found_is x.item.fields x.findings s f fields findings c.requires in
    let xs = c.in_ok-handles.handles.items in
    let is : xs ≡ shared_of s.prev s.entries f.hashes f.quotes = rw (sym c.as_slice.ensures, sym c.as_slice-2.ensures, sym c.as_slice-3.ensures) c.in_ok-handles.ensures in
    let same : fields_of s.node s.prev xs c.in_ok-sig.sig ≡ x.item.fields = ap (fields_of s.node s.prev xs) c.in_ok-sig.ensures ∙ fields_are s f can xs is ∙ sym fields in
    subst Fits (sym same) x.item.fits

pub from_parts-kept-requires-clause-hashed : goal.from_parts-kept-requires-clause-hashed
from_parts-kept-requires-clause-hashed g c =
    let s = c.in-Segment.segment.now in
    let f = c.in-Some-Segment.found in
    let x = c.args.checked.now in
    let fields : x.item.fields ≡ form.Segment s = sym (ap (λ p. p.fields) c.item.ensures) ∙ sym c.form.ensures ∙ ap shown c.in-Segment.is in
    let findings : x.findings ≡ Some (found.Segment f) = sym c.findings.ensures ∙ ap option_copied c.in-Some-Segment.is ∙ ap (λ (k : Findings). Some k) c.in-Some-Segment.field-0-is in
    let can = found_is x.item.fields x.findings s f fields findings c.requires in
    let xs = c.in_ok-handles.handles.items in
    let is : xs ≡ shared_of s.prev s.entries f.hashes f.quotes = rw (sym c.as_slice.ensures, sym c.as_slice-2.ensures, sym c.as_slice-3.ensures) c.in_ok-handles.ensures in
    hashed_are s f can xs is

pub returns-clause-some : goal.returns-clause-some
returns-clause-some g c =
    let s = c.in-Segment.segment.now in
    let f = c.in-Some-Segment.found in
    let x = c.args.checked.now in
    let fields : x.item.fields ≡ form.Segment s = sym (ap (λ p. p.fields) c.item.ensures) ∙ sym c.form.ensures ∙ ap shown c.in-Segment.is in
    let findings : x.findings ≡ Some (found.Segment f) = sym c.findings.ensures ∙ ap option_copied c.in-Some-Segment.is ∙ ap (λ (k : Findings). Some k) c.in-Some-Segment.field-0-is in
    let can = found_is x.item.fields x.findings s f fields findings c.requires in
    let xs = c.in_ok-handles.handles.items in
    let is : xs ≡ shared_of s.prev s.entries f.hashes f.quotes = rw (sym c.as_slice.ensures, sym c.as_slice-2.ensures, sym c.as_slice-3.ensures) c.in_ok-handles.ensures in
    let same : fields_of s.node s.prev xs c.in_ok-sig.sig ≡ x.item.fields = ap (fields_of s.node s.prev xs) c.in_ok-sig.ensures ∙ fields_are s f can xs is ∙ sym fields in
    c.in_ok-kept.ensures.ok
    ∙ one_checked c.from_parts-kept.result x (c.from_parts-kept.ensures.fields ∙ same)
    (c.from_parts-kept.ensures.verdict ∙ c.copied.ensures ∙ c.verdict.ensures)
    (c.from_parts-kept.ensures.findings ∙ findings_are s f can xs is ∙ sym findings)
