use Rattle.std.proofs.Common.{sym, ◌∙◌}
use Rattle.item_forms.specs.Reading.{item_of}
use Rattle.item_forms.proofs.FramedTexts.{framed_is}
use Rattle.item_forms.proofs.Skipped.{valued}
use Rattle.item_forms.proofs.framing.scan_framed.Goals as goal

pub returns-clause-skips : goal.returns-clause-skips
returns-clause-skips c =
    let v = valued (item_of c.in_ok-body.body.now) c.in_ok-scan.ensures.scans in
    (v.0, framed_is c.args.wanted c.args.reader.now c.new-ahead.result c.in_ok-body.body.now c.bytes.new.self v.0 (c.new-ahead.ensures ∙ c.as_slice.ensures) c.in_ok-body.ensures (sym c.is_other_tag.ensures ∙ c.if-is_other_tag.false) v.1)
