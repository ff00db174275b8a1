use Rattle.std.proofs.Common.{◌≡◌, Some, inr, sym, ap, subst, ◌∙◌, arith}
use Rattle.std.specs.Prelude.{IsOk}
use Rattle.outcome.specs.Bytes.{IsBytes}
use Rattle.item_forms.specs.FramedItems.{framed_at}
use Rattle.node_journals.specs.declared.fault.RecordFault.TheVariants.{Memory}
use Rattle.node_journals.specs.declared.recorded.Recorded.TheVariants.{Received}
use Rattle.node_journals.specs.Records.{ended, received_at}
use Rattle.node_journals.proofs.ReceivedReading.{left_over, none_left, received_as, told_anyway}
use Rattle.node_journals.proofs.reading.read_received.Goals as goal

pub returns-then-left-gt0-clause-gives : goal.returns-then-left-gt0-clause-gives
returns-then-left-gt0-clause-gives c =
    let scanned = c.in_ok-scan_framed.ensures.skips in
    let behind = c.new-ahead.ensures ∙ c.as_slice.ensures in
    let fits : IsBytes c.hash.new.self = subst IsBytes (c.as_slice-2.ensures ∙ behind) c.bytes_fit.ensures in
    let m = received_as c.framed_items_read_back.ensures c.args.reader.now c.in_ok-entropy.entropy c.hash.new.self scanned.0 c.scan_framed.new.reader fits c.in_ok-entropy.ensures (ap (framed_at (Some 4)) (sym behind) ∙ scanned.1) in
    inr (left_over (received_at c.args.reader.now) (Received m.0 c.in_ok-entropy.entropy) c.scan_framed.new.reader m.1 (omega (arith, c.left.ensures, c.if-left-gt0.true)))

pub returns-in_err-item-clause-told : goal.returns-in_err-item-clause-told
returns-in_err-item-clause-told c =
    let scanned = c.in_ok-scan_framed.ensures.skips in
    let behind = c.new-ahead.ensures ∙ c.as_slice.ensures in
    let fits : IsBytes c.hash.new.self = subst IsBytes (c.as_slice-2.ensures ∙ behind) c.bytes_fit.ensures in
    let m = received_as c.framed_items_read_back.ensures c.args.reader.now c.in_ok-entropy.entropy c.hash.new.self scanned.0 c.scan_framed.new.reader fits c.in_ok-entropy.ensures (ap (framed_at (Some 4)) (sym behind) ∙ scanned.1) in
    told_anyway c.from_residual-in_err-item.result (λ e. e ≡ Memory) (IsOk (ended (received_at c.args.reader.now)))
    (none_left (received_at c.args.reader.now) (Received m.0 c.in_ok-entropy.entropy) c.scan_framed.new.reader m.1 (omega (arith, c.left.ensures, c.if-left-gt0.false)))
