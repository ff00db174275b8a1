use Rattle.std.proofs.Common.{◌≡◌, sym, ap, arith, ◌∙◌}
use Rattle.std.specs.Prelude.{Some, slice_get}
use Rattle.std.proofs.lemmas.Option.{slice_get-get_or}
use Rattle.evidence_item.specs.Checking.{Checked}
use Rattle.node_tables.proofs.Hashed.{hashed_less}
use Rattle.node_tables.proofs.Receipts.{segment_takes, still_here}
use Rattle.node_tables.proofs.closing.close_by_segment.Goals as goal

pub close_audits-requires-clause-hashed : goal.close_audits-requires-clause-hashed
close_audits-requires-clause-hashed g c = λ whole.
    hashed_less c.args.items.now c.args.node c.args.answer 0 c.args.places.now.items c.take_each_received.new.places.items c.args.hashes.now
    (still_here c.args.items.now c.args.node c.in-Some.kept.now c.args.places.now.items c.take_each_received.new.places.items c.take_each_received.ensures.items)
    (c.requires.hashed whole)

pub returns-clause-items : goal.returns-clause-items
returns-clause-items g c =
    let x = c.in-Some.kept.now in
    let named = c.in-Some.ensures.lookup in
    let here : slice_get c.args.items.now c.args.answer ≡ Some x = slice_get-get_or c.args.items.now c.args.answer x named.3.0 ∙ ap (λ (y : Checked). Some y) (sym named.1) in
    segment_takes c.args.items.now c.args.node c.args.answer x here c.requires.segment c.args.places.now.items c.take_each_received.new.places.items c.close_audits.new.places.items c.take_each_received.ensures.items c.close_audits.ensures.items

pub returns-clause-room : goal.returns-clause-room
returns-clause-room g c = omega (arith, c.take_each_received.ensures.room, c.close_audits.ensures.room)
