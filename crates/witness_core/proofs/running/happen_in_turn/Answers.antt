use Rattle.std.proofs.Common.{◌≡◌, arith, length}
use Rattle.witness_core.proofs.Extended.{next_checked, nothing_ran, one_done, stopped}
use Rattle.witness_core.proofs.running.happen_in_turn.Goals as goal

pub loop-event-init : goal.loop-event-init
loop-event-init g c = rw c.new-replies.ensures.items (nothing_ran g.P.Program.means c.args.world.now)

pub next-requires : goal.next-requires
next-requires g c =
    next_checked g.P.Program.means c.args.world.now c.loop-event.world c.args.events.now c.loop-event.event-index c.event-item.result c.loop-event.replies.items c.requires c.loop-event-test.true c.event-item.is c.loop-event.invariant

pub returns-in-Err-clause-stopped : goal.returns-in-Err-clause-stopped
returns-in-Err-clause-stopped g c =
    let count : c.len-done.result ≡ length c.next.new.replies.items = omega (arith, c.len-done.ensures, c.next.new.replies.ok) in
    rw (count, c.in-Err.ensures.kept, c.in-Err.ensures.refused)
    (stopped g.P.Program.means c.args.world.now c.args.events.now c.loop-event.event-index c.event-item.result c.loop-event.replies.items c.in-Err.cause c.loop-event.world c.loop-event-test.true c.event-item.is c.loop-event.invariant c.in-Err.ensures.told)

pub loop-event-preserved : goal.loop-event-preserved
loop-event-preserved g c =
    let new = c.in_default.ensures.answered in
    rw (new.2) (one_done g.P.Program.means c.args.world.now c.took_in_parts.ensures c.loop-event.world c.next.new.world c.args.events.now c.loop-event.event-index c.loop-event.replies.items c.event-item.result new.0 c.loop-event-test.true c.event-item.is c.loop-event.invariant c.in_default.ensures.left c.in_default.ensures.done new.1)
