use Rattle.std.proofs.Common.{refl, inr, arith}
use Rattle.node_tables.proofs.Holders.{put_new}
use Rattle.node_tables.proofs.holding.put_new.Goals as goal

pub put_where_room-requires : goal.put_where_room-requires
put_where_room-requires g c = c.requires.held.order

pub returns-then-put_where_room : goal.returns-then-put_where_room
returns-then-put_where_room g c =
    let members = c.put_where_room.ensures.members c.if-put_where_room.true in
    put_new c.args.items.now c.args.node c.args.mark c.args.link.now c.requires.next c.args.holders.now.items c.requires.held c.in-Some.entries (omega (arith, c.in-Some.ensures)) c.requires.new
    c.put_where_room.new.marks.items c.put_where_room.ensures.order (λ m has. (members m).0 has) c.put_where_room.ensures.still ((members c.args.mark).1 (inr refl))
