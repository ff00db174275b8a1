use Rattle.std.proofs.Common.{get_or, sym, ◌∙◌}
use Rattle.node_tables.proofs.Stepping.{as_read}
use Rattle.node_tables.proofs.quoting.is_received.Goals as goal

pub is_among-requires : goal.is_among-requires
is_among-requires g c =
    let i = c.in-Some-place_of.i in
    let found = as_read c.args.tables.now i c.in-Some.sending.from c.index-tables-i.result c.in-Some-place_of.ensures.some in
    (c.requires.told i (get_or c.args.tables.now i c.index-tables-i.result) found.0).receipts

pub returns : goal.returns
returns g c =
    let i = c.in-Some-place_of.i in
    let s = c.in-Some.sending in
    let (at, own) = as_read c.args.tables.now i s.from c.index-tables-i.result c.in-Some-place_of.ensures.some in
    let are = c.requires.receipts i (get_or c.args.tables.now i c.index-tables-i.result) at c.if-not-receipts.false s in
    (s, sym c.sent.ensures ∙ c.in-Some.is, (λ h. (are.0 (c.is_among.ensures.0 h)).0, λ r. c.is_among.ensures.1 (are.1 (r, sym own))))
