use Rattle.std.proofs.Common.{◌≡◌, List, ℕ, ◌++◌, length, inl, ap, sym, ◌∙◌, arith}
use Rattle.journal.specs.Journal.{can_be_left}
use Rattle.journal.proofs.Ends.{disagrees}
use Rattle.journal.proofs.reading.Reading.next.Goals as goal

pub returns-then-size-lack-clause-damaged : goal.returns-then-size-lack-clause-damaged
returns-then-size-lack-clause-damaged g c =
    let file = g.D.Device.found c.args.self.now.device in
    let head = c.as_slice.result.now in
    let is = c.in_ok-head.ensures.found ∙ ap (λ (l : List ℕ). file ++ l) (sym c.as_slice.ensures.value) in
    let least = c.in-len9.len_at_least in
    let most = c.in-len9.len_below in
    let long : length head ≡ 9 = omega (arith, least, most) in
    λ _. inl (λ behind. ap (λ (l : List ℕ). can_be_left (l ++ behind)) is
    ∙ disagrees file head behind c.from_be_bytes-size.result c.from_be_bytes-lack.result c.requires.whole long c.if-gate-eq0.false c.from_be_bytes-size.ensures c.from_be_bytes-lack.ensures c.if-size-lack.true)
