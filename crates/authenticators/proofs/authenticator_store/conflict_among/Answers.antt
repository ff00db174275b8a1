use Rattle.std.proofs.Common.{arith, sym, ◌∙◌}
use Rattle.std.proofs.lemmas.Slice.Eq.{bytes_eq-Decides}
use Rattle.authenticators.proofs.Conflicts.{ends_agree, ends_differ}
use Rattle.authenticators.proofs.authenticator_store.conflict_among.Goals as goal

pub returns-then-eq-clause-none : goal.returns-then-eq-clause-none
returns-then-eq-clause-none c =
    let first = c.first-item.result in
    let last = c.last-item.result in
    ends_agree c.args.held.now c.requires.ascending c.requires.one_point first last (omega (arith, c.in-len2-up.len_at_least)) (sym c.first-item.is) (sym c.last-item.is) ((bytes_eq-Decides first.hash last.hash).0 (sym c.eq.ensures ∙ c.if-eq.true))

pub returns-clause-two : goal.returns-clause-two
returns-clause-two c =
    let first = c.first-item.result in
    let last = c.last-item.result in
    ends_differ c.args.held.now c.requires.one_point first last (omega (arith, c.in-len2-up.len_at_least)) (sym c.first-item.is) (sym c.last-item.is) (λ same. absurd (cc (c.if-eq.false, c.eq.ensures, (bytes_eq-Decides first.hash last.hash).1 same)))
