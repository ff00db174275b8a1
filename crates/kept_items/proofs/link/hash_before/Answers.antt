use Rattle.std.proofs.Common.{◌-◌, ap, arith, subst, suc, sym, ◌≡◌, ◌∙◌}
use Rattle.kept_entries.specs.Shared.{SharedEntry}
use Rattle.kept_items.specs.within.Parts.{before}
use Rattle.kept_items.proofs.Linked.{before_at, before_first}
use Rattle.kept_items.proofs.link.hash_before.Goals as goal

pub returns-then-place-eq0 : goal.returns-then-place-eq0
returns-then-place-eq0 c =
    let none : c.args.place ≡ 0 = omega (arith, c.if-place-eq0.true) in
    sym (ap (before c.args.prev c.args.handles.now) none ∙ before_first c.args.prev c.args.handles.now)

pub returns : goal.returns
returns c =
    let some : c.args.place ≡ suc (c.args.place - 1) = omega (arith, c.if-place-eq0.false) in
    c.hash.ensures ∙ ap (λ (x : SharedEntry). x.hash) c.get.ensures
    ∙ sym (before_at c.args.prev c.args.handles.now c.args.place (c.args.place - 1) c.index-handles-place.result some (omega (arith, c.if-place-eq0.false, c.requires)) c.index-handles-place.is)
