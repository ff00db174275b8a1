use Rattle.std.proofs.Common.{◌-◌, refl, sym, ap, ◌≡◌, ◌∙◌, inl, inr, arith, ⊎_elim}
use Rattle.std.specs.Prelude.{Some, option_copied, slice_get}
use Rattle.std.proofs.lemmas.Option.{get_or_from_slice_get}
use Rattle.node_tables.specs.declared.mark.Mark.{Mark}
use Rattle.node_tables.proofs.Holders.{put_known, put_over}
use Rattle.node_tables.proofs.Places.{contains_at}
use Rattle.node_tables.proofs.holding.put_over.Goals as goal

pub returns-then-old-mark : goal.returns-then-old-mark
returns-then-old-mark g c =
    let old : Mark = c.in-Some.held.now in
    let there : slice_get c.args.holders.now.items c.args.at ≡ Some old = sym c.get.ensures ∙ ap option_copied c.in-Some.is in
    put_known c.args.items.now c.args.node c.args.mark c.args.link.now c.requires.next c.args.holders.now.items c.requires.held old (contains_at c.args.holders.now.items c.args.at old there)
    (c.is_at.ensures c.if-not-is_at.false) (omega (arith, c.if-old-mark.true))

pub returns : goal.returns
returns g c =
    let items = c.args.holders.now.items in
    let old : Mark = c.in-Some.held.now in
    let there : slice_get items c.args.at ≡ Some old = sym c.get.ensures ∙ ap option_copied c.in-Some.is in
    put_over c.args.items.now c.args.node c.args.mark c.args.link.now c.requires.next items c.requires.held old (contains_at items c.args.at old there)
    (c.is_at.ensures c.if-not-is_at.false) (c.args.mark.position - old.position) (omega (arith, c.if-old-mark.false)) c.if-old-mark-2.false c.put.new.marks.items c.put.ensures.order
    (λ k in_new. ⊎_elim (λ was. inl (c.take_away.ensures.fewer k was)) (λ new. inr new) ((c.put.ensures.members k).0 in_new))
    (λ k was. ⊎_elim (λ still. inl ((c.put.ensures.members k).1 (inl still))) (λ same. inr (same ∙ get_or_from_slice_get items c.args.at old k there)) (c.take_away.ensures.others k k was))
    ((c.put.ensures.members c.args.mark).1 (inr refl))
