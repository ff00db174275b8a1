use Rattle.std.proofs.Common.{◌≡◌, List, ap, subst, sym, ◌∙◌}
use Rattle.std.specs.Prelude.{◌↔◌, ◌⊎◌}
use Rattle.std.specs.List.{Contains, insert}
use Rattle.node_tables.specs.declared.sending.Sending.{Sending}
use Rattle.node_tables.specs.Receipts.{AscendBySending}
use Rattle.node_tables.proofs.Received.{put_ascends, put_members, still_members}
use Rattle.node_tables.proofs.quoting.put.Goals as goal

pub returns-in_default-clause-come : goal.returns-in_default-clause-come
returns-in_default-clause-come c = λ whole.
    let items = c.release.new.self.sendings.items in
    let up = subst AscendBySending (sym c.release.ensures.sendings) c.requires in (
      sym c.release.ensures.whole ∙ whole,
      λ s. subst (λ (l : List Sending). Contains items s ↔ (Contains l s ⊎ (s ≡ c.args.sending))) c.release.ensures.sendings
          (still_members items c.args.sending up c.in_default.field-0 c.in_default.ensures.bound c.in_default.ensures.position s),
    )

pub returns-clause-ascending : goal.returns-clause-ascending
returns-clause-ascending c =
    let items = c.release.new.self.sendings.items in
    let up = subst AscendBySending (sym c.release.ensures.sendings) c.requires in
    let is = c.insert.ensures.items ∙ ap (λ (l : List Sending). insert l c.in-Err.place c.args.sending) c.reserve.ensures.same in
    subst AscendBySending (sym is) (put_ascends items c.args.sending up c.in-Err.place c.in-Err.ensures.bound c.in-Err.ensures.position)

pub returns-clause-come : goal.returns-clause-come
returns-clause-come c = λ whole.
    let items = c.release.new.self.sendings.items in
    let up = subst AscendBySending (sym c.release.ensures.sendings) c.requires in
    let is = c.insert.ensures.items ∙ ap (λ (l : List Sending). insert l c.in-Err.place c.args.sending) c.reserve.ensures.same in (
      sym c.release.ensures.whole ∙ whole,
      λ s. subst (λ (l : List Sending). Contains c.insert.new.self.items s ↔ (Contains l s ⊎ (s ≡ c.args.sending))) c.release.ensures.sendings
          (subst (λ (l : List Sending). Contains l s ↔ (Contains items s ⊎ (s ≡ c.args.sending))) (sym is)
          (put_members items c.args.sending up c.in-Err.place c.in-Err.ensures.bound c.in-Err.ensures.position s)),
    )
