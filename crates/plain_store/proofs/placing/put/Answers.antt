use Rattle.std.proofs.Common.{◌≡◌, Bool, true, false, List, cond, subst, sym}
use Rattle.std.specs.Prelude.{◌↔◌, ◌⊎◌}
use Rattle.std.specs.List.{Contains, insert}
use Rattle.authenticators.proofs.AscendingLists.{members-insert, sorted-insert}
use Rattle.evidence_item.specs.Checking.{Checked}
use Rattle.kept_evidence.specs.Kept.{by_item, IsAscending}
use Rattle.kept_evidence.proofs.Orders.{by_item_total}
use Rattle.plain_store.proofs.placing.put.Goals as goal

chosen : (b : Bool) (xs ys zs : List Checked) → xs ≡ cond b ys zs → b ≡ true → xs ≡ ys
chosen true xs ys zs is h = is
chosen false xs ys zs is h = absurd cc

pub returns-clause-ascending : goal.returns-clause-ascending
returns-clause-ascending g c =
    let old = c.args.kept.now.items in
    let is : c.insert.new.self.items ≡ insert old c.args.place c.args.checked = chosen _ _ _ _ c.insert.ensures.items (c.insert.ensures.succeeds c.requires.room) in
    let place = c.requires.place in
    subst IsAscending (sym is) (sorted-insert by_item by_item_total c.args.checked old c.args.place place.inside c.requires.ascending place.before place.behind)

pub returns-clause-members : goal.returns-clause-members
returns-clause-members g c = λ x.
    let old = c.args.kept.now.items in
    let is : c.insert.new.self.items ≡ insert old c.args.place c.args.checked = chosen _ _ _ _ c.insert.ensures.items (c.insert.ensures.succeeds c.requires.room) in
    subst (λ (l : List Checked). Contains l x ↔ (Contains old x ⊎ (x ≡ c.args.checked))) (sym is) (members-insert old c.args.place c.args.checked x)
