use Rattle.std.proofs.Common.{◌≡◌, ap, subst, sym, ◌∙◌}
use Rattle.evidence_item.specs.Checking.{IsChecked}
use Rattle.evidence_set.specs.ItemSets.{contains}
use Rattle.transfer.proofs.Applied.{one_held, one_missing}
use Rattle.transfer.proofs.walking.items_missing.Goals as goal
use Rattle.transfer.proofs.walking.items_missing.Goals.{then-not-holds+in_ok-try_clone+in_ok-push, else-not-holds}

pub loop-item-preserved : goal.loop-item-preserved
loop-item-preserved g c =
    let s = g.S.Evidence.contents c.args.store.now in
    let item = c.item-item.result in
    let told : c.holds.result ≡ contains s.items item.item = c.holds.ensures ∙ ap (contains s.items) c.item.ensures in
    elim c.if-not-holds.branch [
      | then-not-holds+in_ok-try_clone+in_ok-push w ↦
          let checked = subst (IsChecked s.directory g.P.Program.means) (sym c.item-item.is) (c.requires c.loop-item.item-index item c.loop-item-test.true) in
          rw w.missing-is
          (one_missing s.items (IsChecked s.directory g.P.Program.means) c.args.items.now c.loop-item.item-index item c.loop-item-test.true c.item-item.is c.loop-item.missing.items w.push.new.self.items w.in_ok-try_clone.field-0
          (sym told ∙ w.if-not-holds.true) w.in_ok-try_clone.ensures (subst (IsChecked s.directory g.P.Program.means) (sym w.in_ok-try_clone.ensures) checked) w.in_ok-push.ensures.items c.loop-item.invariant)
      | else-not-holds w ↦
          rw w.missing-is
          (one_held s.items (IsChecked s.directory g.P.Program.means) c.args.items.now c.loop-item.item-index item c.loop-item-test.true c.item-item.is c.loop-item.missing.items (sym told ∙ w.if-not-holds.false) c.loop-item.invariant)
    ]
