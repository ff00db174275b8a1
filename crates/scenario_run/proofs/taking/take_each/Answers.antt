use Rattle.std.proofs.Common.{◌≡◌, ◌∙◌, ◌∷◌, rules, sym}
use Rattle.std.specs.Vec.Iter.{into_iter_items}
use Rattle.std.proofs.lemmas.List.Elements.{All-same, All-tail}
use Rattle.evidence_item.specs.Checking.{IsChecked}
use Rattle.scenario_run.proofs.taking.take_each.Goals as goal

pub loop-item-preserved : goal.loop-item-preserved
loop-item-preserved g c =
    let next : into_iter_items c.loop-item.item-iterator ≡ c.in-Some.item ∷ into_iter_items c.next.new.self = search rules in
    record {
      checked = All-tail (IsChecked c.args.shared.now.directory g.P.Program.means) _ _ (All-same (IsChecked c.args.shared.now.directory g.P.Program.means) _ _ (sym next) c.loop-item.invariant.checked);
      number = c.in_ok-take.ensures.number ∙ c.loop-item.invariant.number;
    }
