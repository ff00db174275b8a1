use Rattle.std.proofs.Common.{◌∙◌, ℕ, BTreeSet, true, false, take, sym, ap}
use Rattle.std.proofs.lemmas.Bool.{not-true, not-false}
use Rattle.std.specs.BTreeSet.{contains}
use Rattle.std.specs.List.{list_any}
use Rattle.replay_verifier.specs.Conforming.{came_before, came_in, is_same_sent}
use Rattle.replay_verifier.proofs.FirstRepeats.{sent_cmp, came_held, held_more, held_still, repeated_here, repeated_later}
use Rattle.replay_verifier.proofs.repeats.first_repeat.Goals.{in-Some+in_ok-insert+else-not-branch, in_default}
use Rattle.replay_verifier.proofs.repeats.first_repeat.Goals as goal

pub returns-then-not-branch : goal.returns-then-not-branch
returns-then-not-branch c =
    let log = c.args.entries.now in
    let old = not-false _ (sym c.in_ok-insert.ensures.added ∙ c.if-not-branch.true) in
    let again = came_held log c.loop-at.at c.index-entries-at.result c.in-Some.sent _ true (sym c.came_by.ensures ∙ c.in-Some.is) (c.loop-at.invariant.held c.in-Some.sent) old in
    repeated_here log c.loop-at.at c.index-entries-at.result _ c.loop-at-test.true c.index-entries-at.is again c.loop-at.invariant.rest

pub loop-at-preserved : goal.loop-at-preserved
loop-at-preserved c =
    let log = c.args.entries.now in
    let at = c.loop-at.at in
    let e = c.index-entries-at.result in
    let before = c.loop-at.invariant.held in
    record {
      held = λ q. elim c.match-came_by.branch [
        | in-Some+in_ok-insert+else-not-branch w ↦ ap (λ (s : BTreeSet (ℕ × ℕ)). contains sent_cmp s q) w.came-is
            ∙ held_more log at e w.in-Some.sent q _ _ c.loop-at-test.true c.index-entries-at.is (sym c.came_by.ensures ∙ w.in-Some.is) (before q) (w.in_ok-insert.ensures.updates.0 q)
        | in_default w ↦ ap (λ (s : BTreeSet (ℕ × ℕ)). contains sent_cmp s q) w.came-is ∙ before q
            ∙ sym (ap (list_any (is_same_sent q)) (held_still log at e c.loop-at-test.true c.index-entries-at.is (sym c.came_by.ensures ∙ w.in_default.is)))
      ];
      rest = repeated_later log at e _ c.loop-at-test.true c.index-entries-at.is (elim c.match-came_by.branch [
        | in-Some+in_ok-insert+else-not-branch w ↦ came_held log at e w.in-Some.sent _ false (sym c.came_by.ensures ∙ w.in-Some.is) (before w.in-Some.sent)
            (not-true _ (sym w.in_ok-insert.ensures.added ∙ w.if-not-branch.false))
        | in_default w ↦ ap (came_before (came_in (take at log))) (sym c.came_by.ensures ∙ w.in_default.is)
      ]) c.loop-at.invariant.rest;
    }
