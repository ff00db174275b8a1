use Rattle.std.proofs.Common.{sym, ap, ◌∙◌, subst}
use Rattle.evidence_set.specs.Valid.{AreValid}
use Rattle.evidence_set.specs.ItemSets.{count}
use Rattle.evidence.specs.Contents.{Contents}
use Rattle.shared_stores.specs.declared.history.Call.TheVariants.{Merge}
use Rattle.shared_stores.specs.declared.history.Given.TheVariants.{Merged}
use Rattle.shared_stores.specs.Histories.{recorded}
use Rattle.shared_stores.specs.within.Journals.{Journal}
use Rattle.shared_stores.proofs.Replaying.{kept_step}
use Rattle.shared_stores.proofs.kept.Kept.merge.Goals as goal

pub invariant_of-self-2 : goal.invariant_of-self-2
invariant_of-self-2 g c =
    kept_step _ _ _ _ _ _ _ _ _ (Merge (g.S.Evidence.contents c.args.other.now).items) (Merged c.in_ok-new.new) c.self.invariant c.reserve.ensures.items c.push_reserved.ensures.items
    (c.new.ensures ∙ ap (λ M. recorded c.args.caller (Merge M) (Merged c.in_ok-new.new)) c.requires.copies)
    (subst (λ ds. AreValid ds (g.S.Evidence.contents c.args.other.now).items) (sym (ap (λ (j : Journal). j.directory) c.self.view_is ∙ c.requires.directory)) c.directory.ensures.valid)
    (c.in_ok-new.ensures.told ∙ ap (λ (C : Contents). count C.items) c.in_ok-new.ensures.joined) c.in_ok-new.ensures.joined
