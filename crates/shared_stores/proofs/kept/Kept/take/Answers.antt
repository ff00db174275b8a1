use Rattle.std.proofs.Common.{sym, ap, ◌∙◌, subst}
use Rattle.evidence_item.specs.Validity.{IsValid}
use Rattle.shared_stores.specs.declared.history.Call.TheVariants.{Take}
use Rattle.shared_stores.specs.declared.history.Given.TheVariants.{Took}
use Rattle.shared_stores.specs.Histories.{recorded}
use Rattle.shared_stores.specs.within.Journals.{Journal}
use Rattle.shared_stores.proofs.Replaying.{kept_step}
use Rattle.shared_stores.proofs.kept.Kept.take.Goals as goal

pub invariant_of-self-2 : goal.invariant_of-self-2
invariant_of-self-2 g c =
    kept_step _ _ _ _ _ _ _ _ _ (Take c.args.checked.item) (Took c.in_ok-took.took) c.self.invariant c.reserve.ensures.items c.push_reserved.ensures.items
    (c.new.ensures ∙ ap (λ x. recorded c.args.caller (Take x) (Took c.in_ok-took.took)) c.requires.copy)
    (subst (λ (j : Journal). IsValid j.directory c.args.checked.item.fields) (sym c.self.view_is) c.requires.checked.valid) c.in_ok-took.ensures.told c.in_ok-took.ensures.taken
