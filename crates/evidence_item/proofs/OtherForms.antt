-- What checking leaves of an item that is no segment.
use Rattle.std.proofs.Common.{◌≡◌, ◌⊎◌, inr, false, Option, Some, None, Result, Err, refl, sym, ap, subst}
use Rattle.std.specs.Prelude.{IfErr, IfOk, IfSome}
use Rattle.log_chain.specs.History.{unless}
use Rattle.authenticators.specs.Directory.{Listing}
use Rattle.replay_verifier.specs.Meaning.{Meaning}
use Rattle.item_forms.specs.declared.forms.Fields.{Fields}
use Rattle.item_forms.specs.declared.forms.Fields.TheVariants as form
use Rattle.evidence_item.specs.declared.checking.Judged.{Judged}
use Rattle.evidence_item.specs.declared.fault.ItemFault.{ItemFault}
use Rattle.evidence_item.specs.declared.fault.ItemFault.TheVariants.{Memory}
use Rattle.evidence_item.specs.Checking.{AreFindings, IsFound, IsOwnVerdict, findings_of, is_segment}
use Rattle.evidence_item.specs.Validity.{early_fault, fault_of}
use Rattle.evidence_item.specs.within.Judging.{IsJudged}
use Rattle.evidence_item.proofs.ValidItems.{early_faults}

module _ {S : Type 0} (ds : Listing) (program : Meaning S) where
  own_verdict : (x : Fields) → is_segment x ≡ false → IsOwnVerdict ds program x None
  own_verdict (form.Auth a) e = refl
  own_verdict (form.Segment s) e = cc e
  own_verdict (form.Audit c) e = refl
  own_verdict (form.Send m) e = refl
  own_verdict (form.Ack a) e = refl

  own_findings : (x : Fields) → IfSome (findings_of ds x) (AreFindings ds x)
  own_findings (form.Auth a) = tt
  own_findings (form.Segment s) = refl
  own_findings (form.Audit c) = tt
  own_findings (form.Send m) = refl
  own_findings (form.Ack a) = refl

  own_found : (x : Fields) → is_segment x ≡ false → IsFound x (findings_of ds x)
  own_found (form.Auth a) e = tt
  own_found (form.Segment s) e = cc e
  own_found (form.Audit c) e = tt
  own_found (form.Send m) e = refl
  own_found (form.Ack a) e = refl

  -- what judging promises of an item
  pub record AreJudged (x : Fields) (r : Result Judged ItemFault) : Type 0 where
    pub valid : IfOk r (λ j. IsJudged ds program x j.verdict j.findings)
    pub refused : IfErr r (λ e. (e ≡ Memory) ⊎ (fault_of ds x ≡ Some e))
    pub lent : IfErr r (λ e. fault_of ds x ≡ Some e)
    pub forbidden : (e : ItemFault) → early_fault ds x ≡ Some e → r ≡ Err e

  abbrev other_judged : Fields → Judged
  other_judged x = record { verdict = None; findings = findings_of ds x }

  by_fault : (x : Fields) (f : Option ItemFault) → is_segment x ≡ false → fault_of ds x ≡ f → AreJudged x (unless f (other_judged x))
  by_fault x None o e = record {
    valid = record { sound = e; verdict = own_verdict x o; findings = own_findings x; found = own_found x o };
    refused = tt;
    lent = tt;
    forbidden = λ g h. let w = early_faults.early ds x g h in absurd (cc (e, w));
  }
  by_fault x (Some f) o e = record {
    valid = tt;
    refused = inr e;
    lent = e;
    forbidden = λ g h. let w = early_faults.early ds x g h in let same : f ≡ g = cc (e, w) in ap Err same;
  }

  pub judged_other : (x : Fields) (r : Result Judged ItemFault) → is_segment x ≡ false → r ≡ unless (fault_of ds x) (other_judged x) → AreJudged x r
  judged_other x r o is = subst (λ (s : Result Judged ItemFault). AreJudged x s) (sym is) (by_fault x (fault_of ds x) o refl)
