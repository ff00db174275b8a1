-- How a call that logs a block answers, by what came of it.
use Rattle.std.proofs.Common.{◌≡◌, Option, None, Some, Result, Ok, Err, inl, inr, sym, ap, subst, ◌∙◌}
use Rattle.std.specs.Prelude.{IsErrAnd}
use Rattle.std.proofs.lemmas.Result.{err_from_is_err_and}
use Rattle.commitment.specs.declared.fault.NodeFault.{NodeFault}
use Rattle.commitment.specs.declared.fault.NodeFault.TheVariants.{Memory}
use Rattle.commitment.specs.Accounts.{Account}
use Rattle.commitment.specs.within.Logging.{RefusesFor}

module _ {A : Type 0} (fault : Option NodeFault) (old new : Account) where
  -- what forbids it was told
  pub forbidden : (e : NodeFault) → fault ≡ Some e → new ≡ old → RefusesFor {A = A} fault (Err e) old new
  forbidden e is same = record {
    allowed = tt;
    told = λ f told. ap Err (some_same (sym is ∙ told));
    refused = inr is;
    unchanged = same;
  }
    where
      some_same : {x y : NodeFault} → Some x ≡ Some y → x ≡ y
      some_same {x} {y} e = cc

  -- memory ran out
  pub out_of_memory : (r : Result A NodeFault) → fault ≡ None → IsErrAnd r (λ e. e ≡ Memory) → new ≡ old → RefusesFor fault r old new
  out_of_memory r none is same =
      let (e, err, memory) = err_from_is_err_and r is in
      subst (λ (r : Result A NodeFault). RefusesFor fault r old new) (sym err) (record {
        allowed = tt;
        told = λ f told. absurd cc;
        refused = inl memory;
        unchanged = same;
      })

  -- the block was logged
  pub block_logged : (x : A) → fault ≡ None → RefusesFor fault (Ok x) old new
  block_logged x none = record {
    allowed = none;
    told = λ f told. absurd cc;
    refused = tt;
    unchanged = tt;
  }
