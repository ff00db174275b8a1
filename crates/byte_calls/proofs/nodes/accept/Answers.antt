use Rattle.std.proofs.Common.{◌≡◌, ◌∙◌, true, subst, sym}
use Rattle.authenticators.specs.Directory.{Listing}
use Rattle.evidence_item.specs.Validity.{IsValidAckItem}
use Rattle.byte_calls.specs.Nodes.{is_sent}
use Rattle.byte_calls.proofs.Accepted.{found_sent, not_refused}
use Rattle.byte_calls.proofs.nodes.accept.Goals as goal

pub returns-in-Ok-clause-evidence : goal.returns-in-Ok-clause-evidence
returns-in-Ok-clause-evidence g c =
    let a = c.in_ok-item.item in
    record {
      item = a;
      spelled = c.in_ok-item.ensures.spelled;
      valid = subst (λ (ds : Listing). IsValidAckItem ds a) c.directory.ensures c.in_ok-item.ensures.valid;
      sent = found_sent c.args.node.now a.message (sym c.is_sent.ensures ∙ c.if-not-is_sent.false);
    }

pub returns-clause-exact : goal.returns-clause-exact
returns-clause-exact g c =
    absurd (not_refused c.the_test_is_signed.ensures c.args.node.now c.directory.result.now c.in_ok-item.item c.in-Err.fault c.directory.ensures
    (sym c.is_sent.ensures ∙ c.if-not-is_sent.false) c.in_ok-item.ensures.valid c.in-Err.ensures.refused)
