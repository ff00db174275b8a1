-- What the refusal of a reply tells of the texts that were handed in.
use Rattle.std.proofs.Common.{◌≡◌, ◌⊎◌, ℕ, List, Result, Ok, Err, IfErr, inr, subst}
use Rattle.authenticators.specs.Directory.{Listing}
use Rattle.replay_verifier.specs.Meaning.{Meaning}
use Rattle.commitment.specs.Nodes.{NodeState}
use Rattle.item_forms.specs.declared.forms.Fields.{Fields}
use Rattle.challenges.specs.declared.fault.AnswerFault.{AnswerFault}
use Rattle.challenges.specs.Answers.{IsRefused}
use Rattle.byte_calls.specs.declared.refusal.Refusal.{Refusal}
use Rattle.byte_calls.specs.declared.refusal.Refusal.TheVariants.{Memory}
use Rattle.byte_calls.specs.Nodes.{RefusesReply, of_length}
use Rattle.byte_calls.specs.Refusals.{of_answering}
use Rattle.byte_calls.specs.Stores.{valid_item_of}

pub reply_refused : {S X : Type 0} (program : Meaning S) (challenge entropy : List ℕ) (n : NodeState S) (ds : Listing) (asked : Fields) (bytes : List ℕ) (r : Result X Refusal) → ds ≡ n.directory → of_length 32 entropy ≡ Ok bytes → valid_item_of ds challenge ≡ Ok asked → IfErr r (λ f. (e : AnswerFault) × IsRefused program n asked bytes e × (f ≡ of_answering e)) → IfErr r (λ f. (f ≡ Memory) ⊎ RefusesReply program challenge entropy n f)
reply_refused program challenge entropy n ds asked bytes (Ok x) same long valid h = tt
reply_refused program challenge entropy n ds asked bytes (Err f) same long valid h = inr (inr (bytes, long, inr (asked, h.0, subst (λ (d : Listing). valid_item_of d challenge ≡ Ok asked) same valid, h.1, h.2)))
