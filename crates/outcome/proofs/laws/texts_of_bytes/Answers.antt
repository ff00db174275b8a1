use Rattle.outcome.proofs.ByteLists.{IsBytes-none, IsBytes-cons, IsBytes-rest}
use Rattle.outcome.proofs.laws.texts_of_bytes.Goals as goal

pub returns : goal.returns
returns c = record {
  none = IsBytes-none;
  more = λ byte text. (λ h. (h 0, IsBytes-rest byte text h), λ h. IsBytes-cons byte text h.0 h.1);
}
