use Rattle.std.proofs.Common.{false, refl}
use Rattle.durable_store.proofs.finding.next_text.Goals as goal

pub returns-in-Err-Memory-clause-shown : goal.returns-in-Err-Memory-clause-shown
returns-in-Err-Memory-clause-shown g c = λ ds basis. record { is_all = false; texts = _; are_found = refl; show = tt }

pub returns-in-Err-Failed-clause-shown : goal.returns-in-Err-Failed-clause-shown
returns-in-Err-Failed-clause-shown g c = λ ds basis. record { is_all = false; texts = _; are_found = refl; show = tt }

pub returns-in-Err-Damaged-clause-shown : goal.returns-in-Err-Damaged-clause-shown
returns-in-Err-Damaged-clause-shown g c = λ ds basis. record { is_all = false; texts = _; are_found = refl; show = tt }
