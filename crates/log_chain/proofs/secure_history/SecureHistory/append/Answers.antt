use Rattle.std.proofs.Common.{sym}
use Rattle.log_chain.proofs.Finds.{fault_of_entry}
use Rattle.log_chain.proofs.secure_history.SecureHistory.append.Goals as goal

pub returns-in-Some-clause-room : goal.returns-in-Some-clause-room
returns-in-Some-clause-room c = λ room memory. fault_of_entry _ _ _ (sym c.in-Some.ensures) memory
