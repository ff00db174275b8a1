use Rattle.log_chain.proofs.OneReading.{one_reading}
use Rattle.log_chain.proofs.laws.entry_texts_have_one_reading.Goals as goal

pub returns : goal.returns
returns c = λ p q e f len_p len_q fits_e fits_f text. one_reading p q e f len_p len_q fits_e fits_f text
