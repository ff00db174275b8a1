use Rattle.further_keys.proofs.Kept.{further_keys_keep_verdicts}
use Rattle.further_keys.proofs.laws.further_keys_keep_verdicts.Goals as goal

pub returns : goal.returns
returns g c = further_keys_keep_verdicts c.the_test_is_genuine.ensures c.conforming_lists_rise.ensures c.conforming_lists_begin.ensures c.conforming_lists_are_proper.ensures c.prefixes_conform.ensures
