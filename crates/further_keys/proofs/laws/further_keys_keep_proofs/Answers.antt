use Rattle.further_keys.proofs.Kept.{further_keys_keep_proofs}
use Rattle.further_keys.proofs.laws.further_keys_keep_proofs.Goals as goal

pub returns : goal.returns
returns g c = further_keys_keep_proofs c.the_test_is_genuine.ensures c.conforming_lists_rise.ensures c.conforming_lists_begin.ensures c.conforming_lists_are_proper.ensures c.prefixes_conform.ensures c.deviating_lists_do_not_conform.ensures
