use Rattle.localities.proofs.Knowing.{as_expected}
use Rattle.localities.proofs.laws.known_as_expected.Goals as goal

pub returns : goal.returns
returns c =
    as_expected c.concerns_as_expected.ensures c.sets_are_lists.ensures c.the_test_is_of_answers.ensures c.keys_sign.ensures c.held_statements_are_signed.ensures
    c.valid_items_are_signed.ensures
