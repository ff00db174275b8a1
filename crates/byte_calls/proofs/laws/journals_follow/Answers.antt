use Rattle.byte_calls.proofs.Following.{journals_follow}
use Rattle.byte_calls.proofs.laws.journals_follow.Goals as goal

pub returns : goal.returns
returns g c = journals_follow c.journals_rebuild.ensures c.items_are_read_as_spelled.ensures c.answers_are_receipts.ensures c.the_test_is_signed.ensures c.valid_items_have_no_fault.ensures
