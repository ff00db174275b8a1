use Rattle.parallel_checking.proofs.Placing.{finish}
use Rattle.parallel_checking.proofs.again.check_again.Goals as goal

pub returns-clause-again : goal.returns-clause-again
returns-clause-again g c =
    finish _ _ _ _ _ _ _ _ _ _ _ c.deref.ensures.value c.in-Ok.ensures c.deref-2.ensures.value c.in-Ok-check_places.ensures c.write_all.ensures c.deref-3.ensures.value c.how_many.ensures
