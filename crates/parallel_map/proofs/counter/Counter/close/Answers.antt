use Rattle.parallel_map.proofs.Steps.{closes}
use Rattle.parallel_map.proofs.counter.Counter.close.Goals as goal

pub returns-clause-once : goal.returns-clause-once
returns-clause-once c = closes _ _ _ _ _ c.close_with-closed.ensures.values.2 _ c.word-word.ensures c.requires.parts
