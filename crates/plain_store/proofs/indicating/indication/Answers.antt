use Rattle.plain_store.proofs.indicating.indication.Goals as goal

pub returns-then-is_suspected : goal.returns-then-is_suspected
returns-then-is_suspected g c = (
  λ exposed. let told = c.is_exposed.ensures.1 exposed in absurd (cc (told, c.if-is_exposed.false)),
  c.is_suspected.ensures.0 c.if-is_suspected.true,
)
