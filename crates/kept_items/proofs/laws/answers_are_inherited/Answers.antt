use Rattle.kept_items.proofs.Linked.{answers_are_inherited}
use Rattle.kept_items.proofs.laws.answers_are_inherited.Goals as goal

pub returns : goal.returns
returns c = answers_are_inherited
