use Rattle.std.proofs.Common.{ℕ, List, ap}
use Rattle.operating.specs.declared.asking.Ending.{Ending}
use Rattle.operating.specs.declared.asking.Ending.TheVariants as ending
use Rattle.operating.proofs.show.shown_text.Goals as goal

pub returns : goal.returns
returns c = (c.in_ok-shown.shown, c.in_ok-shown.ensures, ap (λ (t : List ℕ). let answer : List ℕ × Ending = (t, ending.Done) in answer) c.in_ok-written.ensures)
