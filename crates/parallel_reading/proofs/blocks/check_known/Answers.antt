use Rattle.parallel_reading.proofs.Items.{valid_told}
use Rattle.parallel_reading.proofs.blocks.check_known.Goals as goal
use Rattle.parallel_reading.proofs.blocks.check_known.Goals.{in-None+in_ok-checked-in-None, in-Some+in_ok-checked-in-Some}

pub returns-clause-exact : goal.returns-clause-exact
returns-clause-exact g c =
    elim c.match-examined.branch [
      | in-None+in_ok-checked-in-None w ↦ rw w.checked-is (valid_told c.args.directory.now c.args.item w.in_ok-checked-in-None.checked.item w.in_ok-checked-in-None.ensures.exact)
      | in-Some+in_ok-checked-in-Some w ↦ rw w.checked-is (valid_told c.args.directory.now c.args.item w.in_ok-checked-in-Some.checked.item w.in_ok-checked-in-Some.ensures.exact)
    ]
