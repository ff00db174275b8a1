use Rattle.std.proofs.Common.{refl}
use Rattle.std.specs.Prelude.{length}
use Rattle.containers.proofs.Rest.{is_from, item_read, item_refused}
use Rattle.containers.proofs.laws.rests_are_read_by_items.Goals as goal

pub returns : goal.returns
returns g c = record {
  read = item_read;
  refused = λ reads n last text before bytes rest c stands read. item_refused reads n (length before) last text before bytes rest c stands refl read;
  behind = is_from;
}
