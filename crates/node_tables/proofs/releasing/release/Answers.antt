use Rattle.std.proofs.Common.{refl}
use Rattle.node_tables.specs.within.Promising.{nothing, one_for}
use Rattle.node_tables.proofs.Reserved.{none_back, one_back, one_elsewhere, one_here}
use Rattle.node_tables.proofs.releasing.release.Goals as goal

pub returns-in_default : goal.returns-in_default
returns-in_default c = let j = c.args.node in none_back (one_for j) nothing 1 0 c.args.tables.now j (one_here j) refl (λ i other. (one_elsewhere j i other, refl)) c.in_default.ensures.none

pub returns-in-Some : goal.returns-in-Some
returns-in-Some c =
    let j = c.args.node in
    one_back (one_for j) nothing 1 0 c.args.tables.now j (one_here j) refl (λ i other. (one_elsewhere j i other, refl)) c.requires c.in-Some.i c.index-tables-i.result c.release_here.new.table c.in-Some.ensures.some c.release_here.ensures
