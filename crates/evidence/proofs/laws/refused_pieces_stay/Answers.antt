use Rattle.evidence.proofs.Importing.{refused_stay}
use Rattle.evidence.proofs.laws.refused_pieces_stay.Goals as goal

pub returns : goal.returns
returns c = refused_stay
