use Rattle.bundles.proofs.ReadTexts.{read_is_spelled}
use Rattle.bundles.proofs.SpelledTexts.{refused_is_unspelled, spelled_is_read}
use Rattle.bundles.proofs.laws.bundles_are_read.Goals as goal

pub returns : goal.returns
returns c = record { only = spelled_is_read; found = read_is_spelled; refused = refused_is_unspelled }
