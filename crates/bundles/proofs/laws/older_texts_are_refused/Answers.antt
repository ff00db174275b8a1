use Rattle.std.proofs.Common.{◌++◌}
use Rattle.bundles.specs.declared.fault.BundleFault.TheVariants.{OlderBundle}
use Rattle.bundles.specs.Spelling.{ended, older_line}
use Rattle.bundles.proofs.OlderTexts.{is_older_text, older_refused}
use Rattle.bundles.proofs.SpelledTexts.{refused_is_unspelled}
use Rattle.bundles.proofs.laws.older_texts_are_refused.Goals as goal

pub returns : goal.returns
returns c = record { refused = older_refused; only = is_older_text; unspelled = λ rest. refused_is_unspelled (ended older_line ++ rest) OlderBundle (older_refused rest) }
