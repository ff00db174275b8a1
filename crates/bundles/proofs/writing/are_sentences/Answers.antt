use Rattle.bundles.proofs.FrontSentences.{tested}
use Rattle.bundles.proofs.writing.are_sentences.Goals as goal

pub returns : goal.returns
returns c = tested c.args.text.now c.sentences_of.result.0.now c.sentences_of.result.1.now c.sentences_of.result.2 c.is_empty.result c.sentences_of.ensures.whole c.sentences_of.ensures.sentences c.is_empty.ensures
