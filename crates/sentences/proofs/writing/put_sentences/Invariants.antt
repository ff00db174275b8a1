use Rattle.std.proofs.Common.{◌≡◌, ◌++◌, take}
use Rattle.std.specs.List.{flat_map}
use Rattle.sentences.specs.Texts.{sentence_text}
use Rattle.sentences.proofs.writing.put_sentences.Given as goal

abbrev pub invariant-loop-sentence : goal.invariant-loop-sentence
invariant-loop-sentence l = l.text.items ≡ l.initial.text.items ++ flat_map sentence_text (take l.sentence-index l.sentences)
