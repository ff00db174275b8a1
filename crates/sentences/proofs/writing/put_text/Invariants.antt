use Rattle.std.proofs.Common.{◌≡◌, ◌++◌, take}
use Rattle.sentences.specs.Texts.{in_one_line}
use Rattle.sentences.proofs.writing.put_text.Given as goal

abbrev pub invariant-loop-byte : goal.invariant-loop-byte
invariant-loop-byte l = l.text.items ≡ l.initial.text.items ++ in_one_line (take l.byte-index l.bytes)
