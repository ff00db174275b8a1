-- What was decoded, and what is left to decode, are the image's instructions.
use Rattle.std.proofs.Common.{◌≡◌, ◌++◌, length}
use Rattle.riscv.specs.Decoding.{instructions_of}
use Rattle.riscv.proofs.decoding.decode_image.Given as goal

abbrev pub invariant-loop-rest : goal.invariant-loop-rest
invariant-loop-rest l = l.code.items ++ instructions_of l.rest ≡ instructions_of l.image

abbrev pub decreases-loop-rest : goal.decreases-loop-rest
decreases-loop-rest l = length l.rest
