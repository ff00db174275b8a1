use Rattle.std.proofs.Common.{take}
use Rattle.sha2.specs.Hashers.{Holds256}
use Rattle.log_chain.specs.Pieces.{joined}
use Rattle.log_chain.proofs.entry.digest_of_pieces.Given as goal

-- the hasher holds the pieces so far
abbrev pub invariant-loop-piece : goal.invariant-loop-piece
invariant-loop-piece l = Holds256 l.hasher (joined (take l.piece-index l.pieces))
