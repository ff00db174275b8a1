use Rattle.std.proofs.Common.{◌≡◌, ℕ, [], ◌<◌, slice_index_or}
use Rattle.sha2.specs.Sha256.{hash_after}
use Rattle.sha256_lanes.specs.Lanes.{lane}
use Rattle.sha256_lanes.proofs.texts.after_blocks.Given as goal

abbrev pub invariant-absorbed : goal.invariant-absorbed
invariant-absorbed g l = (j : ℕ) → j < 8 → lane j l.now ≡ hash_after (lane j l.fn.state) (slice_index_or l.fn.texts j []) l.k
