use Rattle.std.proofs.Common.{◌≡◌, ℕ, ◌+◌, ◌*◌, ◌<◌, length, []}
use Rattle.std.specs.Prelude.{slice_index_or}
use Rattle.lms_sign.specs.MerkleTree.{leaf_hash}
use Rattle.lms_sign.specs.Signing.{one_time_key}
use Rattle.lms_sign.proofs.making.hash_some_leaves.Given as goal

abbrev pub invariant-loop-j : goal.invariant-loop-j
invariant-loop-j l = record {
  len : length l.nodes ≡ 2 * l.leaves;
  before : (r : ℕ) → r < l.leaves + l.q → slice_index_or l.nodes r [] ≡ slice_index_or l.initial.nodes r [];
  each : (j : ℕ) → j < l.j → slice_index_or l.nodes (l.leaves + (l.q + j)) [] ≡ leaf_hash l.keys.id (l.leaves + (l.q + j)) (one_time_key l.keys.ots_type l.keys.id l.keys.seed (l.q + j));
}
