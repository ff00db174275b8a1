-- Blocks of items that are checked together.
use Rattle.std.specs.Prelude.{◌≡◌, ◌<◌, ℕ, List, Result, IfOk, length, slice_index_or}
use Rattle.authenticators.specs.Directory.{Listing}
use Rattle.replay_verifier.specs.Meaning.{Meaning}
use Rattle.item_forms.specs.Pieces.{Piece}
use Rattle.evidence_item.specs.declared.fault.ItemFault.{ItemFault}
use Rattle.evidence_item.specs.Checking.{Checked}
use Rattle.parallel_checking.specs.declared.blocks.Block.{Block}
use Rattle.parallel_checking.specs.Checks.{AreAnswers}
use Rattle.parallel_checking.specs.Parts.{Part}

-- The answers to a block's items, unless memory ran out.
abbrev pub IsBlockAnsweredAt : {S : Type 0} → Listing → Meaning S → List Block → ℕ → Part (Result Checked ItemFault) → Type 0
IsBlockAnsweredAt ds program blocks n part = (b : Block) → IfOk part (λ v. AreAnswers ds program (slice_index_or blocks n b).items.now v.items)

-- There is a part for each block, at its place.
pub record AreBlocksAnswered {S : Type 0} (ds : Listing) (program : Meaning S) (blocks : List Block) (parts : List (Part (Result Checked ItemFault))) : Type 0 where
  pub count : length parts ≡ length blocks
  pub each : (n : ℕ) (p : Part (Result Checked ItemFault)) → n < length blocks → IsBlockAnsweredAt ds program blocks n (slice_index_or parts n p)
