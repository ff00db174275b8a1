use Rattle.std.proofs.Common.{◌∙◌, [], ap, ap₂, arith, slice_index_or, ◌/◌}
use Rattle.sha2.specs.Sha256.{hash_after}
use Rattle.sha256_lanes.specs.Lanes.{lane}
use Rattle.sha256_lanes.proofs.Texts256.{digest_by_tail}
use Rattle.sha256_lanes.proofs.texts.eight_digests.Goals as goal

pub returns : goal.returns
returns g c j h =
    let t = slice_index_or c.args.texts.now j [] in
    let tail = slice_index_or c.tails.result j [] in
    let begun = c.after_blocks-whole.ensures j h ∙ ap (λ s. hash_after s t (c.args.len / 64)) (c.initial_hash.ensures j h) in
    let done = c.after_blocks-last.ensures j h ∙ ap₂ (λ s n. hash_after s tail n) begun c.tail_blocks.ensures.value in
    c.digests.ensures j h ∙ digest_by_tail t tail (lane j c.after_blocks-last.result) c.args.len (omega (arith, c.tails.ensures.len j h)) (c.tails.ensures.tails j h) done
