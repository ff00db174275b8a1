use Rattle.std.proofs.Common.{◌≡◌, ◌*◌, ◌∙◌, [], arith, sym, refl, slice_index_or}
use Rattle.sha2.specs.Sha256.{hash_after}
use Rattle.sha2.proofs.Absorbing256.{hash_after_next}
use Rattle.sha256_lanes.specs.Lanes.{lane}
use Rattle.sha256_lanes.proofs.texts.after_blocks.Goals as goal

pub absorbed-init : goal.absorbed-init
unfolding hash_after
absorbed-init g c j h = refl

pub absorbed-preserved : goal.absorbed-preserved
absorbed-preserved g c j h =
    let k = c.absorbed.k in
    let t = slice_index_or c.args.texts.now j [] in
    let s = lane j c.args.state in
    let place : 64 * k ≡ k * 64 = omega arith in
    let next = c.absorb-after.ensures j _ h (c.block_at.ensures j h) in
    next ∙ rw (c.absorbed.invariant j h, place) (sym (hash_after_next s t k))

pub returns : goal.returns
returns g c j h =
    let done : c.absorbed.k ≡ c.args.count = omega arith in
    rw done at (c.absorbed.invariant j h)
