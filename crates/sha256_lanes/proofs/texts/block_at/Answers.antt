use Rattle.std.proofs.Common.{◌+◌, ◌∙◌, [], arith, refl, slice_index_or}
use Rattle.sha256_lanes.proofs.BlockLemmas.{below_sixteen}
use Rattle.sha256_lanes.proofs.Texts256.{block_word}
use Rattle.sha256_lanes.proofs.texts.block_at.Goals as goal

pub returns : goal.returns
returns g c j h =
    let t = slice_index_or c.args.texts.now j [] in
    let o = c.args.at in (
      refl,
      below_sixteen _
          (c.words_at.ensures j h ∙ block_word t o 0 o (omega arith) (omega arith))
          (c.words_at-2.ensures j h ∙ block_word t o 4 (o + 4) refl (omega arith))
          (c.words_at-3.ensures j h ∙ block_word t o 8 (o + 8) refl (omega arith))
          (c.words_at-4.ensures j h ∙ block_word t o 12 (o + 12) refl (omega arith))
          (c.words_at-5.ensures j h ∙ block_word t o 16 (o + 16) refl (omega arith))
          (c.words_at-6.ensures j h ∙ block_word t o 20 (o + 20) refl (omega arith))
          (c.words_at-7.ensures j h ∙ block_word t o 24 (o + 24) refl (omega arith))
          (c.words_at-8.ensures j h ∙ block_word t o 28 (o + 28) refl (omega arith))
          (c.words_at-9.ensures j h ∙ block_word t o 32 (o + 32) refl (omega arith))
          (c.words_at-10.ensures j h ∙ block_word t o 36 (o + 36) refl (omega arith))
          (c.words_at-11.ensures j h ∙ block_word t o 40 (o + 40) refl (omega arith))
          (c.words_at-12.ensures j h ∙ block_word t o 44 (o + 44) refl (omega arith))
          (c.words_at-13.ensures j h ∙ block_word t o 48 (o + 48) refl (omega arith))
          (c.words_at-14.ensures j h ∙ block_word t o 52 (o + 52) refl (omega arith))
          (c.words_at-15.ensures j h ∙ block_word t o 56 (o + 56) refl (omega arith))
          (c.words_at-16.ensures j h ∙ block_word t o 60 (o + 60) refl (omega arith)),
    )
