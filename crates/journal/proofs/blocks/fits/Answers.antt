use Rattle.std.proofs.Common.{◌≡◌, suc, ◌+◌, take, sym, ap, arith}
use Rattle.std.proofs.lemmas.Bool.{lt-leb}
use Rattle.journal.specs.Journal.{size_of, texts_of}
use Rattle.journal.specs.declared.blocks.TheConstants.{MOST_GROUP}
use Rattle.journal.proofs.Sizes.{size_within, size_next}
use Rattle.journal.proofs.blocks.fits.Goals as goal
use Rattle.journal.proofs.blocks.fits.Goals.{then-room-lt-HEAD-via-then-room-lt-HEAD, then-room-lt-HEAD-via-else-room-lt-HEAD+then-room-len}

pub returns-then-room-lt-HEAD : goal.returns-then-room-lt-HEAD
returns-then-room-lt-HEAD c =
    let within = size_within c.args.texts.now c.loop-text.text-index c.text-item.result c.loop-text-test.true c.text-item.is in
    let so_far = c.loop-text.invariant in
    sym (lt-leb (size_of (texts_of c.args.texts.now)) MOST_GROUP (elim c.then-room-lt-HEAD.branch [
      | then-room-lt-HEAD-via-then-room-lt-HEAD w ↦ let few = w.if-room-lt-HEAD in omega (arith, within, so_far, few)
      | then-room-lt-HEAD-via-else-room-lt-HEAD+then-room-len w ↦ let few = w.if-room-len in let len = w.len.ensures in omega (arith, within, so_far, few, len)
    ]))

pub loop-text-preserved : goal.loop-text-preserved
loop-text-preserved c =
    let i = c.loop-text.text-index in
    let next = size_next c.args.texts.now i c.text-item.result c.loop-text-test.true c.text-item.is in
    let so_far = c.loop-text.invariant in
    let same : i + 1 ≡ suc i = omega arith in
    let len = c.len.ensures in
    let again = c.len-in-loop-text.ensures in
    let head = c.if-room-lt-HEAD.false in
    let text = c.if-room-len.false in
    let grown = ap (λ n. size_of (texts_of (take n c.args.texts.now))) same in
    omega (arith, next, so_far, len, again, head, text, grown)
