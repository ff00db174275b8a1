use Rattle.std.proofs.lemmas.Result.{err_from_is_err_and}
use Rattle.containers.specs.CheckedItems.{checked_of}
use Rattle.containers.specs.Stages.{go_on}
use Rattle.containers.specs.within.Seen.{seen}
use Rattle.containers.proofs.Headers.{past_header, past_header_held}
use Rattle.containers.proofs.Parting.{none_parted}
use Rattle.containers.proofs.progress.Progress.feed.Goals as goal

pub returns-in_err-body-clause-of_items : goal.returns-in_err-body-clause-of_items
returns-in_err-body-clause-of_items g c =
    let p = err_from_is_err_and c.from_residual.result c.from_residual.ensures.1 in
    rw (p.1, p.2) c.in_err-body.ensures.of_items

pub returns-in_err-body-clause-header : goal.returns-in_err-body-clause-header
returns-in_err-body-clause-header g c = λ left.
    let old = c.args.self.now in
    let p = err_from_is_err_and c.from_residual.result c.from_residual.ensures.1 in
    rw (p.1, p.2) (λ memory. past_header (go_on c.args.magic.now (checked_of c.args.directory.now) (seen old) c.args.piece.now)
    (c.in_err-body.ensures.memory (none_parted old.left old.front.items old.body.items left c.requires.stands.parted) memory))

pub returns-in-Err-clause-header : goal.returns-in-Err-clause-header
returns-in-Err-clause-header g c = λ left memory.
    let read = c.read.new.self in
    past_header_held (go_on c.args.magic.now (checked_of c.args.directory.now) (seen c.args.self.now) c.args.piece.now) (seen read) read.front.items read.body.items c.in_ok-body.body.now c.in_ok-body.ensures.ends.same c.in_ok-body.ensures.ends.stands.parted c.in-Err.ensures.some
