use Rattle.std.proofs.Common.{rules, ◌≡◌, ◌+◌, ◌∙◌, ◌++◌, ap, subst, ℕ, Bool, List, length}
use Rattle.std.proofs.lemmas.Result.{err_from_is_err_and}
use Rattle.authenticators.specs.Directory.{Listing}
use Rattle.item_forms.specs.Pieces.{Piece}
use Rattle.evidence_set.specs.ItemSets.{insert_all}
use Rattle.evidence.specs.Contents.{with_items}
use Rattle.journal.specs.Journal.{recovered}
use Rattle.durable_store.specs.Keeping.{spellings}
use Rattle.durable_store.specs.within.Findings.{AreReached, IsBad}
use Rattle.durable_store.proofs.Filled.{bad_is_shown, filled, goes_on}
use Rattle.durable_store.proofs.opening.read_items.Goals as goal

pub returns-in_err-take_items-clause-shown : goal.returns-in_err-take_items-clause-shown
returns-in_err-take_items-clause-shown g c =
    let p = err_from_is_err_and c.from_residual-in_err-take_items.result c.from_residual-in_err-take_items.ensures.1 in
    rw (p.1, p.2)
    (λ basis.
    let ds = (g.S.Evidence.contents c.args.store.now).directory in
    let on = c.in_ok-batch.ensures.on in
    let bad = subst (λ (l : List Piece). IsBad (g.S.Evidence.contents c.batches.store).directory l c.batches.before c.in_err-take_items.field-0.0) c.deref.ensures.value c.in_err-take_items.ensures.bad in
    let own = subst (λ (d : Listing). IsBad d c.in_ok-batch.batch.items.items c.batches.before c.in_err-take_items.field-0.0) c.batches.invariant.directory bad in
    bad_is_shown g.D.Device.found g.D.Device.seen g.D.Device.may_leave c.items_have_one_text.ensures ds basis c.in_ok-batch.batch.is_last (recovered (g.D.Device.found c.batches.reading.device)) c.in_ok-batch.batch.items.items
    c.next_items.new.reading c.batches.before c.in_err-take_items.field-0.0 on c.batches.invariant.behind_basis c.batches.invariant.count_is own)

pub returns-then-batch-clause-whole : goal.returns-then-batch-clause-whole
returns-then-batch-clause-whole g c =
    let on = subst (λ (b : Bool). AreReached g.D.Device.found g.D.Device.seen g.D.Device.may_leave b (recovered (g.D.Device.found c.batches.reading.device) ++ spellings c.in_ok-batch.batch.items.items) c.next_items.new.reading) c.if-batch.true c.in_ok-batch.ensures.on in
    let before = g.S.Evidence.contents c.batches.store in
    let taken = c.in_ok-take_items.ensures.taken ∙ ap (λ (l : List Piece). with_items before (insert_all before.items l)) c.deref.ensures.value in
    (on.0, filled _ _ _ before (g.S.Evidence.contents c.take_items.new.store) c.in_ok-batch.batch.items.items c.batches.invariant.just on.1 taken)

pub batches-preserved : goal.batches-preserved
batches-preserved g c =
    let before = g.S.Evidence.contents c.batches.store in
    let taken = c.in_ok-take_items.ensures.taken ∙ ap (λ (l : List Piece). with_items before (insert_all before.items l)) c.deref.ensures.value in
    let counted : c.len.result ≡ length c.in_ok-batch.batch.items.items = search rules in
    goes_on g.D.Device.found g.D.Device.seen g.D.Device.may_leave c.args.reading.now c.batches.reading c.next_items.new.reading (g.S.Evidence.contents c.args.store.now) before (g.S.Evidence.contents c.take_items.new.store)
    c.in_ok-batch.batch.items.items c.in_ok-batch.batch.is_last c.batches.before (c.batches.before + c.len.result) c.if-batch.false c.in_ok-batch.ensures.on taken (ap (λ (n : ℕ). c.batches.before + n) counted) c.batches.invariant
