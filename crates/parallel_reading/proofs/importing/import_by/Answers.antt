use Rattle.std.proofs.Common.{◌≡◌}
use Rattle.evidence.specs.Contents.{with_items}
use Rattle.evidence.specs.Exports.{magic_of, set_text}
use Rattle.evidence_set.specs.ItemSets.{Items, Join, set_of}
use Rattle.parallel_reading.proofs.ImportedSets.{on_more}
use Rattle.parallel_reading.proofs.importing.import_by.Goals as goal

pub returns-clause-joined : goal.returns-clause-joined
returns-clause-joined g c =
    let old = g.S.Evidence.contents c.args.store.now in
    let new = g.S.Evidence.contents c.add_all.new.store in
    on_more c.add_all.result (new ≡ with_items old (Join old.items (set_of c.in_ok-items.items.items))) ((added : Items) × (c.args.text.now ≡ set_text (magic_of c.args.text.now) added) × (new ≡ with_items old (Join old.items added)))
    (λ joined. (set_of c.in_ok-items.items.items, c.in_ok-items.ensures.text, joined)) c.add_all.ensures.joined
