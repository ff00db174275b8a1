use Rattle.std.proofs.Common.{◌≡◌}
use Rattle.evidence.specs.Contents.{with_items}
use Rattle.evidence.specs.Exports.{magic_of, set_text}
use Rattle.evidence_set.specs.ItemSets.{Items, Join, set_of}
use Rattle.evidence.proofs.Importing.{on_more}
use Rattle.evidence.proofs.evidence.Evidence.import.Goals as goal

pub returns-clause-joined : goal.returns-clause-joined
returns-clause-joined g c =
    let old = g.Self.Evidence.contents c.args.self.now in
    let new = g.Self.Evidence.contents c.add_all.new.store in
    on_more c.add_all.result (new ≡ with_items old (Join old.items (set_of c.in_ok-items.items.items))) ((added : Items) × (c.args.bytes.now ≡ set_text (magic_of c.args.bytes.now) added) × (new ≡ with_items old (Join old.items added)))
    (λ joined. (set_of c.in_ok-items.items.items, c.in_ok-items.ensures.text, joined)) c.add_all.ensures.joined
