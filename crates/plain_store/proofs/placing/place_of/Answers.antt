use Rattle.std.proofs.Common.{rules}
use Rattle.evidence_item.specs.Checking.{Checked}
use Rattle.item_forms.specs.Pieces.{by_bytes}
use Rattle.kept_evidence.proofs.Places.{place_from, searched, there_from}
use Rattle.plain_store.proofs.placing.place_of.Goals as goal

pub returns-clause-there : goal.returns-clause-there
returns-clause-there g c =
    let x = c.args.item.now in
    there_from c.args.kept.now x c.binary_search_by.result c.binary_search_by.ensures.bound (searched (λ (k : Checked). by_bytes k.item x) c.args.kept.now c.binary_search_by.result c.binary_search_by.ensures.position (λ a r f k. search rules))

pub returns-clause-place : goal.returns-clause-place
returns-clause-place g c =
    let x = c.args.item.now in
    place_from c.args.kept.now x c.binary_search_by.result c.requires c.binary_search_by.ensures.bound (searched (λ (k : Checked). by_bytes k.item x) c.args.kept.now c.binary_search_by.result c.binary_search_by.ensures.position (λ a r f k. search rules))
