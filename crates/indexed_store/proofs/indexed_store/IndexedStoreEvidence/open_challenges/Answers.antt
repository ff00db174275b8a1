use Rattle.std.proofs.Common.{map, subst}
use Rattle.std.specs.Prelude.{◌↔◌}
use Rattle.std.specs.List.{Contains}
use Rattle.authenticators.specs.Directory.{Listing}
use Rattle.item_forms.specs.Pieces.{Piece}
use Rattle.evidence_set.specs.Indications.{IsUnanswered}
use Rattle.evidence_set.specs.ItemSets.{Has, Items}
use Rattle.evidence.specs.Contents.{Contents}
use Rattle.indexed_store.proofs.indexed_store.IndexedStoreEvidence.open_challenges.Goals as goal

pub returns-clause-members : goal.returns-clause-members
returns-clause-members g c =
    let AreOpenIn : Listing → Items → Type 0 = λ ds E. (x : Piece) → Contains (map (λ i. i.now) c.in_ok-found.found.items) x ↔ (Has E x × IsUnanswered ds E c.args.node x.fields) in
    subst (λ (s : Contents). AreOpenIn s.directory s.items) c.self.view_is c.in_ok-found.ensures.members
