use Rattle.std.proofs.Common.{◌≡◌, List, ℕ, Ok, ap, sym, subst, ◌∙◌}
use Rattle.std.specs.List.{All}
use Rattle.authenticators.specs.Directory.{Listing}
use Rattle.evidence_item.specs.Checking.{IsChecked}
use Rattle.evidence.specs.Contents.{with_items}
use Rattle.evidence.specs.Importing.{Importing}
use Rattle.evidence.specs.Exports.{magic_of, set_text}
use Rattle.evidence_set.specs.ItemSets.{Items, Join, set_of}
use Rattle.evidence.proofs.Importing.{on_more}
use Rattle.evidence.proofs.importer.Importer.finish.Goals as goal

pub add_all-requires-clause-checked : goal.add_all-requires-clause-checked
add_all-requires-clause-checked g c =
    let i = c.self.inside in
    let same = ap (λ (v : Importing). v.directory) c.self.view_is ∙ sym c.requires in
    subst (λ (ds : Listing). All (IsChecked ds g.P.Program.means) c.in_ok-items.items.items) same (c.in_ok-items.ensures.checked i.directory c.self.invariant)

pub add_all-requires-clause-ascending : goal.add_all-requires-clause-ascending
add_all-requires-clause-ascending g c = c.in_ok-items.ensures.ascending c.self.inside.directory c.self.invariant

pub returns-clause-joined : goal.returns-clause-joined
returns-clause-joined g c =
    let old = g.S.Evidence.contents c.args.store.now in
    let new = g.S.Evidence.contents c.add_all.new.store in
    let t = c.in_ok-items.ensures.text c.self.inside.directory c.self.invariant in
    on_more c.add_all.result (new ≡ with_items old (Join old.items (set_of c.in_ok-items.items.items)))
    ((text : List ℕ) × (added : Items) × (c.args.self.fed ≡ Ok text) × (text ≡ set_text (magic_of text) added) × (new ≡ with_items old (Join old.items added)))
    (λ joined. (t.0, set_of c.in_ok-items.items.items, sym (ap (λ (v : Importing). v.fed) c.self.view_is) ∙ t.1, t.2, joined)) c.add_all.ensures.joined
