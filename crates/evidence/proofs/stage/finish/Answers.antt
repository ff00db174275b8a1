use Rattle.std.proofs.Common.{◌≡◌, List, ℕ, Ok, ap, subst, ◌∙◌}
use Rattle.std.specs.List.Sorted.{IsStrictlySortedBy}
use Rattle.containers.specs.Feeding.{AreItems, import_fed}
use Rattle.item_forms.specs.Pieces.{by_bytes}
use Rattle.evidence.specs.Exports.{magic_of, set_text}
use Rattle.evidence_set.specs.ItemSets.{pieces, set_of}
use Rattle.evidence.specs.Importing.{imported_under}
use Rattle.evidence.specs.within.Stages.{IsStage, fed_of}
use Rattle.evidence.proofs.Importing.{ok_more, read_text, short_import}
use Rattle.evidence.proofs.stage.finish.Goals as goal

pub returns-in-Head-clause-fault : goal.returns-in-Head-clause-fault
returns-in-Head-clause-fault g c = λ ds is.
    ap (imported_under ds) (ap fed_of c.in-Head.is) ∙ short_import ds c.in-Head.field-0.items (subst (IsStage ds g.P.Program.means) c.in-Head.is is)

pub returns-in-Items-clause-ascending : goal.returns-in-Items-clause-ascending
returns-in-Items-clause-ascending g c = λ ds is.
    let r = c.in-Items.reading in
    let p = subst (IsStage ds g.P.Program.means) c.in-Items.is is in
    ok_more c.finish.result (λ items. AreItems ds g.P.Program.means (import_fed ds r) items.items) (λ items. IsStrictlySortedBy by_bytes (pieces items.items))
    (λ items are. (read_text ds g.P.Program.means r p.1 p.2 c.sets_have_one_text.ensures p.0 items.items are).2.ascending) (c.finish.ensures.items ds p.0)

pub returns-in-Items-clause-text : goal.returns-in-Items-clause-text
returns-in-Items-clause-text g c = λ ds is.
    let r = c.in-Items.reading in
    let p = subst (IsStage ds g.P.Program.means) c.in-Items.is is in
    ok_more c.finish.result (λ items. AreItems ds g.P.Program.means (import_fed ds r) items.items) (λ items. (text : List ℕ) × (fed_of c.args.stage ≡ Ok text) × (text ≡ set_text (magic_of text) (set_of items.items)))
    (λ items are. let t = read_text ds g.P.Program.means r p.1 p.2 c.sets_have_one_text.ensures p.0 items.items are in (t.0, ap fed_of c.in-Items.is ∙ t.1, t.2.text)) (c.finish.ensures.items ds p.0)
