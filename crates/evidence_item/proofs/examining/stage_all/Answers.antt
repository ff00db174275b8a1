use Rattle.std.proofs.Common.{subst}
use Rattle.std.proofs.lemmas.List.{get_or_read}
use Rattle.item_forms.specs.Pieces.{Piece}
use Rattle.evidence_item.specs.within.Stating.{IsStage, Stage}
use Rattle.evidence_item.proofs.Examinations.{beside_all, beside_more}
use Rattle.evidence_item.proofs.examining.stage_all.Goals as goal

pub loop-k-preserved : goal.loop-k-preserved
loop-k-preserved c =
    let ds = c.args.directory.now in
    beside_more (λ (x : Piece) (s : Stage). IsStage ds x.fields s) c.args.items.now c.loop-k.stages.items c.push.new.self.items c.loop-k.k c.stage.result c.loop-k.invariant
    (λ d. subst (λ (x : Piece). IsStage ds x.fields c.stage.result) (get_or_read c.args.items.now c.loop-k.k c.index-items-k.result c.loop-k-test.true c.index-items-k.is d) c.stage.ensures)
    c.in_ok-push.ensures.items

pub returns : goal.returns
returns c =
    let all = beside_all (λ (x : Piece) (s : Stage). IsStage c.args.directory.now x.fields s) c.args.items.now c.loop-k.stages.items c.loop-k.k c.loop-k-test.false c.loop-k.auto.k-end c.loop-k.invariant in
    record { count = all.count; each = all.each }
