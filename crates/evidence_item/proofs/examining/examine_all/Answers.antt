use Rattle.std.proofs.Common.{◌≡◌, ◌+◌, ◌<◌, ◌≤◌, ap, arith, drop, length, map, subst, sym}
use Rattle.std.specs.List.{flat_map}
use Rattle.authenticators.specs.Statement.{is_claim_signed}
use Rattle.item_forms.specs.Pieces.{Piece}
use Rattle.evidence_item.specs.declared.examining.Examined.{Examined}
use Rattle.evidence_item.specs.within.Stating.{claims_in}
use Rattle.evidence_item.proofs.Examinations.{IsSettled, beside_all, beside_more, known_next, next_answers}
use Rattle.evidence_item.proofs.examining.examine_all.Goals as goal

pub slice_bounds-conclude_stage-end : goal.slice_bounds-conclude_stage-end
slice_bounds-conclude_stage-end c =
    let below : c.loop-k.k < length c.in_ok-stages.stages.items = omega (arith, c.loop-k-test.true, c.len-k-end.ensures, c.deref.ensures.len, ap length c.deref.ensures.value) in
    let next = next_answers c.args.directory.now c.in_ok-stages.stages.items c.loop-k.k c.loop-k.at c.in_ok-answers.answers.items c.index.result.now c.loop-k.invariant.0 below (sym c.index.ensures) c.loop-k.invariant.1 in
    let within : c.loop-k.at + c.count_in.result ≤ length c.in_ok-answers.answers.items = omega (arith, next.within, c.count_in.ensures) in
    let read : length c.deref-in-loop-k.result.now ≡ length c.in_ok-answers.answers.items = ap length c.deref-in-loop-k.ensures.value in
    omega (arith, within, read)

pub loop-k-preserved : goal.loop-k-preserved
loop-k-preserved c =
    let ds = c.args.directory.now in
    let stages = c.in_ok-stages.stages.items in
    let answers = c.in_ok-answers.answers.items in
    let k = c.loop-k.k in
    let at = c.loop-k.at in
    let below : k < length stages = omega (arith, c.loop-k-test.true, c.len-k-end.ensures, c.deref.ensures.len, ap length c.deref.ensures.value) in
    let next = next_answers ds stages k at answers c.index.result.now c.loop-k.invariant.0 below (sym c.index.ensures) c.loop-k.invariant.1 in (
      omega (arith, next.within, c.count_in.ensures),
      subst (λ n. drop (at + n) answers ≡ map (is_claim_signed ds) (flat_map claims_in (drop (k + 1) stages))) (sym c.count_in.ensures) next.left,
      beside_more (λ (x : Piece) (e : Examined). IsSettled ds x e) c.args.items.now c.loop-k.all.items c.push.new.self.items k _ c.loop-k.invariant.2
          (known_next ds c.args.items.now stages k at c.count_in.result answers c.deref-in-loop-k.result.now c.index.result.now c.index-in-loop-k.result.now c.conclude_stage-answer.result c.in_ok-stages.ensures
          c.loop-k.invariant.0 below c.index.ensures c.index-in-loop-k.ensures c.loop-k.invariant.1 c.count_in.ensures c.deref-in-loop-k.ensures.value c.conclude_stage-answer.ensures)
          c.in_ok-push.ensures.items,
    )

pub returns : goal.returns
returns c =
    let long : c.len-k-end.result ≡ length c.args.items.now = omega (arith, c.len-k-end.ensures, c.in_ok-stages.ensures.count) in
    let all = beside_all (λ (x : Piece) (e : Examined). IsSettled c.args.directory.now x e) c.args.items.now c.loop-k.all.items c.loop-k.k (omega (arith, long, c.loop-k-test.false)) (omega (arith, long, c.loop-k.auto.k-end)) c.loop-k.invariant.2 in
    record { count = all.count; each = λ n x e below. (all.each n x e below).0; others = λ n x e below. (all.each n x e below).1 }
