use Rattle.std.proofs.Common.{◌≡◌, ◌+◌, ◌++◌, ◌∷◌, [], List, take, refl, sym, ap, subst, ◌∙◌, arith}
use Rattle.std.proofs.lemmas.List.{take_all, take_more}
use Rattle.std.proofs.lemmas.List.Elements.{Contains-push_cases}
use Rattle.authenticators.specs.declared.clash.Clash.{Clash}
use Rattle.authenticators.specs.within.Noted.{AreNoted}
use Rattle.authenticators.proofs.ClashNotes.{none_noted, one_more}
use Rattle.authenticators.proofs.noting.note_each.Goals as goal

pub loop-point-init : goal.loop-point-init
loop-point-init c = record {
  noted = none_noted c.args.held.now c.args.clashes.now.items c.requires.ascending;
  len = omega arith;
  capacity = refl;
}

pub note-requires-clause-ascending : goal.note-requires-clause-ascending
note-requires-clause-ascending c = c.loop-point.invariant.noted.ascending

pub note-requires-clause-room : goal.note-requires-clause-room
note-requires-clause-room c = omega (arith, c.requires.room, c.loop-point.invariant.len, c.loop-point.invariant.capacity, c.loop-point-test.true)

pub loop-point-preserved : goal.loop-point-preserved
loop-point-preserved c =
    let before = c.loop-point.invariant in
    let points = c.args.points.now in
    let k = c.loop-point.point-index in
    let q = c.point-item.result in
    let longer : take (k + 1) points ≡ take k points ++ q ∷ [] = take_more points k q c.loop-point-test.true ∙ ap (λ (y : Clash). take k points ++ y ∷ []) (sym c.point-item.is) in
    record {
      noted = subst (λ (l : List Clash). AreNoted c.args.held.now l c.args.clashes.now.items c.note.new.clashes.items) (sym longer)
          (one_more c.args.held.now (take k points) c.args.clashes.now.items c.loop-point.clashes.items c.note.new.clashes.items q before.noted c.note.ensures.noted (λ p has. Contains-push_cases (take k points) q p has));
      len = omega (arith, before.len, c.note.ensures.len);
      capacity = c.note.ensures.capacity ∙ before.capacity;
    }

pub returns : goal.returns
returns c =
    let whole : take c.loop-point.point-index c.args.points.now ≡ c.args.points.now = take_all c.loop-point.point-index c.args.points.now c.loop-point-test.false in
    subst (λ (l : List Clash). AreNoted c.args.held.now l c.args.clashes.now.items c.loop-point.clashes.items) whole c.loop-point.invariant.noted
