use Rattle.std.proofs.Common.{◌≡◌, true, false, [], ◌∷◌, List, refl, sym, ap, subst, ◌∙◌}
use Rattle.std.proofs.lemmas.Result.{err_from_is_err_and}
use Rattle.authenticators.specs.declared.authenticator.Authenticator.{Authenticator}
use Rattle.authenticators.specs.declared.clash.Clash.{Clash}
use Rattle.authenticators.specs.within.Joins.{is_held}
use Rattle.authenticators.specs.within.Noted.{AreNoted}
use Rattle.authenticators.proofs.ClashNotes.{clashes_more, point_there, union_one}
use Rattle.authenticators.proofs.Insertions.{held_before, refused_back}
use Rattle.authenticators.proofs.StatementJoins.{held_there, there_held}
use Rattle.authenticators.proofs.joining.insert_one.Goals as goal
use Rattle.authenticators.proofs.joining.insert_one.Goals.{After-is_held}

same : (c : After-is_held) → c.is_held.result ≡ is_held c.args.held.now.items c.args.authenticator
same c = subst (λ (l : List Authenticator). c.is_held.result ≡ is_held l c.args.authenticator) c.deref.ensures.value c.is_held.ensures

pub returns-then-is_held-clause-inserted : goal.returns-then-is_held-clause-inserted
returns-then-is_held-clause-inserted c =
    let held = c.args.held.now.items in
    let yes : is_held held c.args.authenticator ≡ true = sym (same (goal.at.returns-then-is_held-clause-inserted c).After-is_held) ∙ c.if-is_held.true in
    held_before held c.args.authenticator c.requires.ascending (held_there held c.args.authenticator yes)

pub returns-then-is_err-clause-inserted : goal.returns-then-is_err-clause-inserted
returns-then-is_err-clause-inserted c =
    let held = c.args.held.now.items in
    let no : is_held held c.args.authenticator ≡ false = sym (same (goal.at.returns-then-is_err-clause-inserted c).After-is_held) ∙ c.if-is_held.false in
    refused_back held held c.args.authenticator _ c.requires.ascending (λ has. let yes = there_held held c.args.authenticator has in cc (yes, no)) refl refl

pub returns-in_err-new-clause-inserted : goal.returns-in_err-new-clause-inserted
returns-in_err-new-clause-inserted c =
    let p = err_from_is_err_and c.from_residual.result c.from_residual.ensures.1 in
    rw (p.1, p.2) c.in_err-new.ensures.inserted

pub returns-clause-inserted : goal.returns-clause-inserted
returns-clause-inserted c = c.in_ok-new.ensures.inserted

pub returns-clause-clashes : goal.returns-clause-clashes
returns-clause-clashes c =
    let held = c.args.held.now.items in
    let one = c.args.authenticator ∷ [] in
    let all = c.insert.new.held.items in
    let points = c.point_of-point.result ∷ [] in
    let kept = c.note_each.new.clashes.items in
    let noted = subst (λ (l : List Authenticator). AreNoted l points c.args.clashes.now.items kept) c.deref-2.ensures.value
    (subst (λ (l : List Clash). AreNoted c.deref-2.result.now points l kept) c.reserve.ensures.items c.note_each.ensures) in
    clashes_more held one all (union_one held c.args.authenticator all c.in_ok-new.ensures.inserted.added) points c.args.clashes.now.items kept c.requires.clashes (point_there one points (ap (λ (p : Clash). p ∷ []) c.point_of-point.ensures)) noted
