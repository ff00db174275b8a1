use Rattle.std.proofs.Common.{◌≡◌, not, List, map, sym, subst}
use Rattle.std.proofs.lemmas.List.Kept.{IsStrictlySortedBy-filter}
use Rattle.authenticators.specs.declared.authenticator.Authenticator.{Authenticator}
use Rattle.authenticators.specs.declared.clash.Clash.{Clash}
use Rattle.authenticators.specs.StatementSet.{by_fields, IsAscending}
use Rattle.authenticators.specs.within.Joins.{is_held}
use Rattle.authenticators.specs.within.Noted.{AreNoted, point_of}
use Rattle.authenticators.proofs.ClashNotes.{clashes_more, point_there}
use Rattle.authenticators.proofs.StatementJoins.{union_new}
use Rattle.authenticators.proofs.joining.insert_all.Goals as goal

pub insert_new-requires-clause-statements : goal.insert_new-requires-clause-statements
insert_new-requires-clause-statements c =
    subst IsAscending (sym c.drop_held.ensures) (IsStrictlySortedBy-filter by_fields (λ (x : Authenticator). not (is_held c.deref.result.now x)) c.sort.new.statements.items c.sort.ensures.ascending)

pub returns-clause-added : goal.returns-clause-added
returns-clause-added c =
    union_new c.args.held.now.items c.args.statements.items c.sort.new.statements.items c.drop_held.new.statements.items c.insert_new.new.held.items c.sort.ensures.same
    (rw c.deref.ensures.value at c.drop_held.ensures) c.in_ok-insert_new.ensures.added

pub returns-clause-clashes : goal.returns-clause-clashes
returns-clause-clashes c =
    let new = c.drop_held.new.statements.items in
    let points = c.in_ok-points.points.items in
    let old = c.args.clashes.now.items in
    let kept = c.note_each.new.clashes.items in
    let all = c.insert_new.new.held.items in
    let are : points ≡ map point_of new = subst (λ (l : List Authenticator). points ≡ map point_of l) c.deref-2.ensures.value c.in_ok-points.ensures in
    let noted : AreNoted all points old kept = subst (λ (l : List Authenticator). AreNoted l points old kept) c.deref-3.ensures.value
    (subst (λ (l : List Clash). AreNoted c.deref-3.result.now l old kept) c.deref-4.ensures.value
    (subst (λ (l : List Clash). AreNoted c.deref-3.result.now c.deref-4.result.now l kept) c.reserve.ensures.items c.note_each.ensures)) in
    clashes_more c.args.held.now.items new all c.in_ok-insert_new.ensures.added points old kept c.requires.clashes (point_there new points are) noted
