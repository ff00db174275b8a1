use Rattle.std.proofs.Common.{◌≡◌, None, refl, sym, ◌∙◌}
use Rattle.std.proofs.lemmas.Option.{same_Some}
use Rattle.kept_items.specs.Keeping.{subject}
use Rattle.node_tables.specs.Rooms.{bodies_of}
use Rattle.node_tables.specs.within.Promising.{nothing}
use Rattle.node_tables.proofs.Reserved.{none_promised, on_err, on_ok, one_kept, one_promised, one_roomier, promises_still, subject_is, subject_not}
use Rattle.node_tables.proofs.reserving.promise_body.Goals as goal

pub returns-in_default-clause-ok : goal.returns-in_default-clause-ok
returns-in_default-clause-ok g c =
    let x = c.args.kept.now in
    λ i t at. (t, at, promises_still nothing (bodies_of x) t refl (subject_not (subject x.item.fields) t.node (λ own. let none : subject x.item.fields ≡ None = sym c.subject.ensures ∙ c.in_default.is in cc (none, own))))

pub returns-in_default-place_of-clause-ok : goal.returns-in_default-place_of-clause-ok
returns-in_default-place_of-clause-ok g c =
    let o = subject c.args.kept.now.item.fields in
    let j = c.in-Some.node in
    let is = sym c.subject.ensures ∙ c.in-Some.is in
    none_promised nothing (bodies_of c.args.kept.now) 0 1 c.args.tables.now j refl (subject_is o j is) (λ i other. (refl, subject_not o i (λ own. other (same_Some i j (sym own ∙ is))))) c.in_default-place_of.ensures.none

pub returns-clause-same : goal.returns-clause-same
returns-clause-same g c = one_roomier c.args.tables.now c.in-Some.node c.requires c.in-Some-place_of.i c.index-tables-i.result c.promise_body_here.new.table c.in-Some-place_of.ensures.some c.promise_body_here.ensures.same

pub returns-clause-ok : goal.returns-clause-ok
returns-clause-ok g c =
    let o = subject c.args.kept.now.item.fields in
    let j = c.in-Some.node in
    let is = sym c.subject.ensures ∙ c.in-Some.is in
    on_ok c.promise_body_here.result _ _ c.promise_body_here.ensures.ok
    (one_promised nothing (bodies_of c.args.kept.now) 0 1 c.args.tables.now j refl (subject_is o j is) (λ i other. (refl, subject_not o i (λ own. other (same_Some i j (sym own ∙ is)))))
    c.requires c.in-Some-place_of.i c.index-tables-i.result c.promise_body_here.new.table c.in-Some-place_of.ensures.some)

pub returns-clause-refused : goal.returns-clause-refused
returns-clause-refused g c =
    on_err c.promise_body_here.result _ _ c.promise_body_here.ensures.refused
    (one_kept c.args.tables.now c.in-Some.node c.requires c.in-Some-place_of.i c.index-tables-i.result c.promise_body_here.new.table c.in-Some-place_of.ensures.some)
