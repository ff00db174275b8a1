use Rattle.std.proofs.Common.{◌≡◌, None, refl, sym, ◌∙◌}
use Rattle.std.proofs.lemmas.Option.{same_Some}
use Rattle.kept_items.specs.Keeping.{subject}
use Rattle.node_tables.specs.Rooms.{bodies_of}
use Rattle.node_tables.specs.within.Promising.{nothing}
use Rattle.node_tables.proofs.Reserved.{back_still, none_back, one_back, subject_is, subject_not}
use Rattle.node_tables.proofs.releasing.release_body.Goals as goal

pub returns-in_default : goal.returns-in_default
returns-in_default g c =
    let x = c.args.kept.now in
    λ i t at. (t, at, back_still nothing (bodies_of x) t refl (subject_not (subject x.item.fields) t.node (λ own. let none : subject x.item.fields ≡ None = sym c.subject.ensures ∙ c.in_default.is in cc (none, own))))

pub returns-in_default-place_of : goal.returns-in_default-place_of
returns-in_default-place_of g c =
    let o = subject c.args.kept.now.item.fields in
    let j = c.in-Some.node in
    let is = sym c.subject.ensures ∙ c.in-Some.is in
    none_back nothing (bodies_of c.args.kept.now) 0 1 c.args.tables.now j refl (subject_is o j is) (λ i other. (refl, subject_not o i (λ own. other (same_Some i j (sym own ∙ is))))) c.in_default-place_of.ensures.none

pub returns-in-Some-place_of : goal.returns-in-Some-place_of
returns-in-Some-place_of g c =
    let o = subject c.args.kept.now.item.fields in
    let j = c.in-Some.node in
    let is = sym c.subject.ensures ∙ c.in-Some.is in
    one_back nothing (bodies_of c.args.kept.now) 0 1 c.args.tables.now j refl (subject_is o j is) (λ i other. (refl, subject_not o i (λ own. other (same_Some i j (sym own ∙ is)))))
    c.requires c.in-Some-place_of.i c.index-tables-i.result c.release_body_here.new.table c.in-Some-place_of.ensures.some c.release_body_here.ensures
