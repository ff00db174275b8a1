use Rattle.std.proofs.Common.{◌≡◌, Some, None, get_or, sym, ap, ◌∙◌}
use Rattle.std.proofs.lemmas.Option.{same_Some}
use Rattle.kept_items.specs.Keeping.{subject}
use Rattle.node_tables.specs.within.Coming.{BodyCame}
use Rattle.node_tables.proofs.Bodied.{body_elsewhere}
use Rattle.node_tables.proofs.Places.{read_at}
use Rattle.node_tables.proofs.Stepping.{as_read, to_none, to_one}
use Rattle.node_tables.proofs.bodies.put_body.Goals as goal

pub is_answered_at-answered-requires-clause-here : goal.is_answered_at-answered-requires-clause-here
is_answered_at-answered-requires-clause-here g c = read_at c.args.items.now c.args.place c.index-items-place.result c.requires.there c.index-items-place.is

pub is_answered_at-answered-requires-clause-others : goal.is_answered_at-answered-requires-clause-others
is_answered_at-answered-requires-clause-others g c = λ i t at. (c.requires.due i t at).others.spans

pub put_in-requires : goal.put_in-requires
put_in-requires g c =
    let i = c.in-Some-place_of.i in
    let t = get_or c.args.tables.now i c.index-tables-i.result in
    let (at, own) = as_read c.args.tables.now i c.in-Some.node c.index-tables-i.result c.in-Some-place_of.ensures.some in
    record {
      due = c.requires.due i t at;
      here = read_at c.args.items.now c.args.place c.index-items-place.result c.requires.there c.index-items-place.is;
      own = sym c.subject.ensures ∙ c.in-Some.is ∙ ap (λ n. Some n) (sym own);
      answered = c.is_answered_at-answered.ensures t at;
    }

pub returns-in_default : goal.returns-in_default
returns-in_default g c = λ i t at.
    let x = c.index-items-place.result in
    let here = read_at c.args.items.now c.args.place x c.requires.there c.index-items-place.is in
    (t, at, body_elsewhere c.args.items.now c.args.place x t here (c.requires.due i t at) (λ own. let none : subject x.item.fields ≡ None = sym c.subject.ensures ∙ c.in_default.is in cc (none, own)))

pub returns-in_default-place_of : goal.returns-in_default-place_of
returns-in_default-place_of g c =
    let x = c.index-items-place.result in
    let here = read_at c.args.items.now c.args.place x c.requires.there c.index-items-place.is in
    to_none (BodyCame c.args.items.now c.args.place) c.args.tables.now c.in-Some.node
    (λ k t at other. body_elsewhere c.args.items.now c.args.place x t here (c.requires.due k t at) (λ own. other (same_Some t.node c.in-Some.node (sym own ∙ sym c.subject.ensures ∙ c.in-Some.is)))) c.in_default-place_of.ensures.none

pub returns-in-Some-place_of : goal.returns-in-Some-place_of
returns-in-Some-place_of g c =
    let i = c.in-Some-place_of.i in
    let x = c.index-items-place.result in
    let here = read_at c.args.items.now c.args.place x c.requires.there c.index-items-place.is in
    to_one (BodyCame c.args.items.now c.args.place) c.args.tables.now c.in-Some.node
    (λ k t at other. body_elsewhere c.args.items.now c.args.place x t here (c.requires.due k t at) (λ own. other (same_Some t.node c.in-Some.node (sym own ∙ sym c.subject.ensures ∙ c.in-Some.is)))) c.requires.standing.ascending i
    (get_or c.args.tables.now i c.index-tables-i.result) c.put_in.new.table (as_read c.args.tables.now i c.in-Some.node c.index-tables-i.result c.in-Some-place_of.ensures.some) c.put_in.ensures

pub is_answered_at-answered-requires-clause-asked : goal.is_answered_at-answered-requires-clause-asked
is_answered_at-answered-requires-clause-asked g c = λ i t at. (c.requires.due i t at).others.kept.asked
