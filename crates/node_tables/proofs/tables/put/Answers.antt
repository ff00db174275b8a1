use Rattle.std.proofs.Common.{get_or, refl, subst, sym, ap, ◌∙◌}
use Rattle.std.specs.Prelude.{IsSome, Option}
use Rattle.std.specs.Option.{option_map}
use Rattle.std.proofs.lemmas.Option.{same_Some}
use Rattle.authenticators.specs.declared.authenticator.Authenticator.{Authenticator}
use Rattle.kept_items.specs.Positions.{shown}
use Rattle.node_tables.specs.within.Coming.{StatementCame}
use Rattle.node_tables.proofs.Stepping.{as_read, came_elsewhere, came_still, to_none, to_one}
use Rattle.node_tables.proofs.tables.put.Goals as goal

pub returns-in_default : goal.returns-in_default
returns-in_default g c = λ i t at. (t, at, came_still c.args.items.now c.args.row t (c.requires.told i t at) (λ a is own. absurd (cc (is, sym c.said_at.ensures ∙ ap (option_map shown) c.in_default.is))))

pub returns-in_default-place_of : goal.returns-in_default-place_of
returns-in_default-place_of g c =
    let s = shown c.in-Some.said in
    let is = sym c.said_at.ensures ∙ ap (option_map shown) c.in-Some.is in
    to_none (StatementCame c.args.items.now c.args.row) c.args.tables.now s.node (came_elsewhere c.args.items.now c.args.row c.args.tables.now s is c.requires.told) c.in_default-place_of.ensures.none

pub put_statement-requires-clause-told : goal.put_statement-requires-clause-told
put_statement-requires-clause-told g c =
    let i = c.in-Some-place_of.i in
    let found = as_read c.args.tables.now i (shown c.in-Some.said).node c.index-tables-i.result c.in-Some-place_of.ensures.some in
    c.requires.told i (get_or c.args.tables.now i c.index-tables-i.result) found.0

pub put_statement-requires-clause-own : goal.put_statement-requires-clause-own
put_statement-requires-clause-own g c = λ a names.
    let s = shown c.in-Some.said in
    let is = sym c.said_at.ensures ∙ ap (option_map shown) c.in-Some.is in
    ap (λ x. x.node) (same_Some a s (sym names ∙ is)) ∙ sym (as_read c.args.tables.now c.in-Some-place_of.i s.node c.index-tables-i.result c.in-Some-place_of.ensures.some).1

pub put_statement-requires-clause-there : goal.put_statement-requires-clause-there
put_statement-requires-clause-there g c = subst (λ (o : Option Authenticator). IsSome o) (sym (sym c.said_at.ensures ∙ ap (option_map shown) c.in-Some.is)) refl

pub put_statement-requires-clause-room : goal.put_statement-requires-clause-room
put_statement-requires-clause-room g c =
    let s = shown c.in-Some.said in
    let is = sym c.said_at.ensures ∙ ap (option_map shown) c.in-Some.is in
    let i = c.in-Some-place_of.i in
    let found = as_read c.args.tables.now i s.node c.index-tables-i.result c.in-Some-place_of.ensures.some in
    c.requires.room s is i (get_or c.args.tables.now i c.index-tables-i.result) found.0 found.1

pub returns-in-Some-place_of : goal.returns-in-Some-place_of
returns-in-Some-place_of g c =
    let s = shown c.in-Some.said in
    let is = sym c.said_at.ensures ∙ ap (option_map shown) c.in-Some.is in
    let i = c.in-Some-place_of.i in
    to_one (StatementCame c.args.items.now c.args.row) c.args.tables.now s.node (came_elsewhere c.args.items.now c.args.row c.args.tables.now s is c.requires.told) c.requires.ascending i (get_or c.args.tables.now i c.index-tables-i.result) c.put_statement.new.table
    (as_read c.args.tables.now i s.node c.index-tables-i.result c.in-Some-place_of.ensures.some) c.put_statement.ensures
