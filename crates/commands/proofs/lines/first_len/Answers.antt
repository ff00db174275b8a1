use Rattle.std.proofs.Common.{◌≡◌, Some, None, sym, ◌∙◌}
use Rattle.std.specs.List.{position_from}
use Rattle.std.proofs.lemmas.Bool.{eqb-true}
use Rattle.std.proofs.lemmas.List.{nil_from_length}
use Rattle.std.proofs.lemmas.Iterator.Adapters.{position_from-zero}
use Rattle.commands.proofs.FirstLines.{ends_at, is_all, missing, none, not_empty}
use Rattle.commands.proofs.LineFeeds.{is_feed, line_ends}
use Rattle.commands.proofs.lines.first_len.Goals as goal

pub returns-then-is_empty-clause-line : goal.returns-then-is_empty-clause-line
returns-then-is_empty-clause-line c = none c.args.bytes.now (nil_from_length _ (eqb-true _ _ (sym c.is_empty.ensures ∙ c.if-is_empty.true)))

pub returns-in-Some-clause-line : goal.returns-in-Some-clause-line
returns-in-Some-clause-line c =
    let at : position_from is_feed 0 c.args.bytes.now ≡ Some c.in-Some.end = sym (position_from-zero is_feed c.args.bytes.now) ∙ sym c.line_feed.ensures ∙ c.in-Some.is in
    ends_at c.args.bytes.now c.in-Some.end (line_ends c.args.bytes.now 0 c.in-Some.end at)

pub returns-in-None-clause-line : goal.returns-in-None-clause-line
returns-in-None-clause-line c =
    let at : position_from is_feed 0 c.args.bytes.now ≡ None = sym (position_from-zero is_feed c.args.bytes.now) ∙ sym c.line_feed.ensures ∙ c.in-None.is in
    is_all c.args.bytes.now (missing c.args.bytes.now (not_empty c.args.bytes.now c.is_empty.result c.is_empty.ensures c.if-is_empty.false) at)
