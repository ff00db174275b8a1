-- The statements of a checked item by their positions in it. The end of a segment stands at 0, and behind it what each entry quotes. The
-- last statement that an audit challenge names stands at 0, and the first one at 1. Of an acknowledged message the sender's statement
-- stands at 0, and the receiver's at 1.
use Rattle.std.specs.Prelude.{ℕ, ◌+◌, ◌-◌, ◌==◌, List, Option, Some, None, length, slice_get, if◌then◌else◌}
use Rattle.std.specs.Option.{option_map}
use Rattle.log_chain.specs.declared.entry.Entry.{Entry}
use Rattle.authenticators.specs.declared.authenticator.Authenticator.{Authenticator}
use Rattle.item_forms.specs.declared.forms.Fields.{Fields}
use Rattle.item_forms.specs.declared.forms.Fields.TheVariants as form
use Rattle.item_forms.specs.declared.forms.Segment.{Segment}
use Rattle.item_forms.specs.Segments.{last_seq}
use Rattle.evidence_item.specs.declared.findings.Findings.{Findings}
use Rattle.evidence_item.specs.declared.findings.Findings.TheVariants as found
use Rattle.evidence_item.specs.declared.findings.SegmentFindings.{SegmentFindings}
use Rattle.evidence_item.specs.Checking.{Checked}
use Rattle.evidence_item.specs.Statements.{named, says}
use Rattle.kept_evidence.specs.Telling.{last_or, told_quote}
use Rattle.kept_items.specs.declared.said.Said.{Said}

-- A statement, without where its signature lies in memory.
abbrev pub shown : Said → Authenticator
shown v = record { node = v.node; seq = v.seq; hash = v.hash; sig = v.sig.now }

-- What an entry quotes, if its hash was found.
abbrev pub quote_by : Option Entry → Option (Option (List ℕ)) → Option Authenticator
quote_by None h = None
quote_by (Some e) None = None
quote_by (Some e) (Some h) = told_quote e h

-- What the entry at a place of a segment quotes, if its hash was found.
abbrev pub quote_at : Segment → SegmentFindings → ℕ → Option Authenticator
quote_at s f k = quote_by (slice_get s.entries k) (slice_get f.quotes k)

-- The statement at the end of a segment: its last number, and the last of the hashes that were found.
abbrev pub end_said : Segment → SegmentFindings → Authenticator
end_said s f = says s.node (last_seq s.entries) (last_or s.prev f.hashes) s.sig

-- The statement at a position of a segment: its end at 0, and behind it what each entry quotes.
abbrev pub in_segment : Segment → SegmentFindings → ℕ → Option Authenticator
in_segment s f k = if k == 0 then Some (end_said s f) else quote_at s f (k - 1)

-- The first of the two at 0, the second at 1, and nothing behind.
abbrev pub either_at : Option Authenticator → Option Authenticator → ℕ → Option Authenticator
either_at a b k = if k == 0 then a else (if k == 1 then b else None)

-- The statement at a position, by an item's fields and by what was found of it.
abbrev pub stated_in : Fields → Option Findings → ℕ → Option Authenticator
stated_in (form.Auth a) f k = either_at (Some a) None k
stated_in (form.Segment s) (Some (found.Segment f)) k = in_segment s f k
stated_in (form.Segment s) (Some (found.Send h)) k = None
stated_in (form.Segment s) (Some (found.Ack h i)) k = None
stated_in (form.Segment s) None k = None
stated_in (form.Audit c) f k = either_at (Some (named c.node c.last)) (option_map (named c.node) c.first) k
stated_in (form.Send m) (Some (found.Send h)) k = either_at (Some (says m.from m.seq h m.sig)) None k
stated_in (form.Send m) (Some (found.Segment f)) k = None
stated_in (form.Send m) (Some (found.Ack h i)) k = None
stated_in (form.Send m) None k = None
stated_in (form.Ack a) (Some (found.Ack h i)) k = either_at (Some (says a.message.from a.message.seq h a.message.sig)) (Some (says a.message.to a.seq i a.sig)) k
stated_in (form.Ack a) (Some (found.Segment f)) k = None
stated_in (form.Ack a) (Some (found.Send h)) k = None
stated_in (form.Ack a) None k = None

-- How many positions an item has.
abbrev pub positions : Fields → ℕ
positions (form.Auth a) = 1
positions (form.Segment s) = length s.entries + 1
positions (form.Audit c) = 2
positions (form.Send m) = 1
positions (form.Ack a) = 2

-- The statement at a position of a checked item, if one stands there.
abbrev pub stated : Checked → ℕ → Option Authenticator
stated c k = stated_in c.item.fields c.findings k
