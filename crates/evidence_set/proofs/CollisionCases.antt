-- Collisions, case by case.
use Rattle.std.proofs.Common.{sym, ◌∙◌}
use Rattle.evidence_set.specs.Collisions.{CollisionsAreOfTwoTexts}
use Rattle.evidence_set.proofs.Members.{only_member}

pub collisions : CollisionsAreOfTwoTexts
collisions = record {
  found = λ list x y x_in y_in x_bytes y_bytes differ same. record {
    one = x;
    other = y;
    one_listed = x_in;
    other_listed = y_in;
    one_bytes = x_bytes;
    other_bytes = y_bytes;
    differ = differ;
    same = same;
  };
  one_each = λ list one c. c.differ (one c.one c.other c.one_listed c.other_listed c.same);
  lone = λ x c. c.differ (sym (only_member x c.one c.one_listed) ∙ only_member x c.other c.other_listed);
  stay = λ list more wider c. record {
    one = c.one;
    other = c.other;
    one_listed = wider c.one c.one_listed;
    other_listed = wider c.other c.other_listed;
    one_bytes = c.one_bytes;
    other_bytes = c.other_bytes;
    differ = c.differ;
    same = c.same;
  };
}
