use Rattle.std.proofs.Common.{◌≡◌, ℕ, ◌+◌, ◌≤◌, ◌<◌, List, ◌++◌, length, take, drop, inl, sym, ◌∙◌, ap, arith, length-append, take-append-drop}
use Rattle.journal.specs.Journal.{recovered, covered, can_be_left}
use Rattle.journal.specs.declared.blocks.TheConstants.{MOST_GROUP}
use Rattle.journal.proofs.Ends.{closed_ended, closed_left, closed_long}
use Rattle.journal.proofs.reading.Reading.end_closed.Goals as goal

new_is : (file head rest new : List ℕ) (end : ℕ) → drop end file ≡ head → new ≡ file ++ rest → new ≡ (take end file ++ head) ++ rest
new_is file head rest new end behind is = is ∙ ap (λ (l : List ℕ). l ++ rest) (sym (take-append-drop end file) ∙ ap (λ (l : List ℕ). take end file ++ l) behind)

pub returns-then-len-clause-damaged : goal.returns-then-len-clause-damaged
returns-then-len-clause-damaged g c =
    let b = c.requires.before in
    let end = c.args.self.now.end in
    let file = g.D.Device.found c.args.self.now.device in
    let rest = c.in_ok-rest.rest.items in
    let len = c.len.ensures in
    let longer = c.if-len.true in
    let many : MOST_GROUP < 8 + length rest = omega (arith, len, longer) in
    let is = new_is file c.args.head.now rest _ end b.rest c.in_ok-rest.ensures.found in
    λ _. inl (λ behind. ap (λ (l : List ℕ). can_be_left (l ++ behind)) is ∙ closed_long (take end file) c.args.head.now rest behind (b.whole ∙ sym b.end) c.requires.closed c.requires.len many)

pub returns-clause-read : goal.returns-clause-read
returns-clause-read g c =
    let b = c.requires.before in
    let end = c.args.self.now.end in
    let file = g.D.Device.found c.args.self.now.device in
    let head = c.args.head.now in
    let rest = c.in_ok-rest.rest.items in
    let len = c.len.ensures in
    let again = c.len-2.ensures in
    let shorter = c.if-len.false in
    let few : 8 + length rest ≤ MOST_GROUP = omega (arith, len, shorter) in
    let all = c.in_ok-rest.ensures.end (omega (arith, few)) in
    let is = sym all.0 ∙ new_is file head rest _ end b.rest c.in_ok-rest.ensures.found in
    let whole = b.whole ∙ sym b.end in
    let e = closed_ended (take end file) head rest whole c.requires.closed in
    let nine = c.requires.len in
    let front = b.end in
    let size : end + 9 + length rest ≡ length ((take end file ++ head) ++ rest) = omega (arith, length-append (take end file ++ head) rest, length-append (take end file) head, nine, front) in
    let total = ap length is in
    λ _. (
      record {
        end = sym (ap covered is ∙ e.covered_is ∙ b.end);
        len = omega (arith, size, total, again);
        small = b.small;
        left = ap can_be_left is ∙ closed_left (take end file) head rest whole c.requires.closed nine few;
        durable = all.1;
      },
      ap recovered is ∙ e.texts,
    )
