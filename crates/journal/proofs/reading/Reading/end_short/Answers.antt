use Rattle.std.proofs.Common.{◌≡◌, ℕ, ◌+◌, ◌<◌, List, ◌++◌, length, take, drop, inr, refl, sym, ◌∙◌, ap, arith, length-append, take-append-drop, Bool, true, false}
use Rattle.std.specs.Prelude.{◌||◌, nat_le}
use Rattle.std.proofs.lemmas.Bool.{or_from, le-leb, lt-leb}
use Rattle.journal.specs.Journal.{recovered, covered, can_be_left, ends_closed}
use Rattle.journal.proofs.Ends.{short_ended}
use Rattle.journal.proofs.reading.Reading.end_short.Goals as goal
use Rattle.journal.proofs.reading.Reading.end_short.Goals.{else-len-gt1-via-then-len-gt1+else-not-is_closed_end, else-len-gt1-via-else-len-gt1}

mid_is : (file head : List ℕ) (end : ℕ) → drop end file ≡ head → file ≡ take end file ++ head
mid_is file head end rest = sym (take-append-drop end file) ∙ ap (λ (l : List ℕ). take end file ++ l) rest

long_is : (file head : List ℕ) (end : ℕ) → length (take end file) ≡ end → length (take end file ++ head) ≡ end + length head
long_is file head end front = omega (arith, length-append (take end file) head, front)

or_left : (x y : Bool) → x ≡ true → (x || y) ≡ true
or_left x y is = ap (λ (t : Bool). t || y) is

or_right : (x y : Bool) → y ≡ true → (x || y) ≡ true
or_right true y is = refl
or_right false y is = is

pub returns-then-not-is_closed_end-clause-fault : goal.returns-then-not-is_closed_end-clause-fault
returns-then-not-is_closed_end-clause-fault g c =
    let b = c.requires.before in
    let end = c.args.self.now.end in
    let file = g.D.Device.found c.args.self.now.device in
    let head = c.args.head.now in
    let all = c.requires.all in
    let is = sym all.0 ∙ mid_is file head end b.rest in
    let e = short_ended (take end file) head (b.whole ∙ sym b.end) c.requires.short in
    let more = c.if-len-gt1.true in
    let size = long_is file head end b.end in
    let longer : 1 < length (take end file ++ head) = omega (arith, more, size) in
    (refl, inr (all.0, ap can_be_left is ∙ e.left ∙ or_from (nat_le (length (take end file ++ head)) 1) (ends_closed head) (lt-leb _ 1 longer) (sym c.if-not-is_closed_end.ensures)))

pub returns-clause-read : goal.returns-clause-read
returns-clause-read g c =
    let b = c.requires.before in
    let end = c.args.self.now.end in
    let file = g.D.Device.found c.args.self.now.device in
    let head = c.args.head.now in
    let all = c.requires.all in
    let is = sym all.0 ∙ mid_is file head end b.rest in
    let e = short_ended (take end file) head (b.whole ∙ sym b.end) c.requires.short in
    let size = long_is file head end b.end in
    let total = ap length is in
    let left : (nat_le (length (take end file ++ head)) 1 || ends_closed head) ≡ true = elim c.else-len-gt1.branch [
      | else-len-gt1-via-then-len-gt1+else-not-is_closed_end w ↦ or_right (nat_le (length (take end file ++ head)) 1) (ends_closed head) (sym w.if-not-is_closed_end.ensures)
      | else-len-gt1-via-else-len-gt1 w ↦ let few = w.if-len-gt1 in or_left (nat_le (length (take end file ++ head)) 1) (ends_closed head) (le-leb _ 1 (omega (arith, few, size)))
    ] in
    λ _. (
      record { end = sym (ap covered is ∙ e.covered_is ∙ b.end); len = omega (arith, size, total); small = b.small; left = ap can_be_left is ∙ e.left ∙ left; durable = all.1 },
      ap recovered is ∙ e.texts,
    )
