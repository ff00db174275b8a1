use Rattle.std.proofs.Common.{◌≡◌, ℕ, ◌+◌, ◌<◌, List, ◌++◌, length, take, drop, inr, sym, ◌∙◌, ap, subst, arith, length-append, take-append-drop}
use Rattle.journal.specs.Journal.{recovered, covered, can_be_left}
use Rattle.journal.specs.Reading.{IsHead}
use Rattle.journal.proofs.Ends.{block_added, cut_short}
use Rattle.journal.proofs.reading.Reading.text.Goals as goal

-- what was read before the head, and the head
mid_is : (file head : List ℕ) (end : ℕ) → drop end file ≡ head → file ≡ take end file ++ head
mid_is file head end rest = sym (take-append-drop end file) ∙ ap (λ (l : List ℕ). take end file ++ l) rest

new_is : (file head text new : List ℕ) (end : ℕ) → drop end file ≡ head → new ≡ file ++ text → new ≡ (take end file ++ head) ++ text
new_is file head text new end rest is = is ∙ ap (λ (l : List ℕ). l ++ text) (mid_is file head end rest)

pub returns-then-len-size-clause-damaged : goal.returns-then-len-size-clause-damaged
returns-then-len-size-clause-damaged g c =
    let b = c.requires.before in
    let end = c.args.self.now.end in
    let file = g.D.Device.found c.args.self.now.device in
    let text = c.in_ok-text.text.items in
    let len = c.len.ensures in
    let shorter = c.if-len-size.true in
    let few : length text < c.args.size = omega (arith, len, shorter) in
    let all = c.in_ok-text.ensures.end few in
    let is = new_is file c.args.head.now text _ end b.rest c.in_ok-text.ensures.found in
    λ _. inr (all.0, ap can_be_left (sym all.0 ∙ is) ∙ cut_short (take end file) c.args.head.now text c.args.size (b.whole ∙ sym b.end) c.requires.open few)

pub returns-clause-text : goal.returns-clause-text
returns-clause-text g c =
    let b = c.requires.before in
    let end = c.args.self.now.end in
    let file = g.D.Device.found c.args.self.now.device in
    let head = c.args.head.now in
    let text = c.in_ok-text.text.items in
    let len = c.len.ensures in
    let enough = c.if-len-size.false in
    let most = c.in_ok-text.ensures.most in
    let small = c.in_ok-text.ensures.small in
    let long : length text ≡ c.args.size = omega (arith, len, enough, most) in
    let is = new_is file head text _ end b.rest c.in_ok-text.ensures.found in
    let added = block_added (take end file) head text (b.whole ∙ sym b.end) (subst (IsHead head) (sym long) c.requires.open) in
    let nine = c.requires.open.0 in
    let front = b.end in
    let size : end + 9 + c.args.size ≡ length ((take end file ++ head) ++ text) = omega (arith, length-append (take end file ++ head) text, length-append (take end file) head, nine, front, long) in
    let all = ap length is in (
      record { whole = ap covered is ∙ added.whole_now ∙ sym all; end = size ∙ sym all; small = omega (arith, size, all, small) },
      ap recovered is ∙ added.texts,
    )
