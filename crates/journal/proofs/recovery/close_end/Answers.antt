use Rattle.std.proofs.Common.{◌≡◌, ℕ, ◌<◌, List, length, ◌∙◌, ap, arith}
use Rattle.journal.specs.Journal.{recovered, can_be_left, StandsFor}
use Rattle.journal.proofs.Closed.{started_at}
use Rattle.journal.proofs.Left.{left_of, cut_stands, cut_is}
use Rattle.journal.proofs.Moments.{goes_on}
use Rattle.journal.proofs.recovery.close_end.Goals as goal

left_in : (file : List ℕ) (len : ℕ) → len ≡ length file → 1 < len → 1 < length file
left_in file len is long = omega (arith, is, long)

pub returns-in_err-cut-clause-each : goal.returns-in_err-cut-clause-each
returns-in_err-cut-clause-each g c =
    let file = g.D.Device.seen c.args.device.now in
    let left = left_of file c.args.end c.requires.end c.requires.left (left_in file c.args.len c.requires.len c.if-len-le1.false) in
    cut_stands file c.args.end _ _ left c.requires.durable c.cut.ensures.crash

pub returns-in_err-cut-clause-any_moment : goal.returns-in_err-cut-clause-any_moment
returns-in_err-cut-clause-any_moment g c =
    let old = c.args.device.now in
    let file = g.D.Device.seen old in
    let left = left_of file c.args.end c.requires.end c.requires.left (left_in file c.args.len c.requires.len c.if-len-le1.false) in
    let P = StandsFor (recovered file) in
    let here : (f : List ℕ) → g.D.Device.may_leave old f → P f = λ f now. (ap recovered (c.requires.durable f now), ap (λ (l : List ℕ). can_be_left l) (c.requires.durable f now) ∙ c.requires.left) in
    let start = started_at g.D.Device.moment g.D.Device.left_since g.D.Device.may_leave g.met.D.Device.only_now old P here in
    goes_on g.D.Device.moment g.D.Device.left_since old old c.cut.new.self P _ start c.cut.ensures.time (cut_stands file c.args.end _ _ left c.requires.durable c.cut.ensures.crash)

pub returns-in_ok-cut-clause-closed : goal.returns-in_ok-cut-clause-closed
returns-in_ok-cut-clause-closed g c =
    let file = g.D.Device.seen c.args.device.now in
    let left = left_of file c.args.end c.requires.end c.requires.left (left_in file c.args.len c.requires.len c.if-len-le1.false) in
    cut_is file _ c.args.end left c.in_ok-cut.ensures.cut

pub returns-in_ok-cut-clause-each : goal.returns-in_ok-cut-clause-each
returns-in_ok-cut-clause-each g c =
    let file = g.D.Device.seen c.args.device.now in
    let left = left_of file c.args.end c.requires.end c.requires.left (left_in file c.args.len c.requires.len c.if-len-le1.false) in
    cut_stands file c.args.end _ _ left c.requires.durable c.cut.ensures.crash

pub returns-in_ok-cut-clause-any_moment : goal.returns-in_ok-cut-clause-any_moment
returns-in_ok-cut-clause-any_moment g c =
    let old = c.args.device.now in
    let file = g.D.Device.seen old in
    let left = left_of file c.args.end c.requires.end c.requires.left (left_in file c.args.len c.requires.len c.if-len-le1.false) in
    let P = StandsFor (recovered file) in
    let here : (f : List ℕ) → g.D.Device.may_leave old f → P f = λ f now. (ap recovered (c.requires.durable f now), ap (λ (l : List ℕ). can_be_left l) (c.requires.durable f now) ∙ c.requires.left) in
    let start = started_at g.D.Device.moment g.D.Device.left_since g.D.Device.may_leave g.met.D.Device.only_now old P here in
    goes_on g.D.Device.moment g.D.Device.left_since old old c.cut.new.self P _ start c.cut.ensures.time (cut_stands file c.args.end _ _ left c.requires.durable c.cut.ensures.crash)
