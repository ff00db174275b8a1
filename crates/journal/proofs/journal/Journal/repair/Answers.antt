use Rattle.std.proofs.Common.{◌≡◌, ℕ, ◌+◌, List, length, take, sym, ◌∙◌, ap, arith}
use Rattle.std.proofs.lemmas.List.{take-take, length-take-le}
use Rattle.journal.specs.Journal.{recovered, StandsFor}
use Rattle.journal.proofs.Closed.{cut_each, closed_at, same_at, settled_at, started_at}
use Rattle.journal.proofs.Gate.{Gated, gated_of, gated_length, gated_reaches, gated_then, cut_front}
use Rattle.journal.proofs.Moments.{goes_on}
use Rattle.journal.proofs.journal.Journal.repair.Goals as goal

-- what is there after the cut is the same to the gate
front_is : (file new : List ℕ) (at : ℕ) → new ≡ take at file → take at new ≡ take at file
front_is file new at is = ap (λ (l : List ℕ). take at l) is ∙ take-take at at file (omega arith)

cut_long : (texts : List (List ℕ)) (end : ℕ) (file new : List ℕ) → Gated texts end file → new ≡ take (end + 1) file → length new ≡ end + 1
cut_long texts end file new gated is = ap length is ∙ length-take-le (end + 1) file (omega (arith, gated_length texts end file gated))

pub overflow_add-self : goal.overflow_add-self
overflow_add-self g c = let small = c.requires.small in omega (arith, small)

pub returns-in_err-cut-clause-same : goal.returns-in_err-cut-clause-same
returns-in_err-cut-clause-same g c =
    let s = c.requires in
    let end = c.args.self.now.end in
    let file = g.D.Device.seen c.args.self.now.device in
    same_at g.D.Device.seen g.D.Device.may_leave end file s.end s.small (gated_of file end s.end s.gate) c.cut.new.self (cut_front (end + 1) file _ (gated_reaches _ _ _ (gated_of file end s.end s.gate)) c.in_err-cut.ensures.not_cut)

pub returns-in_err-cut-clause-closed : goal.returns-in_err-cut-clause-closed
returns-in_err-cut-clause-closed g c =
    let s = c.requires in
    let end = c.args.self.now.end in
    let file = g.D.Device.seen c.args.self.now.device in
    closed_at g.D.Device.seen g.D.Device.may_leave end file s.end s.small (gated_of file end s.end s.gate) c.cut.new.self (cut_front (end + 1) file _ (gated_reaches _ _ _ (gated_of file end s.end s.gate)) c.in_err-cut.ensures.not_cut)
    (cut_each end file _ _ (gated_reaches _ _ _ (gated_of file end s.end s.gate)) s.each c.cut.ensures.crash)

pub returns-in_err-cut-clause-any_moment : goal.returns-in_err-cut-clause-any_moment
returns-in_err-cut-clause-any_moment g c =
    let s = c.requires in
    let old = c.args.self.now.device in
    let end = c.args.self.now.end in
    let file = g.D.Device.seen old in
    let gated = gated_of file end s.end s.gate in
    let P = StandsFor (recovered file) in
    let start = started_at g.D.Device.moment g.D.Device.left_since g.D.Device.may_leave g.met.D.Device.only_now old P (λ f now. gated_then (recovered file) end file f gated (s.each f now)) in
    goes_on g.D.Device.moment g.D.Device.left_since old old c.cut.new.self P _ start c.cut.ensures.time (λ f now. gated_then (recovered file) end file f gated (cut_each end file _ _ (gated_reaches _ _ _ (gated_of file end s.end s.gate)) s.each c.cut.ensures.crash f now))

pub returns-in_err-sync-clause-same : goal.returns-in_err-sync-clause-same
returns-in_err-sync-clause-same g c =
    let s = c.requires in
    let end = c.args.self.now.end in
    let file = g.D.Device.seen c.args.self.now.device in
    let is = c.sync.ensures.seen ∙ c.in_ok-cut.ensures.cut in
    same_at g.D.Device.seen g.D.Device.may_leave end file s.end s.small (gated_of file end s.end s.gate) c.sync.new.self (front_is file _ (end + 1) is)

pub returns-in_err-sync-clause-closed : goal.returns-in_err-sync-clause-closed
returns-in_err-sync-clause-closed g c =
    let s = c.requires in
    let end = c.args.self.now.end in
    let file = g.D.Device.seen c.args.self.now.device in
    let is = c.sync.ensures.seen ∙ c.in_ok-cut.ensures.cut in
    closed_at g.D.Device.seen g.D.Device.may_leave end file s.end s.small (gated_of file end s.end s.gate) c.sync.new.self (front_is file _ (end + 1) is)
    (λ f now. cut_each end file _ _ (gated_reaches _ _ _ (gated_of file end s.end s.gate)) s.each c.cut.ensures.crash f (c.sync.ensures.crash f now))

pub returns-in_err-sync-clause-any_moment : goal.returns-in_err-sync-clause-any_moment
returns-in_err-sync-clause-any_moment g c =
    let s = c.requires in
    let old = c.args.self.now.device in
    let end = c.args.self.now.end in
    let file = g.D.Device.seen old in
    let gated = gated_of file end s.end s.gate in
    let P = StandsFor (recovered file) in
    let each : (f : List ℕ) → g.D.Device.may_leave c.cut.new.self f → P f = λ f now. gated_then (recovered file) end file f gated (cut_each end file _ _ (gated_reaches _ _ _ (gated_of file end s.end s.gate)) s.each c.cut.ensures.crash f now) in
    let start = started_at g.D.Device.moment g.D.Device.left_since g.D.Device.may_leave g.met.D.Device.only_now old P (λ f now. gated_then (recovered file) end file f gated (s.each f now)) in
    let cut = goes_on g.D.Device.moment g.D.Device.left_since old old c.cut.new.self P _ start c.cut.ensures.time each in
    goes_on g.D.Device.moment g.D.Device.left_since old c.cut.new.self c.sync.new.self P _ cut c.sync.ensures.time (λ f now. each f (c.sync.ensures.crash f now))

pub returns-clause-settled : goal.returns-clause-settled
returns-clause-settled g c =
    let s = c.requires in
    let end = c.args.self.now.end in
    let file = g.D.Device.seen c.args.self.now.device in
    let gated = gated_of file end s.end s.gate in
    let is = c.sync.ensures.seen ∙ c.in_ok-cut.ensures.cut in
    settled_at g.D.Device.seen g.D.Device.may_leave end file s.end s.small gated c.sync.new.self (front_is file _ (end + 1) is) (cut_long (recovered file) end file _ gated is)
    (λ f now. c.in_ok-sync.ensures.durable f now ∙ sym c.sync.ensures.seen)

pub returns-clause-same : goal.returns-clause-same
returns-clause-same g c =
    let s = c.requires in
    let end = c.args.self.now.end in
    let file = g.D.Device.seen c.args.self.now.device in
    let is = c.sync.ensures.seen ∙ c.in_ok-cut.ensures.cut in
    same_at g.D.Device.seen g.D.Device.may_leave end file s.end s.small (gated_of file end s.end s.gate) c.sync.new.self (front_is file _ (end + 1) is)

pub returns-clause-any_moment : goal.returns-clause-any_moment
returns-clause-any_moment g c =
    let s = c.requires in
    let old = c.args.self.now.device in
    let end = c.args.self.now.end in
    let file = g.D.Device.seen old in
    let gated = gated_of file end s.end s.gate in
    let P = StandsFor (recovered file) in
    let each : (f : List ℕ) → g.D.Device.may_leave c.cut.new.self f → P f = λ f now. gated_then (recovered file) end file f gated (cut_each end file _ _ (gated_reaches _ _ _ (gated_of file end s.end s.gate)) s.each c.cut.ensures.crash f now) in
    let start = started_at g.D.Device.moment g.D.Device.left_since g.D.Device.may_leave g.met.D.Device.only_now old P (λ f now. gated_then (recovered file) end file f gated (s.each f now)) in
    let cut = goes_on g.D.Device.moment g.D.Device.left_since old old c.cut.new.self P _ start c.cut.ensures.time each in
    goes_on g.D.Device.moment g.D.Device.left_since old c.cut.new.self c.sync.new.self P _ cut c.sync.ensures.time (λ f now. each f (c.sync.ensures.crash f now))

pub returns-clause-closed : goal.returns-clause-closed
returns-clause-closed g c =
    let s = c.requires in
    let end = c.args.self.now.end in
    let file = g.D.Device.seen c.args.self.now.device in
    let is = c.sync.ensures.seen ∙ c.in_ok-cut.ensures.cut in
    closed_at g.D.Device.seen g.D.Device.may_leave end file s.end s.small (gated_of file end s.end s.gate) c.sync.new.self (front_is file _ (end + 1) is)
    (λ f now. cut_each end file _ _ (gated_reaches _ _ _ (gated_of file end s.end s.gate)) s.each c.cut.ensures.crash f (c.sync.ensures.crash f now))
