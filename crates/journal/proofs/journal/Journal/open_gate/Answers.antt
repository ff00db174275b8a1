use Rattle.std.proofs.Common.{ℕ, List, [], ◌∷◌, sym, ◌∙◌, subst, arith}
use Rattle.journal.specs.Device.{Holds}
use Rattle.journal.specs.Journal.{recovered, IsBeforeOrAfter}
use Rattle.journal.proofs.Closed.{started_at}
use Rattle.journal.proofs.Gate.{gated_recovered, gated_covered, at_rest}
use Rattle.journal.proofs.Opening.{each_outcome, first_outcome, opened}
use Rattle.journal.proofs.Moments.{goes_on}
use Rattle.journal.proofs.journal.Journal.open_gate.Goals as goal

pub overflow_add-self : goal.overflow_add-self
overflow_add-self g c = let small = c.requires.end.1 in let few = c.requires.group.2 in omega (arith, small, few)

pub returns-in_err-write_at-clause-any_moment : goal.returns-in_err-write_at-clause-any_moment
returns-in_err-write_at-clause-any_moment g c =
    let r = c.requires in
    let old = c.args.self.now.device in
    let end = c.args.self.now.end in
    let file = g.D.Device.seen old in
    let group = c.args.group.now in
    let P = IsBeforeOrAfter (recovered file) (recovered group) in
    let start = started_at g.D.Device.moment g.D.Device.left_since g.D.Device.may_leave g.met.D.Device.only_now old P (λ f now. first_outcome file group end r.end.0 r.staged r.group.0 r.group.1 r.group.2 f (r.durable f now)) in
    goes_on g.D.Device.moment g.D.Device.left_since old old c.write_at.new.self P _ start c.write_at.ensures.time (each_outcome file group end r.end.0 r.staged r.group.0 r.group.1 r.group.2 _ _ r.durable c.write_at.ensures.crash)

pub returns-in_err-sync-clause-any_moment : goal.returns-in_err-sync-clause-any_moment
returns-in_err-sync-clause-any_moment g c =
    let r = c.requires in
    let old = c.args.self.now.device in
    let end = c.args.self.now.end in
    let file = g.D.Device.seen old in
    let group = c.args.group.now in
    let P = IsBeforeOrAfter (recovered file) (recovered group) in
    let start = started_at g.D.Device.moment g.D.Device.left_since g.D.Device.may_leave g.met.D.Device.only_now old P (λ f now. first_outcome file group end r.end.0 r.staged r.group.0 r.group.1 r.group.2 f (r.durable f now)) in
    let each = each_outcome file group end r.end.0 r.staged r.group.0 r.group.1 r.group.2 _ _ r.durable c.write_at.ensures.crash in
    let written = goes_on g.D.Device.moment g.D.Device.left_since old old c.write_at.new.self P _ start c.write_at.ensures.time each in
    goes_on g.D.Device.moment g.D.Device.left_since old c.write_at.new.self c.sync.new.self P _ written c.sync.ensures.time (λ f now. each f (c.sync.ensures.crash f now))

pub returns-clause-settled : goal.returns-clause-settled
returns-clause-settled g c =
    let r = c.requires in
    let end = c.args.self.now.end in
    let file = g.D.Device.seen c.args.self.now.device in
    let group = c.args.group.now in
    let holds = subst (λ (l : List ℕ). Holds file end (255 ∷ []) l) (sym c.sync.ensures.seen) c.in_ok-write_at.ensures.written in
    let done = opened file group end r.end.0 r.staged r.group.0 r.group.1 r.group.2 _ holds in
    let texts = gated_recovered _ _ _ done.0 in
    let small = r.end.1 in
    let few = r.group.2 in (
      record {
        end = sym (gated_covered _ _ _ done.0);
        small = omega (arith, small, few);
        rest = at_rest _ _ _ done.0 done.1;
        durable = λ f now. c.in_ok-sync.ensures.durable f now ∙ sym c.sync.ensures.seen;
      },
      texts,
    )

pub returns-clause-any_moment : goal.returns-clause-any_moment
returns-clause-any_moment g c =
    let r = c.requires in
    let old = c.args.self.now.device in
    let end = c.args.self.now.end in
    let file = g.D.Device.seen old in
    let group = c.args.group.now in
    let P = IsBeforeOrAfter (recovered file) (recovered group) in
    let start = started_at g.D.Device.moment g.D.Device.left_since g.D.Device.may_leave g.met.D.Device.only_now old P (λ f now. first_outcome file group end r.end.0 r.staged r.group.0 r.group.1 r.group.2 f (r.durable f now)) in
    let each = each_outcome file group end r.end.0 r.staged r.group.0 r.group.1 r.group.2 _ _ r.durable c.write_at.ensures.crash in
    let written = goes_on g.D.Device.moment g.D.Device.left_since old old c.write_at.new.self P _ start c.write_at.ensures.time each in
    goes_on g.D.Device.moment g.D.Device.left_since old c.write_at.new.self c.sync.new.self P _ written c.sync.ensures.time (λ f now. each f (c.sync.ensures.crash f now))
