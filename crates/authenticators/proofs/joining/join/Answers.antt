use Rattle.std.proofs.Common.{◌≡◌, ◌+◌, ◌≤◌, vec_capacity, vec_len, List, sym, subst, ap, ◌∙◌, ◌++◌, arith}
use Rattle.authenticators.specs.declared.authenticator.Authenticator.{Authenticator}
use Rattle.authenticators.specs.StatementSet.{IsUnion}
use Rattle.authenticators.specs.within.Joins.{with_moved}
use Rattle.authenticators.proofs.StatementJoins.{joining_more}
use Rattle.authenticators.proofs.StatementUnions.{union_all}
use Rattle.authenticators.proofs.joining.join.Goals as goal

pub loop-statement-preserved : goal.loop-statement-preserved
loop-statement-preserved c =
    let before = c.loop-statement.invariant in
    record {
      joining = joining_more _ _ _ _ _ _ _ _ _ before.joining c.in-Some.ensures.items c.put.ensures.put;
      room = omega (arith, before.room, c.in-Some.ensures.cases, c.put.ensures.len, c.put.ensures.held_capacity);
      moving = omega (arith, before.moving, c.in-Some.ensures.cases, c.put.ensures.len, c.put.ensures.moved_capacity);
    }

pub returns-clause-added : goal.returns-clause-added
returns-clause-added c =
    let before = c.loop-statement.invariant in
    let space : vec_len c.loop-statement.held + vec_len c.reverse.new.self ≤ vec_capacity c.loop-statement.held = omega (arith, before.room, c.reverse.ensures.len) in
    let appended : c.append.new.self.items ≡ with_moved c.loop-statement.held.items c.loop-statement.moved.items =
    (rw (c.append.ensures.succeeds space) at c.append.ensures.items) ∙ ap (λ (l : List Authenticator). c.loop-statement.held.items ++ l) c.reverse.ensures.items in
    let none = union_all _ _ _ _ before.joining.members (omega (arith, c.loop-statement.statements.ok, c.in_default.ensures.cases)) in
    subst (IsUnion c.args.held.now.items c.args.statements.items) (sym appended) none
