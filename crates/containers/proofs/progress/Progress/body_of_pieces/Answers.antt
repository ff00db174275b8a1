use Rattle.std.proofs.Common.{◌≡◌, ◌-◌, ℕ, List, length, sym, ap, subst, arith, inl}
use Rattle.std.proofs.lemmas.Result.{err_from_is_err_and}
use Rattle.evidence_item.specs.Checking.{Checked}
use Rattle.outcome.specs.Outcome.{told_as}
use Rattle.containers.specs.CheckedItems.{checked_of, fields_of}
use Rattle.containers.specs.Refusals.{Refuses, fault_at}
use Rattle.containers.specs.within.Going.{IsOneMore}
use Rattle.containers.specs.within.Seen.{last_text}
use Rattle.containers.proofs.Parting.{any_of_items, empty_parted, taken, wrong}
use Rattle.containers.proofs.progress.Progress.body_of_pieces.Goals as goal

pub returns-in-Err-clause-of_items : goal.returns-in-Err-clause-of_items
returns-in-Err-clause-of_items g c = any_of_items c.args.left c.args.len c.args.self.now c.args.rest.now c.requires.stage.0 c.requires.stage.1 c.requires.front

pub returns-in_err-keep_item-clause-refused : goal.returns-in_err-keep_item-clause-refused
returns-in_err-keep_item-clause-refused g c =
    let p = err_from_is_err_and c.from_residual.result c.from_residual.ensures.1 in
    let size : length c.take_up.new.body.items ≡ c.args.len = omega (arith, c.in-Ok.ensures.within, c.if-len.false) in
    let refused : Refuses c.in_err-keep_item.field-0.0 (told_as (fault_at (length c.args.self.now.items.items)) (checked_of c.args.directory.now (last_text (fields_of c.args.self.now.items.items)) c.take_up.new.body.items)) =
    subst (λ (t : List ℕ). Refuses c.in_err-keep_item.field-0.0 (told_as (fault_at (length c.args.self.now.items.items)) (checked_of c.args.directory.now (last_text (fields_of c.args.self.now.items.items)) t))) c.deref.ensures.value c.in_err-keep_item.ensures.refused
    in
    rw (p.1, p.2) (wrong (checked_of c.args.directory.now) c.args.left c.args.len c.args.self.now c.args.rest.now c.take_up.new.body.items c.in-Ok.rest.now c.requires.stage.0 c.requires.stage.1 c.requires.front size c.in-Ok.ensures.moved
    c.in_err-keep_item.field-0.0 refused)

pub returns-in_err-keep_item-clause-of_items : goal.returns-in_err-keep_item-clause-of_items
returns-in_err-keep_item-clause-of_items g c =
    let p = err_from_is_err_and c.from_residual.result c.from_residual.ensures.1 in
    rw p.1 (any_of_items c.args.left c.args.len c.args.self.now c.args.rest.now c.requires.stage.0 c.requires.stage.1 c.requires.front)

pub returns-clause-taken : goal.returns-clause-taken
returns-clause-taken g c =
    let new = c.begin_next.new.self in
    let size : length c.take_up.new.body.items ≡ c.args.len = omega (arith, c.in-Ok.ensures.within, c.if-len.false) in
    let items : new.items.items ≡ c.keep_item.new.items.items = ap (λ v. v.items) c.begin_next.ensures.items in
    let few : length new.front.items ≡ 0 = ap length c.begin_next.ensures.none.0 in
    let one : IsOneMore (checked_of c.args.directory.now) c.args.self.now.items.items c.take_up.new.body.items c.keep_item.new.items.items =
    subst (λ (t : List ℕ). IsOneMore (checked_of c.args.directory.now) c.args.self.now.items.items t c.keep_item.new.items.items) c.deref.ensures.value c.in_ok-keep_item.ensures.kept
    in (
      inl (taken (checked_of c.args.directory.now) c.args.left c.args.len c.args.self.now c.args.rest.now c.take_up.new.body.items c.in-Ok.rest.now c.requires.stage.0 c.requires.stage.1 c.requires.front size c.in-Ok.ensures.moved
          new (subst (λ (xs : List Checked). IsOneMore (checked_of c.args.directory.now) c.args.self.now.items.items c.take_up.new.body.items xs) (sym items) one) c.begin_next.ensures.left c.begin_next.ensures.none.0 c.begin_next.ensures.none.1),
      empty_parted new.left (c.args.left - 1) new.front.items new.body.items c.begin_next.ensures.left (omega (arith, few)) c.begin_next.ensures.none.1,
    )
