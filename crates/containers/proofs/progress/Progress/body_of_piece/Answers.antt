use Rattle.std.proofs.Common.{◌≡◌, ◌∙◌, ◌-◌, ◌++◌, ℕ, List, [], length, take, drop, sym, ap, subst, arith, inl}
use Rattle.std.proofs.lemmas.List.{take-append-drop}
use Rattle.std.proofs.lemmas.Result.{err_from_is_err_and}
use Rattle.evidence_item.specs.Checking.{Checked}
use Rattle.containers.specs.CheckedItems.{checked_of}
use Rattle.containers.specs.within.Going.{IsOneMore}
use Rattle.containers.proofs.Parting.{behind_all, empty_parted, of_items, taken, wrong}
use Rattle.containers.proofs.progress.Progress.body_of_piece.Goals as goal

-- the text and what is behind it are the rest, before which no body is held
joined : (len : ℕ) (body rest text after : List ℕ) → body ≡ [] → text ≡ take len rest → after ≡ drop len rest → text ++ after ≡ body ++ rest
joined len body rest text after none front back =
    ap (λ (t : List ℕ). t ++ after) front ∙ ap (λ (t : List ℕ). take len rest ++ t) back ∙ take-append-drop len rest ∙ sym (ap (λ (t : List ℕ). t ++ rest) none)

pub returns-in_err-keep_item-clause-refused : goal.returns-in_err-keep_item-clause-refused
returns-in_err-keep_item-clause-refused g c =
    let p = err_from_is_err_and c.from_residual.result c.from_residual.ensures.1 in
    let whole = joined c.args.len c.args.self.now.body.items c.args.rest.now c.split_at.result.0.now c.split_at.result.1.now c.requires.none c.split_at.ensures.front c.split_at.ensures.back in
    rw (p.1, p.2) (record {
      refused = wrong (checked_of c.args.directory.now) c.args.left c.args.len c.args.self.now c.args.rest.now c.split_at.result.0.now c.split_at.result.1.now c.requires.stage.0 c.requires.stage.1 c.requires.front c.split_at.ensures.front_len whole c.in_err-keep_item.field-0.0 c.in_err-keep_item.ensures.refused;
      memory = λ none memory. behind_all (checked_of c.args.directory.now) c.args.left c.args.len c.args.self.now c.args.rest.now c.split_at.result.0.now c.split_at.result.1.now c.requires.stage.0 c.requires.stage.1 c.requires.front c.split_at.ensures.front_len whole (c.in_err-keep_item.ensures.memory memory);
      of_items = of_items (checked_of c.args.directory.now) c.args.left c.args.len c.args.self.now c.args.rest.now c.split_at.result.0.now c.split_at.result.1.now c.requires.stage.0 c.requires.stage.1 c.requires.front c.split_at.ensures.front_len whole;
    })

pub returns-clause-taken : goal.returns-clause-taken
returns-clause-taken g c =
    let new = c.begin_next.new.self in
    let items : new.items.items ≡ c.keep_item.new.items.items = ap (λ v. v.items) c.begin_next.ensures.items in
    let few : length new.front.items ≡ 0 = ap length c.begin_next.ensures.none.0 in (
      inl (taken (checked_of c.args.directory.now) c.args.left c.args.len c.args.self.now c.args.rest.now c.split_at.result.0.now c.split_at.result.1.now c.requires.stage.0 c.requires.stage.1 c.requires.front c.split_at.ensures.front_len
          (joined c.args.len c.args.self.now.body.items c.args.rest.now c.split_at.result.0.now c.split_at.result.1.now c.requires.none c.split_at.ensures.front c.split_at.ensures.back)
          new (subst (λ (xs : List Checked). IsOneMore (checked_of c.args.directory.now) c.args.self.now.items.items c.split_at.result.0.now xs) (sym items) c.in_ok-keep_item.ensures.kept) c.begin_next.ensures.left c.begin_next.ensures.none.0 c.begin_next.ensures.none.1),
      empty_parted new.left (c.args.left - 1) new.front.items new.body.items c.begin_next.ensures.left (omega (arith, few)) c.begin_next.ensures.none.1,
    )
