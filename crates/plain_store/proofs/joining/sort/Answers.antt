use Rattle.std.proofs.Common.{◌≡◌, false, Result, Ok, Err, sym, ◌∙◌, rules}
use Rattle.std.specs.Prelude.{OnOk, is_err}
use Rattle.std.specs.Ordering.{is_lt}
use Rattle.std.proofs.lemmas.Fn.{always_returns_same}
use Rattle.std.proofs.lemmas.List.Sorted.{ranks_by}
use Rattle.kept_evidence.specs.Kept.{by_item}
use Rattle.kept_evidence.proofs.Orders.{by_item_total}
use Rattle.plain_store.proofs.joining.sort.Goals as goal

on_success : {A E : Type 0} (r : Result A E) (P : Type 0) → OnOk r P → is_err r ≡ false → P
on_success (Ok a) P h e = h
on_success (Err x) P h e = absurd cc

pub returns-then-is_err-clause-sorted : goal.returns-then-is_err-clause-sorted
returns-then-is_err-clause-sorted g c =
    c.sort_unstable_by.ensures.sorted (λ x y. is_lt (by_item x y)) (ranks_by by_item_total (λ a. a)) (always_returns_same _ (λ a r. is_lt r ≡ is_lt (by_item a.0.now a.1.0.now)) _ (λ a r f' k. search rules))

pub returns-else-is_err-clause-sorted : goal.returns-else-is_err-clause-sorted
returns-else-is_err-clause-sorted g c =
    on_success c.sort_by.result _ c.sort_by.ensures.sorted (sym c.is_err.ensures.value ∙ c.if-is_err.false)
    (λ x y. is_lt (by_item x y)) (ranks_by by_item_total (λ a. a)) (always_returns_same _ (λ a r. is_lt r ≡ is_lt (by_item a.0.now a.1.0.now)) _ (λ a r f' k. search rules))
