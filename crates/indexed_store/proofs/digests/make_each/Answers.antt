use Rattle.std.proofs.Common.{◌≡◌, ℕ, List, Some, length, ap, subst, sym, arith, ◌∙◌}
use Rattle.std.specs.Prelude.{slice_get}
use Rattle.std.proofs.lemmas.Option.{slice_get-get_or}
use Rattle.evidence_item.specs.Checking.{Checked}
use Rattle.indexed_store.specs.within.Digested.{AreDigests}
use Rattle.indexed_store.proofs.Digested.{one_made}
use Rattle.indexed_store.proofs.digests.make_each.Goals as goal

pub loop-kept-preserved : goal.loop-kept-preserved
loop-kept-preserved g c =
    let items = c.args.items.now in
    let ds = c.loop-kept.made.items in
    let named = c.in-Some.ensures.lookup in
    let n : length ds ≡ c.len.result = omega (arith, c.len.ensures, c.loop-kept.made.ok.0) in
    let at : slice_get items (length ds) ≡ Some c.in-Some.kept.now =
    ap (slice_get items) n ∙ slice_get-get_or items c.len.result c.in-Some.kept.now named.3.0 ∙ ap (λ (k : Checked). Some k) (sym named.1) in
    subst (λ (l : List (List ℕ)). AreDigests l items) (sym c.in-Ok.ensures.items) (one_made ds items c.in-Some.kept.now c.digest.result at c.digest.ensures c.loop-kept.invariant)

pub returns-in_default-push : goal.returns-in_default-push
returns-in_default-push g c = subst (λ (l : List (List ℕ)). AreDigests l c.args.items.now) (sym c.in_default-push.ensures.items) c.loop-kept.invariant
