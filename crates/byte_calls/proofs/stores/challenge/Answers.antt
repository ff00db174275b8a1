use Rattle.std.proofs.Common.{◌≡◌, None, Some, inr, length, refl, slice_get, subst}
use Rattle.std.proofs.lemmas.Option.{slice_get_past, slice_get_read}
use Rattle.byte_calls.proofs.Unanswered.{found_at, found_past}
use Rattle.byte_calls.proofs.stores.challenge.Goals as goal

pub returns-in-Some-clause-text : goal.returns-in-Some-clause-text
returns-in-Some-clause-text g c = found_at c.in_ok-found.found.items c.in-Some.item.now (λ i. i.now) (g.S.Evidence.contents c.args.store.now) c.args.node c.args.place c.in_ok-text-in-Some.text.items c.in_ok-found.ensures.all (subst (λ xs. slice_get xs c.args.place ≡ Some c.in-Some.item.now) c.deref.ensures.value (slice_get_read c.deref.result.now (length c.deref.result.now) c.args.place c.in-Some.item.now refl c.in-Some.ensures.lookup.3.0 c.in-Some.ensures.lookup.1)) c.in_ok-text-in-Some.ensures

pub returns-clause-refused : goal.returns-clause-refused
returns-clause-refused g c = inr (inr (refl, c.in_ok-found.ensures.listed, found_past c.in_ok-found.found.items (λ i. i.now) (g.S.Evidence.contents c.args.store.now) c.args.node c.args.place c.in_ok-found.ensures.all (subst (λ xs. slice_get xs c.args.place ≡ None) c.deref.ensures.value (slice_get_past c.deref.result.now c.args.place c.in-None.ensures.lookup.3))))
