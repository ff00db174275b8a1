use Rattle.evidence_set.specs.ItemSets.{set_of}
use Rattle.std.proofs.Common.{◌≡◌, Bool, false, Result, Ok, Err, OnOk, is_err, sym}
use Rattle.evidence_set.proofs.SetLists.{sets_count}
use Rattle.kept_evidence.proofs.Bridge.{set_has}
use Rattle.kept_evidence.proofs.Places.{not_kept}
use Rattle.kept_evidence.proofs.Taken.{is_new, not_new, set_grows, store_grows}
use Rattle.plain_store.proofs.taking.take.Goals as goal

-- what holds of a success holds where there is no error
on_ok : {A E : Type 0} (r : Result A E) (b : Bool) (P : Type 0) → OnOk r P → b ≡ is_err r → b ≡ false → P
on_ok (Ok a) b P holds is h = holds
on_ok (Err e) b P holds is h = absurd (cc (is, h))

pub returns-in_default-clause-told : goal.returns-in_default-clause-told
returns-in_default-clause-told g c = not_new c.args.kept.now.items c.args.checked.item (rw (c.deref.ensures.value, c.item.ensures) at c.in_default.ensures.there)

pub returns-in_default-clause-taken : goal.returns-in_default-clause-taken
returns-in_default-clause-taken g c = sym (sets_count.held (set_of c.args.kept.now.items) c.args.checked.item ((set_has c.args.kept.now.items c.args.checked.item).1 (rw (c.deref.ensures.value, c.item.ensures) at c.in_default.ensures.there)))

pub returns-then-is_err-clause-held : goal.returns-then-is_err-clause-held
returns-then-is_err-clause-held g c = λ has. absurd (not_kept c.args.kept.now.items c.args.checked.item c.in-Err.place (rw (c.deref.ensures.value, c.item.ensures) at c.in-Err.ensures.place) ((set_has c.args.kept.now.items c.args.checked.item).0 has))

pub returns-clause-held : goal.returns-clause-held
returns-clause-held g c = λ has. absurd (not_kept c.args.kept.now.items c.args.checked.item c.in-Err.place (rw (c.deref.ensures.value, c.item.ensures) at c.in-Err.ensures.place) ((set_has c.args.kept.now.items c.args.checked.item).0 has))

pub returns-clause-told : goal.returns-clause-told
returns-clause-told g c = is_new c.args.kept.now.items c.args.checked.item (not_kept c.args.kept.now.items c.args.checked.item c.in-Err.place (rw (c.deref.ensures.value, c.item.ensures) at c.in-Err.ensures.place))

pub returns-clause-store : goal.returns-clause-store
returns-clause-store g c =
    let whole = on_ok c.prepare.result c.is_err.result _ c.prepare.ensures.whole c.is_err.ensures.value c.if-is_err.false in
    let union = on_ok c.prepare.result c.is_err.result _ c.prepare.ensures.held c.is_err.ensures.value c.if-is_err.false in
    let members = rw c.prepare.ensures.kept at c.put.ensures.members in
    store_grows c.args.directory.now g.P.Program.means c.args.kept.now.items c.put.new.kept.items c.prepare.new.checked members whole c.args.held.now c.prepare.new.held c.requires.store c.put.ensures.ascending union

pub returns-clause-taken : goal.returns-clause-taken
returns-clause-taken g c =
    let members = rw c.prepare.ensures.kept at c.put.ensures.members in
    rw (sym c.prepare.ensures.item.0) (set_grows c.args.kept.now.items c.put.new.kept.items c.prepare.new.checked members)
