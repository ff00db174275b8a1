use Rattle.std.proofs.Common.{Some, refl, sym, ap, ◌≡◌, ◌∙◌}
use Rattle.std.specs.Prelude.{slice_get}
use Rattle.std.proofs.lemmas.Option.{slice_get-get_or, slice_get_past}
use Rattle.kept_entries.specs.Shared.{SharedEntry}
use Rattle.kept_items.specs.declared.link.Link.{Link}
use Rattle.kept_items.specs.within.Parts.{before}
use Rattle.kept_items.proofs.Linked.{linked, unlinked}
use Rattle.kept_items.proofs.link.link_at.Goals as goal

pub returns-in-None : goal.returns-in-None
returns-in-None c = sym (unlinked c.args.prev c.args.handles.now c.args.place (slice_get_past c.args.handles.now c.args.place c.in-None.ensures.lookup.3))

pub returns-in-Some : goal.returns-in-Some
returns-in-Some c =
    let x = c.in-Some.handle.now in
    let named = c.in-Some.ensures.lookup in
    let here : slice_get c.args.handles.now c.args.place ≡ Some x = slice_get-get_or c.args.handles.now c.args.place x named.3.0 ∙ ap (λ (y : SharedEntry). Some y) (sym named.1) in
    let hash = c.hash.ensures ∙ ap (λ (y : SharedEntry). y.hash) c.get-in-Some-2.ensures in
    let seq = c.seq.ensures ∙ ap (λ (y : SharedEntry). y.entry.seq) c.get-in-Some.ensures in
    (λ i. Some (record { prev = c.hash_before.ensures i; seq = seq i; hash = hash i }))
    ∙ sym (linked c.args.prev c.args.handles.now c.args.place x c.requires here)
