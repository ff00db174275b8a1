use Rattle.std.proofs.Common.{◌≡◌, ◌++◌, ◌∷◌, [], Option, Some, true, ap, map, subst, sym, ◌∙◌}
use Rattle.std.specs.Prelude.{slice_get}
use Rattle.std.proofs.lemmas.List.{map_push}
use Rattle.std.proofs.lemmas.Option.{same_Some, slice_get-get_or, slice_get_past}
use Rattle.item_forms.specs.Pieces.{Piece}
use Rattle.evidence_item.specs.Checking.{Checked}
use Rattle.evidence_set.specs.Challenges.{is_against}
use Rattle.node_tables.specs.Places.{named_item}
use Rattle.indexed_store.proofs.Listed.{is_asked}
use Rattle.indexed_store.proofs.challenges.lend.Goals as goal

pub returns-in_default : goal.returns-in_default
returns-in_default g c = absurd (cc (slice_get_past c.args.items.now c.args.place c.in_default.ensures.lookup.3, c.requires.1))

pub returns-in_default-as_challenge : goal.returns-in_default-as_challenge
returns-in_default-as_challenge g c =
    let kept = c.in-Some.kept.now in
    let named = c.in-Some.ensures.lookup in
    let at : slice_get c.args.items.now c.args.place ≡ Some kept = slice_get-get_or c.args.items.now c.args.place kept named.3.0 ∙ ap (λ (x : Checked). Some x) (sym named.1) in
    let (k, there, against) = c.requires in
    let same : k ≡ kept = same_Some k kept (sym there ∙ at) in
    absurd (is_asked c.args.node kept.item.fields (subst (λ (x : Checked). is_against c.args.node x.item.fields ≡ true) same against) c.in_default-as_challenge.ensures.none)

pub returns-in_ok-push : goal.returns-in_ok-push
returns-in_ok-push g c =
    let before = map (λ i. i.now) c.args.found.now.items in
    let kept = c.in-Some.kept.now in
    let named = c.in-Some.ensures.lookup in
    ap (map (λ i. i.now)) c.in_ok-push.ensures.items
    ∙ map_push (λ i. i.now) c.args.found.now.items _
    ∙ ap (λ (x : Piece). before ++ x ∷ []) c.in-Some-as_challenge.ensures.some.0
    ∙ sym (ap (λ (o : Option Checked). before ++ named_item o) (slice_get-get_or c.args.items.now c.args.place kept named.3.0 ∙ ap (λ (x : Checked). Some x) (sym named.1)))
