use Rattle.std.proofs.Common.{◌≡◌, ◌∙◌, ℕ, List, length, map, sym, ap, subst, arith}
use Rattle.std.proofs.lemmas.Grind.{common_steps}
use Rattle.std.specs.List.{filter}
use Rattle.std.specs.List.Sorted.{IsStrictlySortedBy}
use Rattle.std.proofs.lemmas.Simd.{map-map}
use Rattle.item_forms.specs.Pieces.{Piece, by_bytes}
use Rattle.item_forms.specs.Spelling.{spelling}
use Rattle.containers.specs.Container.{container_text}
use Rattle.evidence.specs.Exports.{export_of, magic}
use Rattle.evidence_set.specs.ItemSets.{count}
use Rattle.shards.specs.Parts.{Parted, is_dealt, part}
use Rattle.shards.specs.within.Deals.{Deal, goes_to}
use Rattle.shards.proofs.Deals.{lent_are}
use Rattle.shards.proofs.Listed.{part_counted, part_written}
use Rattle.shards.proofs.parting.Parting.part.Goals as goal

pub returns-clause-text : goal.returns-clause-text
returns-clause-text c =
    let spell : Piece → List ℕ = λ x. spelling x.fields in
    let dealing = c.self.inside.dealing in
    let keep = is_dealt dealing c.args.k in
    let xs : List Piece = map (λ d. d.item.now) c.self.inside.dealt.items in
    let deals : List Deal = map (λ d. (d.item.now, d.parts.items)) c.self.inside.dealt.items in
    let lent : List Piece = map (λ l. l.item.now) c.in_ok-lent.lent.items in
    let same : map (λ (d : Deal). d.0) deals ≡ xs = map-map (λ (d : Deal). d.0) (λ d. (d.item.now, d.parts.items)) c.self.inside.dealt.items in
    let sorted : IsStrictlySortedBy by_bytes xs = subst (IsStrictlySortedBy by_bytes) same c.self.invariant.ascending in
    let those : lent ≡ map (λ (d : Deal). d.0) (filter (goes_to c.args.k) deals) =
    c.in_ok-lent.ensures ∙ ap (λ ds. map (λ (d : Deal). d.0) (filter (goes_to c.args.k) (map (λ d. (d.item.now, d.parts.items)) ds))) c.deref.ensures.value in
    let kept : lent ≡ filter keep xs = lent_are dealing c.args.k deals xs lent c.self.invariant same those in
    let written = part_written c.sets_are_lists.ensures keep xs lent sorted kept in
    subst (λ (p : Parted). c.in_ok-text.text.items ≡ export_of (part p c.args.k)) c.self.view_is
    (c.in_ok-text.ensures
    ∙ ap (λ (ts : List (List ℕ)). container_text magic ts) (ap (map (λ l. spell l.item.now)) c.as_slice.ensures.value ∙ sym (map-map spell (λ l. l.item.now) c.in_ok-lent.lent.items))
    ∙ written)

pub returns-clause-counted : goal.returns-clause-counted
returns-clause-counted c =
    let dealing = c.self.inside.dealing in
    let keep = is_dealt dealing c.args.k in
    let xs : List Piece = map (λ d. d.item.now) c.self.inside.dealt.items in
    let deals : List Deal = map (λ d. (d.item.now, d.parts.items)) c.self.inside.dealt.items in
    let lent : List Piece = map (λ l. l.item.now) c.in_ok-lent.lent.items in
    let same : map (λ (d : Deal). d.0) deals ≡ xs = map-map (λ (d : Deal). d.0) (λ d. (d.item.now, d.parts.items)) c.self.inside.dealt.items in
    let sorted : IsStrictlySortedBy by_bytes xs = subst (IsStrictlySortedBy by_bytes) same c.self.invariant.ascending in
    let those : lent ≡ map (λ (d : Deal). d.0) (filter (goes_to c.args.k) deals) =
    c.in_ok-lent.ensures ∙ ap (λ ds. map (λ (d : Deal). d.0) (filter (goes_to c.args.k) (map (λ d. (d.item.now, d.parts.items)) ds))) c.deref.ensures.value in
    let kept : lent ≡ filter keep xs = lent_are dealing c.args.k deals xs lent c.self.invariant same those in
    let counted = part_counted c.sets_are_lists.ensures keep xs lent sorted kept in
    let long : c.len.result ≡ length lent = grind (arith, common_steps, c.len.ensures, c.in_ok-lent.lent.ok) in
    subst (λ (p : Parted). c.len.result ≡ count (part p c.args.k)) c.self.view_is (long ∙ counted)
