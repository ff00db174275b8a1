use Rattle.std.proofs.Common.{◌≡◌, ◌∙◌, ◌%◌, [], ◌++◌, List, ℕ, ap, arith, drop, length, min, subst, sym, take, take-append-drop}
use Rattle.std.proofs.lemmas.List.{length-take}
use Rattle.std.proofs.lemmas.Bool.{eqb-true}
use Rattle.std.proofs.lemmas.Result.{err_from_is_err_and}
use Rattle.containers.specs.Refusals.{Refuses}
use Rattle.evidence.specs.Importing.{import_set}
use Rattle.commands.proofs.Fed.{even_left, fed_all, fed_part, none_left, part_refused, piece_fed, piece_refused, piece_spells, spelled, spells}
use Rattle.commands.proofs.importing.feed_digits.Goals as goal

split : (n : ℕ) (rest piece left : List ℕ) → piece ≡ take n rest → left ≡ drop n rest → piece ++ left ≡ rest
split n rest piece left front back = ap (λ (t : List ℕ). t ++ left) front ∙ ap (λ (t : List ℕ). take n rest ++ t) back ∙ take-append-drop n rest

-- a piece of an even number of digits, or all of them
even_piece : (n : ℕ) (rest piece : List ℕ) → piece ≡ take n rest → n ≡ min (length rest) 8192 → length rest % 2 ≡ 0 → length piece % 2 ≡ 0
even_piece n rest piece front is even =
    let long : length piece ≡ min n (length rest) = ap length front ∙ length-take n rest in
    omega (arith, long, is, even)

pub feed_piece-requires-clause-hex : goal.feed_piece-requires-clause-hex
feed_piece-requires-clause-hex g c =
    let (bytes, h) = spelled _ c.requires.hex in
    let is = c.loop-rest.invariant.1 bytes h in
    let cuts = split _ c.loop-rest.rest.now c.split_at.result.0.now c.split_at.result.1.now c.split_at.ensures.front c.split_at.ensures.back in
    let even = even_piece _ c.loop-rest.rest.now c.split_at.result.0.now c.split_at.ensures.front c.min.ensures (even_left _ _ _ _ is) in
    spells _ _ (piece_spells _ _ _ _ is _ _ cuts even)

pub returns-in_err-feed_piece-clause-refused : goal.returns-in_err-feed_piece-clause-refused
returns-in_err-feed_piece-clause-refused g c bytes done after h begun =
    let p = err_from_is_err_and c.from_residual.result c.from_residual.ensures.1 in
    let is = c.loop-rest.invariant.1 bytes h in
    let cuts = split _ c.loop-rest.rest.now c.split_at.result.0.now c.split_at.result.1.now c.split_at.ensures.front c.split_at.ensures.back in
    let even = even_piece _ c.loop-rest.rest.now c.split_at.result.0.now c.split_at.ensures.front c.min.ensures (even_left _ _ _ _ is) in
    let f = c.in_err-feed_piece.field-0.0 in
    let feeds = c.in_err-feed_piece.ensures.fed _ (piece_spells _ _ _ _ is _ _ cuts even) in
    let refuses = piece_refused c.refused_pieces_stay.ensures c.loop-rest.importer.directory c.loop-rest.importer.fed f _ feeds.1 in
    rw (p.1, p.2) (subst (λ ds. Refuses f (import_set ds ((done ++ bytes) ++ after))) c.loop-rest.invariant.0 (part_refused _ _ _ _ is _ _ cuts even c.loop-rest.importer.directory f done after begun refuses))

pub loop-rest-preserved : goal.loop-rest-preserved
loop-rest-preserved g c = (
  c.in_ok-feed_piece.ensures.directory ∙ c.loop-rest.invariant.0,
  λ bytes h.
      let is = c.loop-rest.invariant.1 bytes h in
      let cuts = split _ c.loop-rest.rest.now c.split_at.result.0.now c.split_at.result.1.now c.split_at.ensures.front c.split_at.ensures.back in
      let even = even_piece _ c.loop-rest.rest.now c.split_at.result.0.now c.split_at.ensures.front c.min.ensures (even_left _ _ _ _ is) in
      let feeds = c.in_ok-feed_piece.ensures.fed _ (piece_spells _ _ _ _ is _ _ cuts even) in
      fed_part _ _ _ _ is _ _ cuts even c.feed_piece.new.importer.fed (piece_fed c.loop-rest.importer.directory c.loop-rest.importer.fed c.feed_piece.new.importer.fed feeds.0 _ feeds.1 feeds.2),
)

pub returns-clause-fed : goal.returns-clause-fed
returns-clause-fed g c bytes done h begun =
    let none : c.loop-rest.rest.now ≡ [] = none_left c.loop-rest.rest.now (eqb-true _ _ (sym c.is_empty.ensures ∙ c.loop-rest-test.false)) in
    fed_all _ _ _ bytes none (c.loop-rest.invariant.1 bytes h) done begun
