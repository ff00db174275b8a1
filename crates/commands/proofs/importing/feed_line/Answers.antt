use Rattle.std.proofs.Common.{rules, ◌≡◌, ◌∙◌, ◌%◌, ◌-◌, ◌≤◌, [], ◌++◌, List, ℕ, Ok, ap, append-nil, arith, drop, length, min, subst, sym, take}
use Rattle.std.proofs.lemmas.List.{length-drop}
use Rattle.std.proofs.lemmas.Result.{err_from_is_err_and}
use Rattle.containers.specs.Refusals.{Refuses}
use Rattle.evidence.specs.Importing.{import_set}
use Rattle.commands.specs.within.Feeding.{IsFedUpTo}
use Rattle.commands.proofs.Fed.{even_left, fed_all, fed_part, part_refused, piece_spells, spelled, spells}
use Rattle.commands.proofs.Strides.{cut_front, even_stride, rest_is}
use Rattle.commands.proofs.importing.feed_line.Goals as goal

-- so many digits are left
fits : (xs now : List ℕ) (count left : ℕ) → count ≤ length xs → left ≤ count → now ≡ drop (count - left) xs → left ≤ length now
fits xs now count left few more is =
    let long : length now ≡ length xs - (count - left) = ap length is ∙ length-drop (count - left) xs in
    omega (arith, long, few, more)

-- the stride that is lent, and what is left behind it
cuts : (now lent : List ℕ) (left stride : ℕ) → lent ≡ now → stride ≤ left → take stride lent ++ take (left - stride) (drop stride now) ≡ take left now
cuts now lent left stride is within = ap (λ (l : List ℕ). take stride l ++ take (left - stride) (drop stride now)) is ∙ cut_front now left stride within

even : (now lent : List ℕ) (left stride : ℕ) → lent ≡ now → left ≤ length now → stride ≡ min left 4194304 → length (take left now) % 2 ≡ 0 → length (take stride lent) % 2 ≡ 0
even now lent left stride is has most all = ap (λ (l : List ℕ). length (take stride l) % 2) is ∙ even_stride now left stride has most all

pub feed_digits-requires : goal.feed_digits-requires
feed_digits-requires g c =
    let (text, h) = spelled _ c.requires.hex in
    let is = c.loop-left.invariant.fed text h in
    let now = c.loop-left.lines in
    let within : c.min-stride.result ≤ c.loop-left.left = omega (arith, c.min-stride.ensures) in
    let has = fits c.args.lines.now now c.args.count c.loop-left.left (search rules) c.loop-left.invariant.few c.loop-left.invariant.rest in
    record {
      hex = spells _ _ (piece_spells _ _ _ _ is _ _ (cuts now c.rest.result.now c.loop-left.left c.min-stride.result c.rest.ensures within)
          (even now c.rest.result.now c.loop-left.left c.min-stride.result c.rest.ensures has c.min-stride.ensures (even_left _ _ _ _ is)));
    }

pub returns-in_err-feed_digits-clause-refused : goal.returns-in_err-feed_digits-clause-refused
returns-in_err-feed_digits-clause-refused g c text h =
    let p = err_from_is_err_and c.from_residual.result c.from_residual.ensures.1 in
    let is = c.loop-left.invariant.fed text h in
    let now = c.loop-left.lines in
    let within : c.min-stride.result ≤ c.loop-left.left = omega (arith, c.min-stride.ensures) in
    let has = fits c.args.lines.now now c.args.count c.loop-left.left (search rules) c.loop-left.invariant.few c.loop-left.invariant.rest in
    let split = cuts now c.rest.result.now c.loop-left.left c.min-stride.result c.rest.ensures within in
    let twos = even now c.rest.result.now c.loop-left.left c.min-stride.result c.rest.ensures has c.min-stride.ensures (even_left _ _ _ _ is) in
    let f = c.in_err-feed_digits.field-0.0 in
    let refuses = λ (before : List ℕ) (after : List ℕ) (begun : c.loop-left.importer.fed ≡ Ok before). c.in_err-feed_digits.ensures.refused _ before after (piece_spells _ _ _ _ is _ _ split twos) begun in
    let told = part_refused _ _ _ _ is _ _ split twos c.loop-left.importer.directory f [] [] c.requires.begun refuses in
    rw (p.1, p.2) (subst (λ ds. Refuses f (import_set ds text)) c.loop-left.invariant.directory (subst (λ (l : List ℕ). Refuses f (import_set c.loop-left.importer.directory l)) (append-nil text) told))

pub loop-left-preserved : goal.loop-left-preserved
loop-left-preserved g c =
    let within : c.min-stride.result ≤ c.loop-left.left = omega (arith, c.min-stride.ensures) in
    record {
      directory = c.in_ok-feed_digits.ensures.directory ∙ c.loop-left.invariant.directory;
      few = omega (arith, within, c.loop-left.invariant.few);
      rest = c.skip.ensures ∙ rest_is c.args.lines.now c.loop-left.lines c.args.count c.loop-left.left c.min-stride.result c.loop-left.invariant.few within c.loop-left.invariant.rest;
      fed = λ text h.
          let is = c.loop-left.invariant.fed text h in
          let now = c.loop-left.lines in
          let has = fits c.args.lines.now now c.args.count c.loop-left.left (search rules) c.loop-left.invariant.few c.loop-left.invariant.rest in
          let split = cuts now c.rest.result.now c.loop-left.left c.min-stride.result c.rest.ensures within in
          let twos = even now c.rest.result.now c.loop-left.left c.min-stride.result c.rest.ensures has c.min-stride.ensures (even_left _ _ _ _ is) in
          let more = λ (done : List ℕ) (begun : c.loop-left.importer.fed ≡ Ok done). c.in_ok-feed_digits.ensures.fed _ done (piece_spells _ _ _ _ is _ _ split twos) begun in
          subst (λ (l : List ℕ). IsFedUpTo c.args.importer.now.fed c.feed_digits.new.importer.fed (take (c.loop-left.left - c.min-stride.result) l) text) (sym c.skip.ensures) (fed_part _ _ _ _ is _ _ split twos c.feed_digits.new.importer.fed more);
    }

pub returns-clause-fed : goal.returns-clause-fed
returns-clause-fed g c text h =
    let all : c.loop-left.left ≡ 0 = search rules in
    let none : take c.loop-left.left c.loop-left.lines ≡ [] = ap (λ (n : ℕ). take n c.loop-left.lines) all in
    fed_all _ _ _ text none (c.loop-left.invariant.fed text h) [] c.requires.begun
