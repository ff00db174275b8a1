use Rattle.std.proofs.Common.{◌∙◌, map, sym, ap}
use Rattle.std.proofs.lemmas.Simd.{map-map}
use Rattle.shards.specs.within.Deals.{Deal}
use Rattle.shards.proofs.Deals.{are_dealt, items_of, parted}
use Rattle.shards.proofs.parting.Parting.new.Goals as goal

pub invariant_of-result : goal.invariant_of-result
invariant_of-result c = are_dealt c.args.dealing _ c.args.items.now c.in_ok-dealt.ensures c.requires.ascending

pub returns-clause-parted : goal.returns-clause-parted
returns-clause-parted c =
    ap (parted c.args.dealing)
    (sym (map-map (λ (d : Deal). d.0) (λ d. (d.item.now, d.parts.items)) c.in_ok-dealt.dealt.items) ∙ ap (map (λ (d : Deal). d.0)) c.in_ok-dealt.ensures ∙ items_of c.args.dealing c.args.items.now)
