use Rattle.std.proofs.Common.{◌≡◌, ◌∙◌, ℕ, List, map, ap, sym, subst}
use Rattle.sha2.specs.Sha256.{sha256}
use Rattle.std.specs.List.{All}
use Rattle.log_chain.specs.Fields.{IsBytesOf}
use Rattle.transfer.specs.Digests.{AreDigests, buckets, in_bucket, in_order, joined}
use Rattle.transfer.proofs.MadeOf.{are_digests}
use Rattle.transfer.proofs.Ordered.{is_in_order}
use Rattle.transfer.proofs.calls.own_buckets.Goals as goal

pub digests_of_buckets-requires : goal.digests_of_buckets-requires
digests_of_buckets-requires c =
    subst AreDigests (sym c.deref.ensures.value)
    (are_digests c.in_ok-copy.copy.items c.ascending.result.items (subst (All (IsBytesOf 32)) (sym c.in_ok-copy.ensures.items) c.requires) c.ascending.ensures.ascending c.ascending.ensures.members)

pub returns : goal.returns
returns c = λ some.
    let ordered : c.deref.result.now ≡ in_order c.args.digests.now = c.deref.ensures.value ∙ is_in_order c.in_ok-copy.copy.items c.ascending.result.items c.ascending.ensures.ascending c.ascending.ensures.members ∙ ap in_order c.in_ok-copy.ensures.items in
    c.in_ok-own.ensures.each ∙ ap (λ (ds : List (List ℕ)). map (λ b. sha256 (joined (in_bucket b ds))) buckets) ordered
