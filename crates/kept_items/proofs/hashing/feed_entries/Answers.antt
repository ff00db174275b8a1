use Rattle.std.proofs.Common.{ℕ, List, length, refl, subst}
use Rattle.item_digests.specs.Feeding.{Feeds}
use Rattle.kept_items.proofs.Fed.{both_fed}
use Rattle.kept_items.proofs.Spelled.{all_fit, counted}
use Rattle.kept_items.proofs.hashing.feed_entries.Goals as goal

pub feed_each-requires : goal.feed_each-requires
feed_each-requires c = all_fit c.args.handles.now c.requires.each

pub returns : goal.returns
returns c = subst (λ (t : List ℕ). Feeds c.args.hasher.now c.feed_each.new.hasher t) (counted c.args.handles.now (length c.args.handles.now) refl) (both_fed _ _ _ _ _ c.feed_u32.ensures c.feed_each.ensures)
