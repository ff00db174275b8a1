use Rattle.std.proofs.Common.{◌≡◌, ◌∙◌, ◌+◌, drop, length, refl, sym, ap, subst, arith, rules}
use Rattle.std.specs.Vec.Iter.{into_iter_items}
use Rattle.parallel_checking.proofs.Joining.{known_got}
use Rattle.parallel_reading.specs.within.Blocks.{AreCheckedAs}
use Rattle.parallel_reading.proofs.InBlocks.{at_front, checked_to_end, more_checked, next_rest}
use Rattle.parallel_reading.proofs.blocks.check_front.Goals as goal

pub check_known-requires : goal.check_known-requires
check_known-requires g c =
    let items = c.args.items.items in
    let ok = c.loop-item.readings.ok in
    let len = c.len.ensures in
    let k : length c.loop-item.readings.items ≡ c.len.result = omega (arith, ok, len) in
    let front = at_front items c.len.result c.in-Some.item _ (ap (λ n. drop n items) (sym k) ∙ sym c.loop-item.invariant.3 ∙ c.in-Some.ensures.steps.0) in
    known_got c.args.directory.now items c.args.examined.now c.args.examined.now c.len.result c.in-Some.item c.get-known.result c.requires refl c.get-known.ensures.lookup.0 c.get-known.ensures.lookup.1 front.0 (front.1 c.in-Some.item)

pub loop-item-preserved : goal.loop-item-preserved
loop-item-preserved g c =
    let items = c.args.items.items in
    let readings = c.loop-item.readings.items in
    let new = c.push.new.self.items in
    let at = sym c.loop-item.invariant.3 ∙ c.in-Some.ensures.steps.0 in
    let front = at_front items (length readings) c.in-Some.item _ at in
    let more = more_checked c.args.directory.now g.P.Program.means items readings new c.check_known.result c.in-Some.item _ (length readings) refl at c.loop-item.invariant.4 c.check_known.ensures.exact c.check_known.ensures.checked c.in_ok-push.ensures.items in
    let long : length new ≡ length readings + 1 = more.count in
    let low = front.0 in
    (tt, tt, omega (arith, long, low), next_rest items (length readings) (length new) c.in-Some.item _ long at, subst (λ n. AreCheckedAs c.args.directory.now g.P.Program.means n items new) (sym long) more)

pub returns : goal.returns
returns g c =
    let none : length (into_iter_items c.loop-item.item-iterator) ≡ 0 = search rules in
    checked_to_end c.args.directory.now g.P.Program.means c.args.items.items c.loop-item.readings.items _ c.loop-item.invariant.2 c.loop-item.invariant.3 none c.loop-item.invariant.4
