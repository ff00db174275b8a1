use Rattle.std.proofs.Common.{◌≡◌, ℕ, List, [], take, slice_index_or, ◌+◌, ◌*◌, sym, ap, arith, ◌∙◌}
use Rattle.std.proofs.lemmas.List.{append-nil}
use Rattle.lms_sign.specs.declared.open_chain.OpenChain.{OpenChain}
use Rattle.lms_sign.specs.Signing.{joined}
use Rattle.lms_sign.proofs.Joined.{row_more}
use Rattle.lms_sign.proofs.open_chain.put_values.Goals as goal

pub loop-i-init : goal.loop-i-init
unfolding joined
loop-i-init c f is =
    let none : c.args.place + 0 ≡ c.args.place = omega arith in
    ap (λ (n : ℕ). take n c.args.out.now) none ∙ sym (append-nil (take c.args.place c.args.out.now))

pub loop-i-preserved : goal.loop-i-preserved
loop-i-preserved c f is =
    let i = c.loop-i.i in
    let none : OpenChain = record { place = []; step = 0; left = 0; value = [] } in
    let hash : List ℕ = (slice_index_or c.args.chains.now i none).value in
    let place = c.args.place + 32 * i in
    row_more (take c.args.place c.args.out.now) f c.args.place i c.loop-i.out c.put_hash.new.text hash (c.loop-i.invariant f is) (is i none c.loop-i-test.true)
    c.put_hash.ensures.len (ap (λ (n : ℕ). take (place + n) c.put_hash.new.text) c.put_hash.ensures.len ∙ c.put_hash.ensures.front)
