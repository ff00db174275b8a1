use Rattle.std.proofs.Common.{◌≡◌, ◌++◌, ℕ, List, ap, arith, length, refl, sym, take, ◌∙◌}
use Rattle.lms_sign.specs.OneTimeSignature.{chain_end}
use Rattle.lms_sign.specs.Parameters.{chain_count}
use Rattle.lms_sign.proofs.SignedTexts.{joined_ends}
use Rattle.lms_sign.proofs.chain_ends.put_chain_ends.Goals as goal

pub returns : goal.returns
returns c =
    let ots = c.args.ots in
    let id = c.args.id.now in
    let q = c.args.q in
    let text = c.args.text.now in
    let ys = c.args.ys.now in
    let end : ℕ → List ℕ = λ i. chain_end ots id q text ys i in
    let n : length c.run_signature.new.chains ≡ chain_count ots = c.run_signature.ensures.len in
    rw n at (c.put_values.ensures end (λ i d lt. c.run_signature.ensures.ends i d (omega (arith, n))))
    ∙ ap (λ (t : List ℕ). take 22 c.args.out.now ++ t) (sym (joined_ends ots id q text ys end (chain_count ots) (λ i lt. refl)))
