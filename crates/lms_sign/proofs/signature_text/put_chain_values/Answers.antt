use Rattle.std.proofs.Common.{◌≡◌, ◌<◌, List, ℕ, [], length, slice_index_or, arith, ap, ◌∙◌}
use Rattle.lms_sign.specs.Parameters.{width, chain_count}
use Rattle.lms_sign.specs.Numbers.{coef}
use Rattle.lms_sign.specs.Signing.{chain_at}
use Rattle.lms_sign.proofs.SeedChains.{of_first_leaf}
use Rattle.lms_sign.proofs.signature_text.put_chain_values.Goals as goal

pub returns : goal.returns
returns c =
    let count : length c.write_chain_values.new.values ≡ chain_count c.args.keys.now.ots_type = omega (arith, c.write_chain_values.ensures.len) in
    let f : ℕ → List ℕ = λ i. chain_at c.args.keys.now.id c.args.keys.now.seed c.args.q i (coef c.args.text.now i (width c.args.keys.now.ots_type)) in
    let is : (i : ℕ) → i < length c.write_chain_values.new.values → slice_index_or c.write_chain_values.new.values i [] ≡ f i = λ i lt.
    let low : i < chain_count c.args.keys.now.ots_type = omega (arith, count, lt) in
    of_first_leaf c.args.keys.now.id c.args.keys.now.seed c.args.q i (chain_count c.args.keys.now.ots_type) c.write_steps.new.steps c.write_chain_values.new.values (c.write_chain_values.ensures.each 0 i (omega arith) low)
    ∙ ap (chain_at c.args.keys.now.id c.args.keys.now.seed c.args.q i) (c.write_steps.ensures.each i low) in
    rw count at (c.put_hashes.ensures f is)
