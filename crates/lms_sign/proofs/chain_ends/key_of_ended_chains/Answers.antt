use Rattle.std.proofs.Common.{◌≡◌, ◌+◌, ◌<◌, ℕ, [], slice_index_or, arith, ◌∙◌}
use Rattle.lms_sign.specs.declared.open_chain.OpenChain.{OpenChain}
use Rattle.lms_sign.specs.Parameters.{chain_count}
use Rattle.lms_sign.proofs.chain_ends.key_of_ended_chains.Goals as goal

pub returns : goal.returns
returns c end is =
    let none : OpenChain = record { place = []; step = 0; left = 0; value = [] } in
    let each : (i : ℕ) → i < chain_count c.args.ots → slice_index_or c.write_values.new.values (0 + i) [] ≡ end i = λ i lt.
    let at : 0 + i ≡ i = omega arith in
    rw at (c.write_values.ensures.each i none (omega (arith, c.requires)) ∙ is i none lt) in
    c.key_of_ends.ensures end each
