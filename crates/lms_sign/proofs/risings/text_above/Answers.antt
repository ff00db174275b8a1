use Rattle.std.proofs.Common.{◌∙◌}
use Rattle.lms_sign.proofs.SideBySide.{left_above, right_above}
use Rattle.lms_sign.proofs.risings.text_above.Goals as goal

pub returns-then-node-eq1-clause-hash : goal.returns-then-node-eq1-clause-hash
returns-then-node-eq1-clause-hash c =
    c.node_text.ensures.hash
    ∙ right_above c.args.signed.now c.args.k c.from.result c.node_of.result _ _ c.node_of.ensures.value c.if-node-eq1.true (c.from.ensures ∙ c.chain_count.ensures) c.hash_at-sibling.ensures.value c.requires.hash

pub returns-else-node-eq1-clause-hash : goal.returns-else-node-eq1-clause-hash
returns-else-node-eq1-clause-hash c =
    c.node_text-else-node-eq1.ensures.hash
    ∙ left_above c.args.signed.now c.args.k c.from.result c.node_of.result _ _ c.node_of.ensures.value c.if-node-eq1.false (c.from.ensures ∙ c.chain_count.ensures) c.hash_at-sibling.ensures.value c.requires.hash
