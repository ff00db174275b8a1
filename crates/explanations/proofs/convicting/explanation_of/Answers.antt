use Rattle.std.proofs.Common.{◌∙◌, ap, refl}
use Rattle.std.specs.Prelude.{map}
use Rattle.explanations.specs.Headings.{proof_words}
use Rattle.explanations.specs.Whys.{told_of}
use Rattle.explanations.proofs.Rows.{one_node, one_unmarked}
use Rattle.explanations.proofs.convicting.explanation_of.Goals as goal

pub returns : goal.returns
returns g c = record {
  headed = c.in_ok-heading.ensures ∙ ap (proof_words c.args.node) c.parts.ensures.parts;
  told = ap (map told_of) c.in_ok-nodes.ensures;
  grounded = one_node c.args.proof.now.parts _ c.in_ok-nodes.nodes.items c.in_ok-nodes.ensures c.in_ok-sentences.ensures;
  unmarked = one_unmarked _ c.in_ok-nodes.nodes.items c.in_ok-nodes.ensures refl;
}
