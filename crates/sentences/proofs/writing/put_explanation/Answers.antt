use Rattle.std.proofs.Common.{rules, ◌≡◌, subst}
use Rattle.std.specs.List.{flat_map}
use Rattle.sentences.specs.Texts.{margin, node_text, row_line}
use Rattle.sentences.proofs.Margins.{all_told}
use Rattle.sentences.proofs.writing.put_explanation.Goals as goal

pub returns-clause-report : goal.returns-clause-report
returns-clause-report c =
    let same : c.as_slice-nodes.result.now ≡ c.args.explanation.now.nodes.items = search rules in
    subst (λ nodes. margin (flat_map node_text nodes) ≡ flat_map row_line nodes) same (all_told c.as_slice-nodes.result.now c.have_numbers.ensures)
