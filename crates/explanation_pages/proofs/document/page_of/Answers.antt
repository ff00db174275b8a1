use Rattle.std.proofs.Common.{List, ℕ, subst}
use Rattle.sentences.specs.declared.explanation.NodeExplanation.{NodeExplanation}
use Rattle.explanation_pages.specs.Shown.{Shows}
use Rattle.explanation_pages.proofs.document.page_of.Goals as goal

pub returns : goal.returns
returns g c =
    let basis = c.args.basis.now in
    let text = c.in_ok-page.page.items in
    let nodes = subst (λ (ns : List NodeExplanation). Shows basis c.as_str-summary.result.now ns text) c.as_slice-nodes.ensures.value c.in_ok-page.ensures.shows in
    record { page = c.in_ok-page.ensures.page; shows = subst (λ (summary : List ℕ). Shows basis summary c.args.explanation.now.nodes.items text) c.as_str-summary.ensures.value nodes }
