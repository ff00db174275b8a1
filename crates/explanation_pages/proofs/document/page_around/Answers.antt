use Rattle.std.proofs.Common.{◌∙◌}
use Rattle.explanation_pages.proofs.Listed.{shown}
use Rattle.explanation_pages.proofs.document.page_around.Goals as goal

pub returns-clause-shows : goal.returns-clause-shows
returns-clause-shows c =
    shown c.args.basis.now c.args.summary.now c.as_bytes-2.result.now c.as_bytes.result.now c.in_ok-page.page c.write_front.new.page c.args.middle.now c.append.new.self c.write_index.new.page c.end_page.new.page c.in_ok-text.text.items
    c.args.nodes.now (c.as_bytes.ensures.value ∙ c.in_ok-title.ensures) c.in_ok-page.ensures c.in_ok-write_front.ensures c.in_ok-append.ensures c.in_ok-write_index.ensures c.in_ok-end_page.ensures c.in_ok-text.ensures.exact
