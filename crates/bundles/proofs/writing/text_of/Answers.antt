use Rattle.bundles.proofs.WrittenTexts.{text_steps}
use Rattle.bundles.proofs.writing.text_of.Goals as goal

pub returns : goal.returns
returns c =
    text_steps c.args.bundle.now c.new-text.result.items c.put_head.new.text.items c.put_both.new.text.items c.new-text.ensures.items
    c.in_ok-put_head.ensures c.in_ok-put_both.ensures
