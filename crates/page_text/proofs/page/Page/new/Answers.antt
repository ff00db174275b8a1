use Rattle.std.proofs.Common.{true}
use Rattle.page_text.proofs.Whole.{begun_at}
use Rattle.page_text.proofs.page.Page.new.Goals as goal

pub invariant_of-result : goal.invariant_of-result
invariant_of-result c = λ place e. begun_at true c.in_ok-bytes.bytes.items place e (c.args.title.now, c.args.style.now, c.in_ok-bytes.ensures)
