use Rattle.std.proofs.Common.{◌++◌, List, ℕ, ap, ◌∙◌}
use Rattle.page_text.proofs.Whole.{joined_at}
use Rattle.page_text.proofs.page.Page.append.Goals as goal

pub invariant_of-self-2 : goal.invariant_of-self-2
invariant_of-self-2 c = λ next stands.
    joined_at c.self.inside.has_head c.part.inside.has_head c.self.inside.place c.part.inside.place c.self.inside.bytes.items c.part.inside.bytes.items
    c.extend_from_slice.new.self.items next c.self.invariant c.part.invariant
    (c.in_ok-extend_from_slice.ensures.items ∙ ap (λ (t : List ℕ). c.self.inside.bytes.items ++ t) c.deref.ensures.value) (c.joint_of-place.ensures next stands)
