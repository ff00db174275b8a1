use Rattle.std.proofs.Common.{◌∷◌, [], refl, sym, ap, ◌∙◌}
use Rattle.item_forms.specs.declared.forms.Fields.{Fields}
use Rattle.indexed_store.proofs.convicting.of_segment.Goals as goal

pub returns-in_default : goal.returns-in_default
returns-in_default g c = λ k at segment. absurd (rw c.in_default.is at c.in_ok-found.ensures.none k at segment)

pub proof_of_segment-requires : goal.proof_of_segment-requires
proof_of_segment-requires g c = (rw c.in-Some.is at c.in_ok-found.ensures.some).0

pub returns : goal.returns
returns g c = λ k at segment. (c.in_ok-proof.proof, refl, c.in_ok-proof.ensures ∙ ap (λ (x : Fields). x ∷ []) (sym ((rw c.in-Some.is at c.in_ok-found.ensures.some).1 k at)))
