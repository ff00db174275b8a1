-- What is told stands under the sum that was computed.
use Rattle.std.proofs.Common.{◌≡◌, List, ℕ, ◌++◌, subst}
use Rattle.sentences.specs.declared.explanation.Explanation.{Explanation}
use Rattle.sentences.specs.Texts.{text_of}
use Rattle.byte_calls.specs.Explanations.{basis_text}

pub written_under : (name sum other text : List ℕ) (e : Explanation) → sum ≡ other → text ≡ basis_text name sum ++ text_of e → text ≡ basis_text name other ++ text_of e
written_under name sum other text e same is = subst (λ (d : List ℕ). text ≡ basis_text name d ++ text_of e) same is
