-- Explanations of nodes, each by its reason.
use Rattle.std.specs.Prelude.{◌≡◌, Bool, List, [], ◌∷◌}
use Rattle.evidence_set.specs.declared.indication.Indication.{Indication}
use Rattle.sentences.specs.declared.explanation.NodeExplanation.{NodeExplanation}
use Rattle.sentences.specs.declared.explanation.Sentence.{Sentence}
use Rattle.explanations.specs.declared.why.NodeWhy.{NodeWhy}
use Rattle.explanations.specs.declared.why.Why.{Why}
use Rattle.explanations.specs.declared.why.Why.TheVariants as why
use Rattle.explanations.specs.Headings.{is_same}
use Rattle.explanations.specs.Leads.{TellsParts}
use Rattle.explanations.specs.Whys.{indication_of, is_unknown, row_of, told_of}

-- A node is of this indication by its reason.
abbrev pub is_row : Indication → NodeWhy → Bool
is_row i row = is_same i (indication_of row.why)

-- The sentences are those of the reason: they begin with what the parts show if the reason has a proof.
abbrev pub TellsWhy : Why → List Sentence → Type 0
TellsWhy (why.Exposed q xs) sentences = TellsParts q.parts sentences
TellsWhy (why.Suspected xs) sentences = Unit {0}
TellsWhy why.Trusted sentences = Unit {0}
TellsWhy why.Unknown sentences = Unit {0}

-- The explanation has the node and the indication of the reason, and its sentences.
pub record IsTold (row : NodeWhy) (n : NodeExplanation) : Type 0 where
  pub same : told_of n ≡ row_of row
  pub says : TellsWhy row.why n.sentences.items
  pub marked : n.has_no_item ≡ is_unknown row.why

-- The explanations are those of the reasons, one for each, in order.
abbrev pub AreTold : List NodeWhy → List NodeExplanation → Type 0
AreTold [] [] = Unit {0}
AreTold [] (n ∷ ns) = ⊥
AreTold (row ∷ rows) [] = ⊥
AreTold (row ∷ rows) (n ∷ ns) = IsTold row n × AreTold rows ns
