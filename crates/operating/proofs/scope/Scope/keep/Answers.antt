use Rattle.std.proofs.Common.{rules}
use Rattle.std.proofs.lemmas.Map.Made.{filter_same_pairs}
use Rattle.operating.specs.Questions.{is_asked}
use Rattle.operating.proofs.scope.Scope.keep.Goals as goal

pub returns : goal.returns
returns c = filter_same_pairs _ (λ row. is_asked c.args.self.now row.0) _ (λ k v b w f' t. search rules) _ _ c.retain.ensures.filtered
