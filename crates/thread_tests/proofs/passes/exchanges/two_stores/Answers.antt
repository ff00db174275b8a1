use Rattle.std.proofs.Common.{◌≡◌, [], ◌∷◌, All, subst, sym}
use Rattle.std.proofs.lemmas.List.Elements.{All-cons, All-nil}
use Rattle.shared_stores.specs.Shares.{Share}
use Rattle.thread_tests.proofs.passes.exchanges.two_stores.Goals as goal

pub returns : goal.returns
returns g c =
    subst (All (λ (s : Share). s.directory ≡ c.in_ok-directory.directory)) (sym c.in_ok-stores.ensures)
    (All-cons (λ (s : Share). s.directory ≡ c.in_ok-directory.directory) c.in_ok-first.first (c.in_ok-second.second ∷ []) c.in_ok-first.ensures
    (All-cons (λ (s : Share). s.directory ≡ c.in_ok-directory.directory) c.in_ok-second.second [] c.in_ok-second.ensures (All-nil (λ (s : Share). s.directory ≡ c.in_ok-directory.directory))))
