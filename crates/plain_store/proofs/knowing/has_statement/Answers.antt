use Rattle.std.proofs.Common.{◌≤◌, List, [], ◌∷◌, length, refl, sym, arith}
use Rattle.std.proofs.lemmas.Bool.{true≢false}
use Rattle.std.specs.List.{Contains}
use Rattle.authenticators.specs.declared.authenticator.Authenticator.{Authenticator}
use Rattle.kept_evidence.proofs.Members.{first}
use Rattle.plain_store.proofs.knowing.has_statement.Goals as goal

some_held : (held : List Authenticator) → 1 ≤ length held → (a : Authenticator) × Contains held a
some_held [] low = absurd (omega (arith, low))
some_held (a ∷ held) low = (a, first a held)

pub returns-in-empty : goal.returns-in-empty
returns-in-empty c = (
  λ told. absurd (true≢false (sym told)),
  λ found. let has = (c.of_node.ensures.members found.0).1 (found.1, found.2) in absurd (omega (arith, has.1, c.in-empty.len_below)),
)

pub returns-in-len1-up : goal.returns-in-len1-up
returns-in-len1-up c = (
  λ _.
      let some = some_held c.of_node.result.now c.in-len1-up.len_at_least in
      let both = (c.of_node.ensures.members some.0).0 some.1 in
      (some.0, both.0, both.1),
  λ _. refl,
)
