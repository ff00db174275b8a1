use Rattle.std.proofs.Common.{◌⊎◌, inl, inr}
use Rattle.kept_evidence.proofs.Bridge.{is_held}
use Rattle.plain_store.proofs.knowing.knows.Goals as goal

second : {A B C : Type 0} → A ⊎ B → (A → ⊥) → (B → C) → C
second (inl a) never so = absurd (never a)
second (inr b) never so = so b

pub returns-then-has_statement : goal.returns-then-has_statement
returns-then-has_statement g c = (
  λ told.
      let found = c.has_statement.ensures.0 told in
      inl (found.0, (is_held c.args.directory.now c.args.kept.now c.args.held.now c.args.node found.0 c.requires.statements).1 (found.1, found.2)),
  λ _. c.if-has_statement.true,
)

pub returns-else-has_statement : goal.returns-else-has_statement
returns-else-has_statement g c =
    let told_by = c.known_as_expected.ensures.open_challenges c.args.directory.now _ c.args.node in (
      λ told. told_by.1 (inr (c.is_suspected.ensures.0 told)),
      λ known.
          second (told_by.0 known)
          (λ held.
          let stands = (is_held c.args.directory.now c.args.kept.now c.args.held.now c.args.node held.0 c.requires.statements).0 held.1 in
          let told = c.has_statement.ensures.1 (held.0, stands.0, stands.1) in
          absurd (cc (told, c.if-has_statement.false)))
          c.is_suspected.ensures.1,
    )
