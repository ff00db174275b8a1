-- Programs whose state is coded.
use Rattle.std.specs.Prelude.{ℕ}
use Rattle.replay_verifier.specs.declared.program.Step.{Step}
use Rattle.replay_verifier.specs.Meaning.{Happening, Meaning}
use Rattle.state_codec.specs.Codings.{Coding, whole_of}

-- The program with this start and this step, whose states have this coding.
abbrev pub coded_program : {S : Type 0} → Coding S → (ℕ → S) → (ℕ → S → Happening → Step S) → Meaning S
coded_program c start step = record { start = start; step = step; encode = c.text; decode = whole_of c }
