-- What is said of a program by its name, where the name is one of the table.
use Rattle.std.proofs.Common.{◌≡◌, ℕ, List, sym, subst}
use Rattle.bulwynef.specs.Programs.{spelling_of}
use Rattle.bulwynef.specs.declared.programs.ProgramName.{ProgramName}

-- what holds of a row of the table and of the row's spelling holds of the name and of how it is spelled
pub of_row : (Q : ProgramName → List ℕ → Type 0) (name row : ProgramName) (spelling : List ℕ) → name ≡ row → spelling ≡ spelling_of name → Q row spelling → Q name (spelling_of name)
of_row Q name row spelling is spelled h = subst (λ (n : ProgramName). Q n (spelling_of name)) (sym is) (subst (λ (t : List ℕ). Q row t) spelled h)
