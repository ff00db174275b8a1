-- What is said of a bundle, in either style, and how the program ends.
use Rattle.std.specs.Prelude.{ℕ, ◌≡◌, Bool, true, false, List, Option, Some, None}
use Rattle.answers.specs.declared.style.Style.{Style}
use Rattle.answers.specs.declared.style.Style.TheVariants as style
use Rattle.replay_verifier.specs.Meaning.{Meaning}
use Rattle.bundles.specs.Spelling.{Contents}
use Rattle.bundling.specs.Judging.{IsJudged}
use Rattle.bundling.specs.JudgingJson.{IsJudgedInJson}
use Rattle.operating.specs.declared.asking.Ending.TheVariants as ending
use Rattle.bulwynef.specs.declared.ending.Done.{Done}
use Rattle.bulwynef.specs.declared.ending.Done.TheVariants as done
use Rattle.bulwynef.specs.declared.programs.ProgramName.{ProgramName}
use Rattle.bulwynef.specs.Programs.{spelling_of}

-- The text says, in this style, whom the bundle's proof convicts under the directory and the program of this name, and in what the bundle
-- has another one. The flag says whether both are the bundle's own.
abbrev pub Judged : {S : Type 0} → Style → Meaning S → List ℕ → List ℕ → Contents → List ℕ → Bool → Type 0
Judged style.Lines program name directory b text agrees = IsJudged program name directory b text agrees
Judged style.Json program name directory b text agrees = IsJudgedInJson program name directory b text agrees

-- The program by which a bundle is judged: the one that was named, or else the one that the bundle names by its spelling.
abbrev pub IsNamed : Option ProgramName → List ℕ → ProgramName → Type 0
IsNamed (Some named) spelling name = name ≡ named
IsNamed None spelling name = spelling_of name ≡ spelling

-- How `check` ends. If the bundle has another program or directory, it ends in a way of its own.
abbrev pub done_of : Bool → Done
done_of true = done.Engine ending.Done
done_of false = done.Disagreed
