-- The words of a line that has two or three of them.
use Rattle.std.specs.Prelude.{◌≡◌, ℕ, List, [], ◌∷◌, Option, Some, None, Err}
use Rattle.scenarios.specs.declared.fault.ScenarioFault.TheVariants.{BadScenario}
use Rattle.scenarios.specs.declared.lines.Words.{Words}
use Rattle.scenarios.specs.declared.lines.Words.TheVariants as words
use Rattle.scenarios.specs.Instructions.{said_of, words_of}

-- The words that were found are those of the line. If none were found, the line's words say nothing.
abbrev pub AreWords : Option Words → List ℕ → Type 0
AreWords None line = said_of (words_of line) ≡ Err BadScenario
AreWords (Some (words.Two verb word)) line = words_of line ≡ verb.now ∷ word.now ∷ []
AreWords (Some (words.Three verb first second)) line = words_of line ≡ verb.now ∷ first.now ∷ second.now ∷ []
