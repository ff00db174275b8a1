-- What a scenario leaves in files, and when none is left.
use Rattle.std.specs.Prelude.{ℕ, ◌≡◌, ◌⊎◌, List, map, None, Option, Ok}
use Rattle.std.specs.List.{All}
use Rattle.authenticators.specs.Directory.{Listing}
use Rattle.authenticators.specs.DirectoryText.{directory_text}
use Rattle.replay_verifier.specs.Meaning.{Meaning}
use Rattle.evidence.specs.Contents.{Contents}
use Rattle.evidence.specs.Exports.{export_of}
use Rattle.shared_stores.specs.declared.history.Recorded.{Recorded}
use Rattle.shared_stores.specs.Histories.{Notes}
use Rattle.scenario_run.specs.Witnesses.{IsWitness}
use Rattle.scenarios.specs.Scenarios.{Script, scenario_of}
use Rattle.simulation.specs.Fixtures.{directory_of}
use Rattle.commands.specs.declared.fault.Fault.{Fault}
use Rattle.commands.specs.declared.fault.Fault.TheVariants as fault
use Rattle.commands.specs.Scenarios.{ArePlayed, IsNone, IsOfRun}
use Rattle.operating.specs.declared.play.Played.{Played}
use Rattle.operating.specs.declared.refusal.Refusal.{Refusal}
use Rattle.operating.specs.FileTexts.{IsUnsaid, Says}
use Rattle.operating.specs.GatheredFiles.{IsOfFile}

-- A witness under the directory ends with these items. The calls of its callers, each answered under the program, led to them.
abbrev pub IsEnd : {S : Type 0} → Listing → Meaning S → Contents → Type 0
IsEnd directory program c = (history : List Recorded) × (passes : List Notes) × IsWitness directory program c history passes

-- The encodings of the directory of a scenario's nodes, and of the stores that its witnesses have in the end, with this number of workers.
-- The nodes must follow the program.
pub record AreLeft {S : Type 0} (program : Meaning S) (s : Script) (workers : ℕ) (p : Played) : Type 0 where
  pub contents : List Contents
  pub played : ArePlayed s workers contents
  pub ends : All (IsEnd (directory_of s.nodes) program) contents
  pub directory : p.directory.items ≡ directory_text (directory_of s.nodes)
  pub stores : map (λ t. t.items) p.stores.items ≡ map (λ c. export_of c.items) contents

-- What is left of the scenario that a file says.
abbrev pub Leaves : {S : Type 0} → Meaning S → ℕ → ℕ → Option (List ℕ) → Played → Type 0
Leaves program limit workers file p = (text : List ℕ) × (s : Script) × Says limit None file text × (scenario_of text ≡ Ok s) × AreLeft program s workers p

-- Why nothing is left: the file says nothing, or memory ran out, or the file says no scenario, or the scenario is not run to its end.
abbrev pub RefusesPlay : ℕ → ℕ → Option (List ℕ) → Refusal → Type 0
RefusesPlay limit workers file r =
    (IsOfFile 0 r × IsUnsaid limit None file r.fault)
    ⊎ ((text : List ℕ) × Says limit None file text × (r.item ≡ None)
    × ((r.fault ≡ fault.Memory) ⊎ IsNone text r.fault ⊎ ((s : Script) × (scenario_of text ≡ Ok s) × IsOfRun workers r.fault)))
