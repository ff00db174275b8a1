-- Lines that are taken one after the other, and the text of which they are.
use Rattle.std.proofs.Common.{◌≡◌, ℕ, List, [], ◌∷◌, Bool, true, false, cond, Result, Ok, Err, refl, ap, inr}
use Rattle.outcome.specs.Outcome.{◌>>=◌, Fails, Gives}
use Rattle.outcome.proofs.Steps.{Fails-then}
use Rattle.scenarios.specs.declared.fault.ScenarioFault.{ScenarioFault}
use Rattle.scenarios.specs.declared.fault.ScenarioFault.TheVariants.{BadScenario, Memory}
use Rattle.scenarios.specs.Scenarios.{Draft, Script, completed, is_readable, line_taken, lines_of, lines_taken, nothing, scenario_of, script_of}

pub lines_end : (d : Draft) → lines_taken d [] ≡ Ok d
unfolding lines_taken
lines_end d = refl

pub lines_go : (d next : Draft) (line : List ℕ) (lines : List (List ℕ)) → line_taken d line ≡ Ok next → lines_taken d (line ∷ lines) ≡ lines_taken next lines
unfolding lines_taken
lines_go d next line lines h = ap (λ (r : Result Draft ScenarioFault). r >>= (λ (e : Draft). lines_taken e lines)) h

pub lines_fail : (d : Draft) (line : List ℕ) (lines : List (List ℕ)) (fault : ScenarioFault) → Fails Memory fault (line_taken d line) → Fails Memory fault (lines_taken d (line ∷ lines))
unfolding lines_taken
lines_fail d line lines fault h = Fails-then Memory fault (line_taken d line) (λ (e : Draft). lines_taken e lines) h

-- ---- the whole text

pub unreadable : (text : List ℕ) → is_readable text ≡ false → scenario_of text ≡ Err BadScenario
unfolding scenario_of
unreadable text h = ap (λ (b : Bool). cond b (script_of (lines_of text)) (Err BadScenario)) h

pub readable : (text : List ℕ) → is_readable text ≡ true → scenario_of text ≡ script_of (lines_of text)
unfolding scenario_of
readable text h = ap (λ (b : Bool). cond b (script_of (lines_of text)) (Err BadScenario)) h

-- what is made of the draft
abbrev whole : Draft → Result Script ScenarioFault
whole d = completed d.witnesses d.nodes d.acts

pub script_fails : (lines : List (List ℕ)) (fault : ScenarioFault) → Fails Memory fault (lines_taken nothing lines) → Fails Memory fault (script_of lines)
unfolding script_of
script_fails lines fault h = Fails-then Memory fault (lines_taken nothing lines) whole h

pub script_is : (lines : List (List ℕ)) (d : Draft) → lines_taken nothing lines ≡ Ok d → script_of lines ≡ completed d.witnesses d.nodes d.acts
unfolding script_of
script_is lines d h = ap (λ (r : Result Draft ScenarioFault). r >>= whole) h

pub gives : (r expected : Result Script ScenarioFault) → expected ≡ r → Gives Memory (λ s. s) r expected
gives (Ok s) expected h = h
gives (Err fault) expected h = inr h
