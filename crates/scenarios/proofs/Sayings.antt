-- What lines that say something have in common: their numbers are within bounds.
use Rattle.std.proofs.Common.{◌≡◌, ◌<◌, ◌≤◌, ◌^◌, ◌&&◌, leb, ℕ, Bool, true, false, cond, List, [], ◌∷◌, Result, Ok, Err, refl, arith}
use Rattle.std.specs.Fmt.{decimal}
use Rattle.std.specs.Prelude.{codes}
use Rattle.std.specs.Result.{IfOk}
use Rattle.std.specs.Str.{bytes_eq}
use Rattle.std.specs.Str.Parse.{digits_value}
use Rattle.std.proofs.lemmas.Bool.{leb-true}
use Rattle.outcome.specs.Outcome.{◌>>=◌}
use Rattle.scenarios.specs.declared.limits.TheConstants.{MOST_WITNESSES}
use Rattle.scenarios.specs.declared.fault.ScenarioFault.{ScenarioFault}
use Rattle.scenarios.specs.declared.fault.ScenarioFault.TheVariants.{BadScenario}
use Rattle.scenarios.specs.declared.instruction.Act.{Act}
use Rattle.scenarios.specs.declared.instruction.Act.TheVariants as act
use Rattle.scenarios.specs.declared.instruction.Kind.{Kind}
use Rattle.scenarios.specs.declared.instruction.Instruction.{Instruction}
use Rattle.scenarios.specs.declared.instruction.Instruction.TheVariants as says
use Rattle.scenarios.specs.Spelling.{IsMoment}
use Rattle.scenarios.specs.Instructions.{happening_of, id_of, kind_of, member_of, number_to, pair_of, said_of, instruction_of, timer_of, triple_of, witnesses_of, words_of}

abbrev pub IsSaid : Instruction → Type 0
IsSaid (says.Witnesses count) = (1 ≤ count) × (count ≤ MOST_WITNESSES)
IsSaid (says.Node m) = m.id < 2 ^ 32
IsSaid (says.Happens a) = IsMoment a

-- ---- numbers

guarded : (fits same : Bool) (n most : ℕ) → leb n most ≡ fits → IfOk {E = ScenarioFault} (cond (fits && same) (Ok n) (Err BadScenario)) (λ (m : ℕ). m ≤ most)
guarded true true n most h = leb-true n most h
guarded true false n most h = tt
guarded false same n most h = tt

number_has : (most : ℕ) (word : List ℕ) → IfOk (number_to most word) (λ (n : ℕ). n ≤ most)
unfolding number_to
number_has most word = guarded (leb (digits_value 10 word) most) (bytes_eq (decimal (digits_value 10 word)) word) (digits_value 10 word) most refl

-- ---- lines

some : (count : ℕ) (enough : Bool) → leb 1 count ≡ enough → count ≤ MOST_WITNESSES → IfOk {E = ScenarioFault} (cond enough (Ok (says.Witnesses count)) (Err BadScenario)) IsSaid
some count true h small = (leb-true 1 count h, small)
some count false h small = tt

counted : (r : Result ℕ ScenarioFault) → IfOk r (λ (n : ℕ). n ≤ MOST_WITNESSES) → IfOk (r >>= (λ (count : ℕ). cond (leb 1 count) (Ok (says.Witnesses count)) (Err BadScenario))) IsSaid
counted (Ok count) h = some count (leb 1 count) refl h
counted (Err fault) h = tt

witnesses_has : (word : List ℕ) → IfOk (witnesses_of word) IsSaid
unfolding witnesses_of
witnesses_has word = counted (number_to MOST_WITNESSES word) (number_has MOST_WITNESSES word)

member : (id : Result ℕ ScenarioFault) (kind : Result Kind ScenarioFault) → IfOk id (λ (n : ℕ). n ≤ 4294967295) → IfOk (id >>= (λ (i : ℕ). kind >>= (λ (k : Kind). Ok (says.Node (record { id = i; kind = k }))))) IsSaid
member (Ok i) (Ok k) h = omega arith
member (Ok i) (Err fault) h = tt
member (Err fault) kind h = tt

member_has : (first second : List ℕ) → IfOk (member_of first second) IsSaid
unfolding member_of
member_has first second = member (id_of first) (kind_of second) (number_has 4294967295 first)

timer : (id moment : Result ℕ ScenarioFault) → IfOk moment (λ (n : ℕ). n ≤ 18446744073709551615) → IfOk (id >>= (λ (i : ℕ). moment >>= (λ (m : ℕ). Ok (says.Happens (act.Timer i m))))) IsSaid
timer (Ok i) (Ok m) h = omega arith
timer (Ok i) (Err fault) h = tt
timer (Err fault) moment h = tt

timer_has : (first second : List ℕ) → IfOk (timer_of first second) IsSaid
unfolding timer_of
timer_has first second = timer (id_of first) (number_to 18446744073709551615 second) (number_has 18446744073709551615 second)

happening : (happens : ℕ → Act) (id : Result ℕ ScenarioFault) → ((i : ℕ) → IsMoment (happens i)) → IfOk (id >>= (λ (i : ℕ). Ok (says.Happens (happens i)))) IsSaid
happening happens (Ok i) h = h i
happening happens (Err fault) h = tt

happening_has : (happens : ℕ → Act) (word : List ℕ) → ((i : ℕ) → IsMoment (happens i)) → IfOk (happening_of happens word) IsSaid
unfolding happening_of
happening_has happens word h = happening happens (id_of word) h

either : (a : Bool) (x y : Result Instruction ScenarioFault) → IfOk x IsSaid → IfOk y IsSaid → IfOk (cond a x y) IsSaid
either true x y one two = one
either false x y one two = two

one_of_two : (a b : Bool) (x y : Result Instruction ScenarioFault) → IfOk x IsSaid → IfOk y IsSaid → IfOk (cond a x (cond b y (Err BadScenario))) IsSaid
one_of_two a b x y one two = either a x (cond b y (Err BadScenario)) one (either b y (Err BadScenario) two tt)

pub pair_has : (verb word : List ℕ) → IfOk (pair_of verb word) IsSaid
unfolding pair_of
pair_has verb word =
    let last = one_of_two (bytes_eq verb (codes "audit")) (bytes_eq verb (codes "rekey")) (happening_of act.Audit word) (happening_of act.Rekey word) (happening_has act.Audit word (λ i. tt)) (happening_has act.Rekey word (λ i. tt)) in
    let later = either (bytes_eq verb (codes "checkpoint")) (happening_of act.Checkpoint word) _ (happening_has act.Checkpoint word (λ i. tt)) last in
    either (bytes_eq verb (codes "witnesses")) (witnesses_of word) _ (witnesses_has word) later

pub triple_has : (verb first second : List ℕ) → IfOk (triple_of verb first second) IsSaid
unfolding triple_of
triple_has verb first second = one_of_two (bytes_eq verb (codes "node")) (bytes_eq verb (codes "timer")) (member_of first second) (timer_of first second) (member_has first second) (timer_has first second)

said_has : (words : List (List ℕ)) → IfOk (said_of words) IsSaid
said_has [] = tt
said_has (verb ∷ []) = tt
said_has (verb ∷ word ∷ []) = pair_has verb word
said_has (verb ∷ first ∷ second ∷ []) = triple_has verb first second
said_has (verb ∷ first ∷ second ∷ third ∷ more) = tt

pub instruction_has : (line : List ℕ) → IfOk (instruction_of line) IsSaid
unfolding instruction_of
instruction_has line = said_has (words_of line)
