-- What is read is a scenario.
use Rattle.std.proofs.Common.{◌≡◌, ◌≢◌, ◌<◌, ◌≤◌, ◌+◌, ◌^◌, ◌==◌, ◌&&◌, not, ltb, leb, ℕ, suc, Bool, true, false, cond, List, [], ◌∷◌, ◌++◌, length, get_or, Option, Some, None, Result, Ok, Err, refl, sym, subst, ◌∙◌, arith}
use Rattle.std.specs.Bool.{IsTrue}
use Rattle.std.specs.List.{All, AllPairs, list_all}
use Rattle.std.specs.Option.{IfSome, is_some}
use Rattle.std.specs.Result.{IfOk}
use Rattle.std.proofs.lemmas.Bool.{and_parts, eq-eqb, eqb-true, leb-true, ltb-true, not-true, true≢false}
use Rattle.std.proofs.lemmas.List.{length-append, nil_from_length}
use Rattle.std.proofs.lemmas.List.Elements.{All-nil, All-push}
use Rattle.std.proofs.lemmas.List.Folds.{list_any_at}
use Rattle.std.proofs.lemmas.List.Quantifiers.{all_pairs_push}
use Rattle.outcome.specs.Outcome.{◌>>=◌}
use Rattle.outcome.proofs.Steps.{guard_true}
use Rattle.scenarios.specs.declared.limits.TheConstants.{MOST_LINES, MOST_NODES, MOST_WITNESSES}
use Rattle.scenarios.specs.declared.fault.ScenarioFault.{ScenarioFault}
use Rattle.scenarios.specs.declared.fault.ScenarioFault.TheVariants.{BadScenario}
use Rattle.scenarios.specs.declared.instruction.Act.{Act}
use Rattle.scenarios.specs.declared.instruction.Member.{Member}
use Rattle.scenarios.specs.declared.instruction.Instruction.{Instruction}
use Rattle.scenarios.specs.declared.instruction.Instruction.TheVariants as says
use Rattle.scenarios.specs.Scenarios.{Draft, Script, completed, is_listed, is_readable, is_skipped, line_taken, lines_of, lines_taken, node_of, nothing, scenario_of, script_of, taken, takes_node}
use Rattle.scenarios.specs.Spelling.{IsMoment, IsScenario}
use Rattle.scenarios.specs.Instructions.{instruction_of}
use Rattle.scenarios.proofs.Sayings.{IsSaid, instruction_has}

-- ---- what holds of the lines so far

abbrev lines_for : Option ℕ → ℕ
lines_for None = 0
lines_for (Some count) = 1

record AreNodes (nodes : List Member) : Type 0 where
  few : length nodes ≤ MOST_NODES
  different : AllPairs (λ (m n : Member). m.id ≢ n.id) nodes
  numbers : All (λ (m : Member). m.id < 2 ^ 32) nodes

record AreActs (nodes : List Member) (acts : List Act) : Type 0 where
  listed : All (λ (a : Act). IsTrue (is_listed nodes (node_of a))) acts
  moments : All IsMoment acts

-- Parts that come of at most so many lines.
record AreParts (lines : ℕ) (witnesses : Option ℕ) (nodes : List Member) (acts : List Act) : Type 0 where
  few : IfSome witnesses (λ (count : ℕ). (1 ≤ count) × (count ≤ MOST_WITNESSES))
  are_nodes : AreNodes nodes
  are_acts : AreActs nodes acts
  short : lines_for witnesses + length nodes + length acts ≤ lines

abbrev IsDraft : ℕ → Draft → Type 0
IsDraft lines d = AreParts lines d.witnesses d.nodes d.acts

no_acts : (nodes : List Member) → AreActs nodes []
no_acts nodes = record { listed = All-nil (λ (a : Act). IsTrue (is_listed nodes (node_of a))); moments = All-nil IsMoment }

begun : IsDraft 0 nothing
begun = record {
  few = tt;
  are_nodes = record { few = omega arith; different = λ i j d before within. absurd (omega arith); numbers = All-nil (λ (m : Member). m.id < 2 ^ 32) };
  are_acts = no_acts [];
  short = omega arith;
}

more_lines : (lines more : ℕ) (w : Option ℕ) (nodes : List Member) (acts : List Act) → lines ≤ more → AreParts lines w nodes acts → AreParts more w nodes acts
more_lines lines more w nodes acts h is = record { few = is.few; are_nodes = is.are_nodes; are_acts = is.are_acts; short = omega (arith, is.short) }

-- ---- one line

witnesses_come : (lines count : ℕ) (w : Option ℕ) (nodes : List Member) (acts : List Act) → not (is_some w) ≡ true → (1 ≤ count) × (count ≤ MOST_WITNESSES) → AreParts lines w nodes acts → AreParts (suc lines) (Some count) nodes acts
witnesses_come lines count (Some other) nodes acts none said is = absurd cc
witnesses_come lines count None nodes acts none said is = record { few = said; are_nodes = is.are_nodes; are_acts = is.are_acts; short = omega (arith, is.short) }

-- a node that is not listed has another number than each that is
apart : (nodes : List Member) (m : Member) → is_listed nodes m.id ≡ false → (k : ℕ) (d : Member) → k < length nodes → (get_or nodes k d).id ≢ m.id
apart nodes m new k d within same =
    let found = list_any_at (λ (n : Member). n.id == m.id) nodes k d within (eq-eqb (get_or nodes k d).id m.id same) in
    true≢false (sym found ∙ new)

node_comes : (lines : ℕ) (m : Member) (w : Option ℕ) (nodes : List Member) (acts : List Act) → (length nodes < MOST_NODES) × (acts ≡ []) × (is_listed nodes m.id ≡ false) → m.id < 2 ^ 32 → AreParts lines w nodes acts → AreParts (suc lines) w (nodes ++ m ∷ []) acts
node_comes lines m w nodes acts taken said is =
    let long : length (nodes ++ m ∷ []) ≡ length nodes + 1 = length-append nodes (m ∷ []) in
    record {
      few = is.few;
      are_nodes = record {
        few = omega (arith, taken.0);
        different = all_pairs_push (λ (m n : Member). m.id ≢ n.id) nodes m is.are_nodes.different (apart nodes m taken.2);
        numbers = All-push (λ (m : Member). m.id < 2 ^ 32) nodes m is.are_nodes.numbers said;
      };
      are_acts = subst (AreActs (nodes ++ m ∷ [])) (sym taken.1) (no_acts (nodes ++ m ∷ []));
      short = omega (arith, is.short);
    }

act_comes : (lines : ℕ) (a : Act) (w : Option ℕ) (nodes : List Member) (acts : List Act) → is_listed nodes (node_of a) ≡ true → IsMoment a → AreParts lines w nodes acts → AreParts (suc lines) w nodes (acts ++ a ∷ [])
act_comes lines a w nodes acts taken said is =
    let long : length (acts ++ a ∷ []) ≡ length acts + 1 = length-append acts (a ∷ []) in
    record {
      few = is.few;
      are_nodes = is.are_nodes;
      are_acts = record {
        listed = All-push (λ (a : Act). IsTrue (is_listed nodes (node_of a))) acts a is.are_acts.listed taken;
        moments = All-push IsMoment acts a is.are_acts.moments said;
      };
      short = omega (arith, is.short);
    }

-- what passes a test holds where it passed
kept : (P : Draft → Type 0) (b : Bool) (d : Draft) → (b ≡ true → P d) → IfOk {E = ScenarioFault} (cond b (Ok d) (Err BadScenario)) P
kept P true d h = h refl
kept P false d h = tt

parts_of : (d : Draft) (m : Member) → takes_node d m.id ≡ true → (length d.nodes < MOST_NODES) × (d.acts ≡ []) × (is_listed d.nodes m.id ≡ false)
parts_of d m h =
    let p = and_parts (is_some d.witnesses && ltb (length d.nodes) MOST_NODES && (length d.acts == 0)) (not (is_listed d.nodes m.id)) h in
    let q = and_parts (is_some d.witnesses && ltb (length d.nodes) MOST_NODES) (length d.acts == 0) p.0 in
    let r = and_parts (is_some d.witnesses) (ltb (length d.nodes) MOST_NODES) q.0 in
    (ltb-true _ _ r.1, nil_from_length d.acts (eqb-true _ _ q.1), not-true _ p.1)

instruction_taken : (lines : ℕ) (d : Draft) (st : Instruction) → IsDraft lines d → IsSaid st → IfOk (taken d st) (IsDraft (suc lines))
unfolding taken
instruction_taken lines d (says.Witnesses count) is said = kept (IsDraft (suc lines)) _ _ (λ h. witnesses_come lines count d.witnesses d.nodes d.acts h said is)
instruction_taken lines d (says.Node m) is said = kept (IsDraft (suc lines)) _ _ (λ h. node_comes lines m d.witnesses d.nodes d.acts (parts_of d m h) said is)
instruction_taken lines d (says.Happens a) is said = kept (IsDraft (suc lines)) _ _ (λ h. act_comes lines a d.witnesses d.nodes d.acts h said is)

then : (lines : ℕ) (d : Draft) (r : Result Instruction ScenarioFault) → IsDraft lines d → IfOk r IsSaid → IfOk (r >>= taken d) (IsDraft (suc lines))
then lines d (Ok st) is said = instruction_taken lines d st is said
then lines d (Err fault) is said = tt

skips : (lines : ℕ) (d : Draft) (b : Bool) (r : Result Draft ScenarioFault) → IsDraft lines d → IfOk r (IsDraft (suc lines)) → IfOk (cond b (Ok d) r) (IsDraft (suc lines))
skips lines d true r is next = more_lines lines (suc lines) d.witnesses d.nodes d.acts (omega arith) is
skips lines d false r is next = next

line_has : (lines : ℕ) (d : Draft) (line : List ℕ) → IsDraft lines d → IfOk (line_taken d line) (IsDraft (suc lines))
unfolding line_taken
line_has lines d line is = skips lines d (is_skipped line) (instruction_of line >>= taken d) is (then lines d (instruction_of line) is (instruction_has line))

-- ---- all lines

goes_on : {A B : Type 0} (P : A → Type 0) (Q : B → Type 0) (r : Result A ScenarioFault) (f : A → Result B ScenarioFault) → IfOk r P → ((x : A) → P x → IfOk (f x) Q) → IfOk (r >>= f) Q
goes_on P Q (Ok x) f h more = more x h
goes_on P Q (Err fault) f h more = tt

lines_have : (lines most : ℕ) (d : Draft) (left : List (List ℕ)) → lines + length left ≤ most → IsDraft lines d → IfOk (lines_taken d left) (IsDraft most)
unfolding lines_taken
lines_have lines most d [] h is = more_lines lines most d.witnesses d.nodes d.acts (omega arith) is
lines_have lines most d (line ∷ left) h is =
    goes_on (IsDraft (suc lines)) (IsDraft most) (line_taken d line) (λ (next : Draft). lines_taken next left) (line_has lines d line is)
    (λ next good. lines_have (suc lines) most next left (omega arith) good)

-- ---- the whole

made : (most : ℕ) (w : Option ℕ) (nodes : List Member) (acts : List Act) → most ≤ MOST_LINES → AreParts most w nodes acts → IfOk (completed w nodes acts) IsScenario
made most None nodes acts few is = tt
made most (Some count) [] acts few is = tt
made most (Some count) (m ∷ ms) acts few is = record {
  some_witnesses = is.few.0;
  few_witnesses = is.few.1;
  some_nodes = omega arith;
  few_nodes = is.are_nodes.few;
  different = is.are_nodes.different;
  numbers = is.are_nodes.numbers;
  listed = is.are_acts.listed;
  moments = is.are_acts.moments;
  short = omega (arith, is.short);
}

script_has : (lines : List (List ℕ)) → length lines ≤ MOST_LINES → IfOk (script_of lines) IsScenario
unfolding script_of
script_has lines few =
    goes_on (IsDraft (length lines)) IsScenario (lines_taken nothing lines) (λ (d : Draft). completed d.witnesses d.nodes d.acts)
    (lines_have 0 (length lines) nothing lines (omega arith) begun) (λ d is. made (length lines) d.witnesses d.nodes d.acts few is)

at_ok : (r : Result Script ScenarioFault) (s : Script) → r ≡ Ok s → IfOk r IsScenario → IsScenario s
at_ok r s is h = subst (λ (q : Result Script ScenarioFault). IfOk q IsScenario) is h

pub found : (text : List ℕ) (s : Script) → scenario_of text ≡ Ok s → IsScenario s
unfolding scenario_of
found text s h =
    let p = guard_true (is_readable text) BadScenario (script_of (lines_of text)) s h in
    let few = and_parts (list_all (λ (byte : ℕ). ltb byte 128) text) (leb (length (lines_of text)) MOST_LINES) p.0 in
    at_ok (script_of (lines_of text)) s p.1 (script_has (lines_of text) (leb-true _ _ few.1))
