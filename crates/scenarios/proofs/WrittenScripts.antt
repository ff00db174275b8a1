-- A scenario is read of its text.
use Rattle.std.proofs.Common.{◌≡◌, ◌≢◌, ◌<◌, ◌≤◌, ◌+◌, ◌^◌, ◌==◌, ◌&&◌, ltb, leb, not, ℕ, true, false, List, [], ◌∷◌, ◌++◌, length, get_or, Some, Ok, refl, sym, ap, subst, ◌∙◌, append_assoc, arith}
use Rattle.std.specs.Bool.{IsTrue}
use Rattle.std.specs.List.{All, AllPairs, flat_map, list_all}
use Rattle.std.specs.Prelude.{codes}
use Rattle.std.proofs.lemmas.Bool.{and_from, and_parts, eqb-true, le-leb, lt-ltb, ne_eqb, not-true}
use Rattle.std.proofs.lemmas.List.{append-nil, get_or_append_left, length-append}
use Rattle.std.proofs.lemmas.List.Elements.{All-head, All-tail, All-weaker}
use Rattle.std.proofs.lemmas.List.Folds.{Any-from_list_any, list_all-append, list_any_none}
use Rattle.std.proofs.lemmas.List.Splits.{slice_split_at}
use Rattle.std.proofs.lemmas.List.Sums.{AllPass-from_list_all, list_all-from_AllPass}
use Rattle.std.proofs.Math.Seq.{get_or-append_seam}
use Rattle.scenarios.specs.declared.limits.TheConstants.{MOST_LINES, MOST_NODES}
use Rattle.scenarios.specs.declared.instruction.Act.{Act}
use Rattle.scenarios.specs.declared.instruction.Member.{Member}
use Rattle.scenarios.specs.declared.instruction.Instruction.{Instruction}
use Rattle.scenarios.specs.declared.instruction.Instruction.TheVariants as says
use Rattle.scenarios.specs.Scenarios.{Draft, Script, completed, is_listed, is_readable, line_taken, lines_of, lines_taken, node_of, nothing, scenario_of, taken, takes_node}
use Rattle.scenarios.specs.Spelling.{IsMoment, IsScenario, act_line, node_line, pair_line, text_of}
use Rattle.scenarios.proofs.LineSteps.{lines_end, lines_go, readable, script_is}
use Rattle.scenarios.proofs.Parts.{line_and_more, no_lines}
use Rattle.scenarios.proofs.WrittenLines.{IsLineOf, act_written, is_line, node_written, witnesses_written}

-- ---- texts whose lines are taken

record AreTaken (d : Draft) (text : List ℕ) (most : ℕ) (e : Draft) : Type 0 where
  ascii : list_all (λ (byte : ℕ). ltb byte 128) text ≡ true
  count : length (lines_of text) ≤ most
  taken : lines_taken d (lines_of text) ≡ Ok e

none_taken : (d : Draft) (most : ℕ) → AreTaken d [] most d
none_taken d most =
    let none : lines_of [] ≡ [] = no_lines [] refl in
    record {
      ascii = refl;
      count = omega (arith, ap length none);
      taken = ap (lines_taken d) none ∙ lines_end d;
    }

line_parts : (byte : ℕ) → (not (byte == 10) && ltb byte 128) ≡ true → ((byte == 10) ≡ false) × (ltb byte 128 ≡ true)
line_parts byte h = let p = and_parts (not (byte == 10)) (ltb byte 128) h in (not-true (byte == 10) p.0, p.1)

no_feed : (line : List ℕ) → is_line line ≡ true → All (λ (byte : ℕ). (byte == 10) ≡ false) line
no_feed line h =
    All-weaker (λ (byte : ℕ). (not (byte == 10) && ltb byte 128) ≡ true) (λ (byte : ℕ). (byte == 10) ≡ false) (λ byte b. (line_parts byte b).0) line
    (AllPass-from_list_all (λ (byte : ℕ). not (byte == 10) && ltb byte 128) line h)

line_ascii : (line : List ℕ) → is_line line ≡ true → list_all (λ (byte : ℕ). ltb byte 128) line ≡ true
line_ascii line h =
    list_all-from_AllPass (λ (byte : ℕ). ltb byte 128) line
    (All-weaker (λ (byte : ℕ). (not (byte == 10) && ltb byte 128) ≡ true) (λ (byte : ℕ). ltb byte 128 ≡ true) (λ byte b. (line_parts byte b).1) line
    (AllPass-from_list_all (λ (byte : ℕ). not (byte == 10) && ltb byte 128) line h))

line_first : (line rest : List ℕ) → is_line line ≡ true → lines_of (line ++ 10 ∷ rest) ≡ line ∷ lines_of rest
line_first line rest h = line_and_more (line ++ 10 ∷ rest) line rest (slice_split_at (λ (byte : ℕ). byte == 10) line 10 rest (no_feed line h) refl)

line_more : (d next e : Draft) (line rest : List ℕ) (n most : ℕ) → n + 1 ≤ most → is_line line ≡ true → line_taken d line ≡ Ok next → AreTaken next rest n e → AreTaken d (line ++ 10 ∷ rest) most e
line_more d next e line rest n most fits h go is =
    let first = line_first line rest h in
    record {
      ascii = list_all-append (λ (byte : ℕ). ltb byte 128) line (10 ∷ rest) ∙ and_from (list_all (λ (byte : ℕ). ltb byte 128) line) (list_all (λ (byte : ℕ). ltb byte 128) (10 ∷ rest)) (line_ascii line h) is.ascii;
      count = omega (arith, ap length first, is.count);
      taken = ap (lines_taken d) first ∙ lines_go d next line (lines_of rest) go ∙ is.taken;
    }

said_more : (d next e : Draft) (text rest : List ℕ) (n most : ℕ) (st : Instruction) → n + 1 ≤ most → IsLineOf text st → taken d st ≡ Ok next → AreTaken next rest n e → AreTaken d (text ++ rest) most e
said_more d next e text rest n most st fits line go is =
    subst (λ (whole : List ℕ). AreTaken d whole most e) (sym (line.ends rest)) (line_more d next e line.line rest n most fits line.plain (line.says d ∙ go) is)

-- ---- drafts

abbrev draft : ℕ → List Member → List Act → Draft
draft count nodes acts = record { witnesses = Some count; nodes = nodes; acts = acts }

begins : (count : ℕ) → taken nothing (says.Witnesses count) ≡ Ok (draft count [] [])
unfolding taken
begins count = refl

listing : (count : ℕ) (nodes : List Member) (m : Member) → takes_node (draft count nodes []) m.id ≡ true → taken (draft count nodes []) (says.Node m) ≡ Ok (draft count (nodes ++ m ∷ []) [])
unfolding taken
listing count nodes m h = rw h refl

happening : (count : ℕ) (nodes : List Member) (acts : List Act) (a : Act) → is_listed nodes (node_of a) ≡ true → taken (draft count nodes acts) (says.Happens a) ≡ Ok (draft count nodes (acts ++ a ∷ []))
unfolding taken
happening count nodes acts a h = rw h refl

-- ---- nodes

-- a node that comes after others of other numbers is not among them
apart : (before : List Member) (m : Member) (after : List Member) → AllPairs (λ (m n : Member). m.id ≢ n.id) (before ++ m ∷ after) → All (λ (n : Member). (n.id == m.id) ≡ false) before
apart before m after h k d within =
    let long : length (before ++ m ∷ after) ≡ length before + (length after + 1) = length-append before (m ∷ after) ∙ (let e : length before + length (m ∷ after) ≡ length before + (length after + 1) = omega arith in e) in
    let here : get_or (before ++ m ∷ after) k d ≡ get_or before k d = get_or_append_left before (m ∷ after) d k within in
    let there : get_or (before ++ m ∷ after) (length before) d ≡ m = get_or-append_seam before m after d in
    let other : (get_or (before ++ m ∷ after) k d).id ≢ (get_or (before ++ m ∷ after) (length before) d).id = h k (length before) d within (omega arith) in
    ne_eqb (get_or before k d).id m.id (λ e. other (ap (λ (n : Member). n.id) here ∙ e ∙ sym (ap (λ (n : Member). n.id) there)))

takes : (count : ℕ) (before : List Member) (m : Member) (after : List Member) → length before < MOST_NODES → AllPairs (λ (m n : Member). m.id ≢ n.id) (before ++ m ∷ after) → takes_node (draft count before []) m.id ≡ true
takes count before m after room different =
    let new : is_listed before m.id ≡ false = list_any_none (λ (n : Member). n.id == m.id) before (apart before m after different) in
    rw (lt-ltb (length before) MOST_NODES room, new) refl

abbrev differ : List Member → Type 0
differ nodes = AllPairs (λ (m n : Member). m.id ≢ n.id) nodes

abbrev fit : List Member → Type 0
fit nodes = All (λ (m : Member). m.id < 2 ^ 32) nodes

nodes_taken : (count : ℕ) (before after : List Member) (rest : List ℕ) (n most : ℕ) (e : Draft) → length before + length after ≤ MOST_NODES → n + length after ≤ most → differ (before ++ after) → fit after → AreTaken (draft count (before ++ after) []) rest n e → AreTaken (draft count before []) (flat_map node_line after ++ rest) most e
nodes_taken count before [] rest n most e room fits different small is =
    let whole = subst (λ (nodes : List Member). AreTaken (draft count nodes []) rest n e) (append-nil before) is in
    record { ascii = whole.ascii; count = omega (arith, whole.count); taken = whole.taken }
nodes_taken count before (m ∷ after) rest n most e room fits different small is =
    let grouped : (before ++ m ∷ []) ++ after ≡ before ++ m ∷ after = append_assoc before (m ∷ []) after in
    let long : length (before ++ m ∷ []) ≡ length before + 1 = length-append before (m ∷ []) in
    let others = nodes_taken count (before ++ m ∷ []) after rest n (n + length after) e (omega arith) (omega arith) (subst differ (sym grouped) different) (All-tail (λ (m : Member). m.id < 2 ^ 32) m after small)
    (subst (λ (nodes : List Member). AreTaken (draft count nodes []) rest n e) (sym grouped) is) in
    let this = node_written m (All-head (λ (m : Member). m.id < 2 ^ 32) m after small) in
    let go = listing count before m (takes count before m after (omega arith) different) in
    subst (λ (text : List ℕ). AreTaken (draft count before []) text most e) (sym (append_assoc (node_line m) (flat_map node_line after) rest))
    (said_more (draft count before []) (draft count (before ++ m ∷ []) []) e (node_line m) (flat_map node_line after ++ rest) (n + length after) most (says.Node m) (omega arith) this go others)

-- ---- acts

-- a listed node has a number of 32 bits
listed_fits : (nodes : List Member) (id : ℕ) → fit nodes → is_listed nodes id ≡ true → id < 2 ^ 32
listed_fits nodes id small h =
    let is = Any-from_list_any (λ (m : Member). m.id == id) nodes h in
    let fits = small is.0 is.1 is.2 in
    let same : (is.1).id ≡ id = eqb-true _ _ is.4 in
    let at : (get_or nodes is.0 is.1).id ≡ (is.1).id = ap (λ (m : Member). m.id) is.3 in
    omega (arith, fits, same, at)

abbrev are_listed : List Member → List Act → Type 0
are_listed nodes acts = All (λ (a : Act). IsTrue (is_listed nodes (node_of a))) acts

acts_taken : (count : ℕ) (nodes : List Member) (before after : List Act) (most : ℕ) → length after ≤ most → fit nodes → are_listed nodes after → All IsMoment after → AreTaken (draft count nodes before) (flat_map act_line after) most (draft count nodes (before ++ after))
acts_taken count nodes before [] most fits small listed moments =
    subst (λ (acts : List Act). AreTaken (draft count nodes before) [] most (draft count nodes acts)) (sym (append-nil before)) (none_taken (draft count nodes before) most)
acts_taken count nodes before (a ∷ after) most fits small listed moments =
    let grouped : (before ++ a ∷ []) ++ after ≡ before ++ a ∷ after = append_assoc before (a ∷ []) after in
    let known : is_listed nodes (node_of a) ≡ true = All-head (λ (a : Act). IsTrue (is_listed nodes (node_of a))) a after listed in
    let others = acts_taken count nodes (before ++ a ∷ []) after (length after) (omega arith) small (All-tail (λ (a : Act). IsTrue (is_listed nodes (node_of a))) a after listed) (All-tail IsMoment a after moments) in
    let this = act_written a (listed_fits nodes (node_of a) small known) (All-head IsMoment a after moments) in
    said_more (draft count nodes before) (draft count nodes (before ++ a ∷ [])) (draft count nodes (before ++ a ∷ after)) (act_line a) (flat_map act_line after) (length after) most (says.Happens a) (omega arith) this
    (happening count nodes before a known) (subst (λ (acts : List Act). AreTaken (draft count nodes (before ++ a ∷ [])) (flat_map act_line after) (length after) (draft count nodes acts)) grouped others)

-- ---- the whole text

all_taken : (s : Script) → IsScenario s → AreTaken nothing (text_of s) MOST_LINES (draft s.witnesses s.nodes s.acts)
unfolding text_of
all_taken s is =
    let acts = acts_taken s.witnesses s.nodes [] s.acts (length s.acts) (omega arith) is.numbers is.listed is.moments in
    let nodes = nodes_taken s.witnesses [] s.nodes (flat_map act_line s.acts) (length s.acts) (length s.acts + length s.nodes) (draft s.witnesses s.nodes s.acts) (omega (arith, is.few_nodes)) (omega arith) is.different is.numbers acts in
    let first = witnesses_written s.witnesses is.some_witnesses is.few_witnesses in
    let whole = said_more nothing (draft s.witnesses [] []) (draft s.witnesses s.nodes s.acts) (pair_line (codes "witnesses") s.witnesses) (flat_map node_line s.nodes ++ flat_map act_line s.acts) (length s.acts + length s.nodes) MOST_LINES (says.Witnesses s.witnesses) (omega (arith, is.short)) first (begins s.witnesses) nodes in
    subst (λ (text : List ℕ). AreTaken nothing text MOST_LINES (draft s.witnesses s.nodes s.acts)) (sym (append_assoc (pair_line (codes "witnesses") s.witnesses) (flat_map node_line s.nodes) (flat_map act_line s.acts))) whole

complete : (count : ℕ) (nodes : List Member) (acts : List Act) → 1 ≤ length nodes → completed (Some count) nodes acts ≡ Ok (record { witnesses = count; nodes = nodes; acts = acts })
complete count [] acts some = absurd (omega arith)
complete count (m ∷ ms) acts some = refl

pub only : (s : Script) → IsScenario s → scenario_of (text_of s) ≡ Ok s
only s is =
    let all = all_taken s is in
    let fits : is_readable (text_of s) ≡ true = and_from (list_all (λ (byte : ℕ). ltb byte 128) (text_of s)) (leb (length (lines_of (text_of s))) MOST_LINES) all.ascii (le-leb _ _ all.count) in
    readable (text_of s) fits ∙ script_is (lines_of (text_of s)) (draft s.witnesses s.nodes s.acts) all.taken ∙ complete s.witnesses s.nodes s.acts is.some_nodes
