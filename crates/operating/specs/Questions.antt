-- What is written of what was read, and how the engine ends.
use Rattle.std.specs.Prelude.{ℕ, ◌≡◌, ◌↔◌, ◌==◌, Bool, true, List, [], map, All, Contains, IsSome, IsTrue, Option, Some, None, Result, Ok, Err}
use Rattle.std.specs.List.{filter}
use Rattle.std.specs.List.Sorted.{IsStrictlyIncreasing}
use Rattle.answers.specs.declared.showing.Shown.{Shown}
use Rattle.answers.specs.declared.standings.Standing.{Standing}
use Rattle.answers.specs.declared.style.Style.{Style}
use Rattle.answers.specs.declared.style.Style.TheVariants as style
use Rattle.answers.specs.Showing.{IsShown}
use Rattle.answers.specs.Texts.{conviction_text, shown_text, standings_text}
use Rattle.authenticators.specs.Directory.{keys_at}
use Rattle.replay_verifier.specs.Meaning.{Meaning}
use Rattle.proofs.specs.Cases.{Case}
use Rattle.proofs.specs.ProofTexts.{proof_text}
use Rattle.evidence.specs.Exports.{export_of}
use Rattle.evidence_set.specs.Indications.{IsExposed, IsIndication}
use Rattle.evidence_set.specs.ItemSets.{Items}
use Rattle.evidence.specs.Contents.{Contents, with_items}
use Rattle.localities.specs.Extracts.{IsExtract}
use Rattle.localities.specs.Known.{IsKnown}
use Rattle.localities.specs.Shards.{in_turn}
use Rattle.shards.specs.Extracts.{AddsQuotes, own_shard}
use Rattle.commands.specs.declared.fault.Fault.{Fault}
use Rattle.commands.specs.declared.fault.Fault.TheVariants as fault
use Rattle.commands.specs.Output.{IsFound}
use Rattle.commands.specs.Reports.{IsReport}
use Rattle.operating.specs.declared.asking.Ending.{Ending}
use Rattle.operating.specs.declared.asking.Ending.TheVariants as ending
use Rattle.operating.specs.declared.scope.Scope.{Scope}
use Rattle.operating.specs.declared.scope.Scope.TheVariants as scope
use Rattle.operating.specs.GatheredFiles.{Collected, under}

-- The node is one of those that are asked of: any node, or one of shard `k`.
abbrev pub is_asked : Scope → ℕ → Bool
is_asked scope.All node = true
is_asked (scope.Shard shards k) node = in_turn shards node == k

-- The evidence exposes a node of the directory that is asked of.
abbrev pub ExposesSomebody : {S : Type 0} → Scope → Meaning S → Contents → Type 0
ExposesSomebody scope program s = (node : ℕ) × IsSome (keys_at s.directory node) × IsTrue (is_asked scope node) × IsExposed s.directory program s.items node

-- The ending says whether somebody that is asked of is exposed.
abbrev pub IsEnding : {S : Type 0} → Scope → Meaning S → Contents → Ending → Type 0
IsEnding scope program s ending.Exposed = ExposesSomebody scope program s
IsEnding scope program s ending.Done = ¬ ExposesSomebody scope program s
IsEnding scope program s ending.NoProof = ⊥

-- What the items say of a node: its indication, and whether anything is known of it.
pub record IsStanding {S : Type 0} (program : Meaning S) (s : Contents) (node : ℕ) (x : Standing) : Type 0 where
  pub indication : IsIndication s.directory program s.items node x.indication
  pub known : IsTrue x.known ↔ IsKnown s.directory s.items node

-- What the items say of each listed node and of no other, in ascending order of the numbers.
pub record AreStandings {S : Type 0} (program : Meaning S) (s : Contents) (rows : List (ℕ × Standing)) : Type 0 where
  pub ascending : IsStrictlyIncreasing (map (λ row. row.0) rows)
  pub complete : (node : ℕ) → Contains (map (λ row. row.0) rows) node ↔ IsSome (keys_at s.directory node)
  pub right : All (λ row. IsStanding program s row.0 row.1) rows

-- Those rows that are of nodes that are asked of.
abbrev pub asked : Scope → List (ℕ × Standing) → List (ℕ × Standing)
asked scope rows = filter (λ row. is_asked scope row.0) rows

-- `status`: what the items say of the nodes that are asked of, under the program of this name, written in this style. It is never refused.
abbrev pub Status : {S : Type 0} → Style → List ℕ → Scope → Meaning S → Collected → Result (List ℕ × Ending) Fault → Type 0
Status style name scope program c (Ok told) = (rows : List (ℕ × Standing)) × AreStandings program c.contents rows × (told.0 ≡ standings_text style name c.directory (asked scope rows)) × IsEnding scope program c.contents told.1
Status style name scope program c (Err f) = ⊥

-- `merge`: the encoding of the set of all items. It is never refused.
abbrev pub Merge : Collected → Result (List ℕ × Ending) Fault → Type 0
Merge c (Ok told) = told ≡ (export_of c.contents.items, ending.Done)
Merge c (Err f) = ⊥

-- The encoding of a proof; nothing, if there is none.
abbrev pub told_of : Option Case → List ℕ × Ending
told_of None = ([], ending.NoProof)
told_of (Some c) = (proof_text c.parts, ending.Done)

-- `prove`: what is found against the node. It is refused only if the node is not listed.
abbrev pub Prove : {S : Type 0} → Meaning S → ℕ → Collected → Result (List ℕ × Ending) Fault → Type 0
Prove program node c (Ok told) = (found : Option Case) × IsFound program c.contents node found × (told ≡ told_of found)
Prove program node c (Err f) = (keys_at c.contents.directory node ≡ None) × (f ≡ fault.UnknownNode)

-- `check`: which node is convicted, under the program of this name and the directory with this encoding, written in this style. It is never
-- refused.
abbrev pub Check : Style → List ℕ → ℕ × List ℕ → Result (List ℕ × Ending) Fault → Type 0
Check style name found (Ok told) = told ≡ (conviction_text style found.0 name found.1, ending.Done)
Check style name found (Err f) = ⊥

-- `show`: what a text is and what is in it, written in this style. It is never refused.
abbrev pub Show : Style → List ℕ → Result (List ℕ × Ending) Fault → Type 0
Show style text (Ok told) = (shown : Shown) × IsShown text shown × (told ≡ (shown_text style shown, ending.Done))
Show style text (Err f) = ⊥

-- ---- laws, which `laws` proves

-- In the style of lines, `status` of all nodes writes the report that the commands on lines of digits write.
abbrev pub StandingsAreReports : Type 0 → Type 0
StandingsAreReports S = (program : Meaning S) (name : List ℕ) (c : Collected) (told : List ℕ × Ending) → Status style.Lines name scope.All program c (Ok told) ↔ (IsReport program c.contents told.0 × IsEnding scope.All program c.contents told.1)

-- `status` answers the same of the nodes of shard `k` for all evidence and for a set that is an extract of it for each of them. Such a set
-- is shard `k` of the evidence with what is quoted in it.
pub record ExtractsAreTold (S : Type 0) : Type 0 where
  pub answer : (style : Style) (name directory : List ℕ) (program : Meaning S) (shards k : ℕ) (s t : Contents) (a b : List ℕ × Ending) → s.directory ≡ t.directory → ((j : ℕ) → in_turn shards j ≡ k → IsExtract s.directory j s.items t.items)
      → Status style name (scope.Shard shards k) program (under directory s) (Ok a) → Status style name (scope.Shard shards k) program (under directory t) (Ok b) → a ≡ b
  pub shard : (style : Style) (name directory : List ℕ) (program : Meaning S) (shards k : ℕ) (s : Contents) (X : Items) (a b : List ℕ × Ending) → AddsQuotes s.directory (in_turn shards) s.items X
      → Status style name (scope.Shard shards k) program (under directory s) (Ok a) → Status style name (scope.Shard shards k) program (under directory (with_items s (own_shard (in_turn shards) k X))) (Ok b) → a ≡ b
