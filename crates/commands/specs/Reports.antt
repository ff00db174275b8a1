-- What is said of the nodes of a directory, in lines of text.
use Rattle.std.specs.Prelude.{◌≡◌, ◌↔◌, ℕ, List, ◌++◌, map, codes, decimal, Contains, All, IsSome}
use Rattle.std.specs.List.{flat_map}
use Rattle.std.specs.List.Sorted.{IsStrictlyIncreasing}
use Rattle.authenticators.specs.Directory.{keys_at}
use Rattle.replay_verifier.specs.Meaning.{Meaning}
use Rattle.evidence_set.specs.declared.indication.Indication.{Indication}
use Rattle.evidence_set.specs.Indications.{IsIndication}
use Rattle.evidence_set.specs.Names.{name_of}
use Rattle.evidence.specs.Contents.{Contents}

-- The end of a node's line: a blank, the word for what is said of the node, and a line feed.
abbrev pub ending_of : Indication → List ℕ
ending_of i = codes " " ++ name_of i ++ codes "\n"

-- A node's line: its number in decimal digits, a blank, the word for what is said of it, and a line feed.
abbrev pub line_of : ℕ × Indication → List ℕ
line_of row = decimal row.0 ++ ending_of row.1

-- The text is the report of the evidence. It has a line for each listed node and no other, in ascending order of the numbers. Each line has
-- what the items say of its node.
pub record IsReport {S : Type 0} (program : Meaning S) (s : Contents) (text : List ℕ) : Type 0 where
  pub rows : List (ℕ × Indication)
  pub ascending : IsStrictlyIncreasing (map (λ row. row.0) rows)
  pub complete : (node : ℕ) → Contains (map (λ row. row.0) rows) node ↔ IsSome (keys_at s.directory node)
  pub right : All (λ row. IsIndication s.directory program s.items row.0 row.1) rows
  pub spelled : text ≡ flat_map line_of rows
