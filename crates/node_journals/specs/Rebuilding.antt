-- Which node a journal is rebuilt to, or the first reason why there is none.
use Rattle.std.specs.Prelude.{ℕ, Bool, List, [], ◌∷◌, Result, Ok, Err, if◌then◌else◌}
use Rattle.std.specs.Option.{ok_or}
use Rattle.std.specs.Str.{bytes_eq}
use Rattle.sha2.specs.Sha256.{sha256}
use Rattle.outcome.specs.Outcome.{◌>>=◌, told_as}
use Rattle.authenticators.specs.Directory.{Listing, keys_at}
use Rattle.authenticators.specs.DirectoryText.{directory_text}
use Rattle.commitment.specs.Calls.{Given}
use Rattle.commitment.specs.Nodes.{NodeState, begins_by, new_node}
use Rattle.replay_verifier.specs.Meaning.{Meaning}
use Rattle.node_runs.specs.Runs.{run}
use Rattle.node_journals.specs.declared.beginning.Beginning.{Beginning}
use Rattle.node_journals.specs.declared.fault.RebuildFault.{RebuildFault}
use Rattle.node_journals.specs.declared.fault.RebuildFault.TheVariants.{EmptyJournal, OtherDirectory, OtherKey, OtherProgram}
use Rattle.node_journals.specs.declared.keys.Secret.{Secret}
use Rattle.node_journals.specs.Beginnings.{beginning_of}
use Rattle.node_journals.specs.Giving.{given_of}
use Rattle.node_journals.specs.Keys.{key_for}
use Rattle.node_journals.specs.Records.{recorded_of}
use Rattle.node_journals.specs.Refusals.{as_bad_record, as_no_beginning, of_new}

-- What the operator of a node supplies: the program and its name, the directory, and the seeds of its keys.
pub record Supplied (S : Type 0) : Type 0 where
  pub program : Meaning S
  pub name : List ℕ
  pub directory : Listing
  pub secrets : List Secret

-- `Ok` if the test passes, else the refusal.
abbrev pub refused_unless : RebuildFault → Bool → Result (Unit {0}) RebuildFault
refused_unless e passes = if passes then Ok tt else Err e

-- ---- the beginning

-- The beginning that the first text is.
abbrev pub first_of : List (List ℕ) → Result Beginning RebuildFault
first_of [] = Err EmptyJournal
first_of (first ∷ texts) = told_as as_no_beginning (beginning_of first)

-- The node that began so: under the same program and directory, with a key that one of the secrets makes.
unfoldable pub begun_as : {S : Type 0} → Supplied S → Beginning → Result (NodeState S) RebuildFault
begun_as by b = do
  _ ← refused_unless OtherProgram (bytes_eq b.program by.name)
  _ ← refused_unless OtherDirectory (bytes_eq b.directory (sha256 (directory_text by.directory)))
  key ← ok_or (key_for by.secrets b.key) OtherKey
  ring ← told_as of_new (begins_by (keys_at by.directory b.me) key)
  Ok (new_node by.program by.directory b.me ring b.first_seq)

-- ---- the records

-- What the record of a text gives a node.
unfoldable pub input_of : List Secret → List ℕ → Result Given RebuildFault
input_of secrets text = do
  recorded ← told_as as_bad_record (recorded_of text)
  ok_or (given_of secrets recorded) OtherKey

-- What the records of these texts give, in order.
unfoldable pub inputs_of : List Secret → List (List ℕ) → Result (List Given) RebuildFault
inputs_of secrets [] = Ok []
inputs_of secrets (text ∷ texts) = do
  input ← input_of secrets text
  inputs ← inputs_of secrets texts
  Ok (input ∷ inputs)

-- The node after it was given what the records of these texts give, in order.
unfoldable pub replayed : {S : Type 0} → Meaning S → List Secret → NodeState S → List (List ℕ) → Result (NodeState S) RebuildFault
replayed p secrets n texts = do
  inputs ← inputs_of secrets texts
  Ok (run p n inputs)

-- ---- the whole

-- The texts after the first.
abbrev pub behind_first : List (List ℕ) → List (List ℕ)
behind_first [] = []
behind_first (first ∷ texts) = texts

-- The node of a journal: the one that its first text began, after it was given what the further texts record, in order.
unfoldable pub rebuilt : {S : Type 0} → Supplied S → List (List ℕ) → Result (NodeState S) RebuildFault
rebuilt by texts = do
  beginning ← first_of texts
  first ← begun_as by beginning
  replayed by.program by.secrets first (behind_first texts)
