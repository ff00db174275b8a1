-- What is known of a node whose host keeps its journal by these calls. `laws` proves it.
use Rattle.std.specs.Prelude.{◌≡◌, ℕ, ◌≤◌, ◌<◌, ◌^◌, List, [], ◌∷◌, ◌++◌, length, take, Some, Result, Ok}
use Rattle.outcome.specs.Bytes.{IsBytes}
use Rattle.lms_sign.specs.Signing.{PrivateKey}
use Rattle.journal.specs.Journal.{covered}
use Rattle.journal.specs.declared.blocks.TheConstants.{MOST_GROUP}
use Rattle.item_forms.specs.declared.forms.Fields.{Fields}
use Rattle.commitment.specs.Calls.{first_or_old, or_old}
use Rattle.commitment.specs.Nodes.{NodeState, checkpointed, rekeyed}
use Rattle.replay_verifier.specs.Meaning.{Meaning}
use Rattle.node_journals.specs.declared.keys.Secret.{Secret}
use Rattle.node_journals.specs.Keys.{seed_of}
use Rattle.byte_calls.specs.declared.refusal.Refusal.{Refusal}
use Rattle.byte_calls.specs.declared.refusal.Refusal.TheVariants as refusal
use Rattle.byte_calls.specs.Journals.{acceptance_text, block_text, checkpoint_text, receipt_text, rekeying_text, restored, secrets_of, tick_text}
use Rattle.byte_calls.specs.Nodes.{Replies, accepted, key_of, known, ticked_by}

-- What the host of a node supplies: the program and its name, the text of the directory, and the secrets of the node's keys.
pub record Host (S : Type 0) : Type 0 where
  pub program : Meaning S
  pub name : List ℕ
  pub directory : List ℕ
  pub secrets : List ℕ

-- The node of a journal's bytes.
abbrev pub node_of : {S : Type 0} → Host S → List ℕ → Result (NodeState S) Refusal
node_of host file = restored host.program host.name host.directory host.secrets file

-- The bytes while a block is written: its gate is closed, and a crash may leave any bytes behind it.
abbrev pub torn : List ℕ → List ℕ → List ℕ
torn file behind = take (covered file) file ++ 0 ∷ behind

-- The bytes after a block was written behind the others, with a closed gate behind it.
abbrev pub with_block : List ℕ → List ℕ → List ℕ
with_block file block = take (covered file) file ++ block ++ 0 ∷ []

-- The first of the secrets with this identifier has the seed.
abbrev pub HasSecret : List ℕ → List ℕ → List ℕ → Type 0
HasSecret secrets id seed = (keys : List Secret) × (secrets_of secrets ≡ Ok keys) × (seed_of keys id ≡ Some seed)

-- The node of a journal is the node that went on, before each record and after it.
pub record JournalsFollow (S : Type 0) : Type 0 where
  -- While a record is written, the bytes have the node from before it, whatever a crash leaves of the record.
  pub before : (host : Host S) (file behind : List ℕ) (n : NodeState S) → node_of host file ≡ Ok n → length behind ≤ MOST_GROUP → node_of host (torn file behind) ≡ Ok n
  -- Then they have the node after the call that is recorded. A call that the node refuses leaves it as it was.
  pub timer : (host : Host S) (file text block : List ℕ) (n : NodeState S) (moment : ℕ) (entropy : List ℕ) → node_of host file ≡ Ok n → moment < 2 ^ 64 → IsBytes entropy
      → tick_text moment entropy ≡ Ok text → block_text text ≡ Ok block → node_of host (with_block file block) ≡ Ok (or_old n (ticked_by host.program n moment entropy))
  pub checkpoint : (host : Host S) (file block : List ℕ) (n : NodeState S) → node_of host file ≡ Ok n
      → block_text checkpoint_text ≡ Ok block → node_of host (with_block file block) ≡ Ok (first_or_old n (checkpointed host.program n))
  pub next_key : (host : Host S) (file text block : List ℕ) (n : NodeState S) (lms ots : ℕ) (id seed : List ℕ) (key : PrivateKey) → node_of host file ≡ Ok n → HasSecret host.secrets id seed
      → key_of lms ots id seed ≡ Ok key → rekeying_text lms ots id seed ≡ Ok text → block_text text ≡ Ok block
      → node_of host (with_block file block) ≡ Ok (or_old n (known refusal.WrongKey (rekeyed n key)))
  -- So it is with an answer to a message, and with an acknowledgement that the node accepts.
  pub answer : (host : Host S) (file text block : List ℕ) (n m : NodeState S) (challenge entropy : List ℕ) (item : Fields) → node_of host file ≡ Ok n → IsBytes challenge → IsBytes entropy
      → receipt_text challenge entropy ≡ Ok text → block_text text ≡ Ok block → Replies host.program challenge entropy item n m → node_of host (with_block file block) ≡ Ok m
  pub ack : (host : Host S) (file text block : List ℕ) (n m : NodeState S) (text_of_ack : List ℕ) → node_of host file ≡ Ok n → IsBytes text_of_ack
      → acceptance_text text_of_ack ≡ Ok text → block_text text ≡ Ok block → accepted n text_of_ack ≡ Ok m → node_of host (with_block file block) ≡ Ok m
