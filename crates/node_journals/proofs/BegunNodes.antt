-- The node that a beginning names.
use Rattle.std.proofs.Common.{◌≡◌, Bool, true, Option, Some, Result, Ok, ap, ◌∙◌}
use Rattle.std.specs.Option.{ok_or}
use Rattle.std.specs.Str.{bytes_eq}
use Rattle.sha2.specs.Sha256.{sha256}
use Rattle.lms_sign.specs.Signing.{PrivateKey}
use Rattle.outcome.specs.Outcome.{◌>>=◌, told_as}
use Rattle.authenticators.specs.Directory.{keys_at}
use Rattle.authenticators.specs.DirectoryText.{directory_text}
use Rattle.commitment.specs.declared.fault.NewFault.{NewFault}
use Rattle.commitment.specs.Keyrings.{Keyring}
use Rattle.commitment.specs.Nodes.{NodeState, begins_by, new_node}
use Rattle.node_journals.specs.declared.beginning.Beginning.{Beginning}
use Rattle.node_journals.specs.declared.fault.RebuildFault.{RebuildFault}
use Rattle.node_journals.specs.declared.fault.RebuildFault.TheVariants.{OtherDirectory, OtherKey, OtherProgram}
use Rattle.node_journals.specs.Keys.{key_for}
use Rattle.node_journals.specs.Rebuilding.{Supplied, begun_as, refused_unless}
use Rattle.node_journals.specs.Refusals.{of_new}

module _ {S : Type 0} (by : Supplied S) (b : Beginning) where
  abbrev node_by : Keyring → Result (NodeState S) RebuildFault
  node_by ring = Ok (new_node by.program by.directory b.me ring b.first_seq)

  abbrev by_key : PrivateKey → Result (NodeState S) RebuildFault
  by_key key = told_as of_new (begins_by (keys_at by.directory b.me) key) >>= node_by

  pub is_begun : (key : PrivateKey) (ring : Keyring) → bytes_eq b.program by.name ≡ true → bytes_eq b.directory (sha256 (directory_text by.directory)) ≡ true
      → key_for by.secrets b.key ≡ Some key → begins_by (keys_at by.directory b.me) key ≡ Ok ring → begun_as by b ≡ Ok (new_node by.program by.directory b.me ring b.first_seq)
  unfolding begun_as
  is_begun key ring named listed made begins =
      ap (λ (t : Bool). refused_unless OtherProgram t >>= λ _. refused_unless OtherDirectory (bytes_eq b.directory (sha256 (directory_text by.directory))) >>= λ _. ok_or (key_for by.secrets b.key) OtherKey >>= by_key) named
      ∙ ap (λ (t : Bool). refused_unless OtherDirectory t >>= λ _. ok_or (key_for by.secrets b.key) OtherKey >>= by_key) listed
      ∙ ap (λ (k : Option PrivateKey). ok_or k OtherKey >>= by_key) made
      ∙ ap (λ (r : Result Keyring NewFault). told_as of_new r >>= node_by) begins
