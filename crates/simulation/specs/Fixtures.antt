-- The keys of the nodes of scenarios, and the directory that lists them. Real nodes draw their keys at random.
use Rattle.std.specs.Prelude.{ℕ, List, [], ◌∷◌, ◌++◌, map, replicate}
use Rattle.std.specs.Int.{w32, to_be_bytes}
use Rattle.lms_sign.specs.declared.key.PublicKey.{PublicKey}
use Rattle.lms_sign.specs.declared.types.LmsType.TheVariants.{H5}
use Rattle.lms_sign.specs.declared.types.OtsType.TheVariants.{W8}
use Rattle.lms_sign.specs.Signing.{PrivateKey, new_key, public_key}
use Rattle.authenticators.specs.Directory.{Listing}
use Rattle.scenarios.specs.declared.instruction.Member.{Member}

-- So many bytes, each of them the key's number, and behind them the node's number in four bytes.
unfoldable pub bytes_of : ℕ → ℕ → ℕ → List ℕ
bytes_of count node number = replicate count number ++ to_be_bytes w32 node

-- A key of a node, by the key's number from 0. Its identifier has 16 bytes, and its seed 32.
unfoldable pub secret_of : ℕ → ℕ → PrivateKey
secret_of node number = new_key H5 W8 (bytes_of 12 node number) (bytes_of 28 node number)

-- The public key of a node's key, by the key's number from 0.
abbrev pub public_of : ℕ → ℕ → PublicKey
public_of node number = public_key (secret_of node number)

-- The keys of a node: the one with which it begins, and the one that it may take next.
abbrev pub keys_of : ℕ → List PublicKey
keys_of node = public_of node 0 ∷ public_of node 1 ∷ []

-- The directory of the nodes. It lists each with its two keys, in the order in which the nodes are listed.
abbrev pub directory_of : List Member → Listing
directory_of nodes = map (λ m. (m.id, keys_of m.id)) nodes
