-- The keys that a node's operator can make again, by their seeds.
use Rattle.std.specs.Prelude.{ℕ, List, [], ◌∷◌, nat_lt, Option, Some, None, if◌then◌else◌}
use Rattle.std.specs.Str.{bytes_eq}
use Rattle.lms_sign.specs.declared.key.PublicKey.{PublicKey}
use Rattle.lms_sign.specs.Parameters.{height}
use Rattle.lms_sign.specs.Signing.{PrivateKey, new_key, public_key}
use Rattle.authenticators.specs.Directory.{same_key}
use Rattle.node_journals.specs.declared.keys.Secret.{Secret}

-- The seed of the first secret with the identifier.
abbrev pub seed_of : List Secret → List ℕ → Option (List ℕ)
seed_of [] id = None
seed_of (s ∷ ss) id = if bytes_eq s.id id then Some s.seed else seed_of ss id

-- The private key, if it is that of the public key.
abbrev pub if_is : PublicKey → PrivateKey → Option PrivateKey
if_is key k = if same_key (public_key k) key then Some k else None

-- The key of a seed, if it is that of the public key. Keys with trees above a height of 10 are not made.
abbrev pub made_of : PublicKey → Option (List ℕ) → Option PrivateKey
made_of key None = None
made_of key (Some seed) = if nat_lt 10 (height key.lms_type) then None else if_is key (new_key key.lms_type key.ots_type key.id seed)

-- The private key of a public key, with no leaf used, if one of the secrets makes it.
abbrev pub key_for : List Secret → PublicKey → Option PrivateKey
key_for secrets key = made_of key (seed_of secrets key.id)
