-- Signatures that are verified together, and what is hashed of each (RFC 8554, sections 4.6 and 5.4.2).
use Rattle.std.specs.Prelude.{◌≡◌, ℕ, ◌+◌, ◌*◌, ◌^◌, ◌<◌, ◌≤◌, List, length, drop, slice_index_or}
use Rattle.lms_sign.specs.declared.key.PublicKey.{PublicKey}
use Rattle.lms_sign.specs.declared.signed.Signed.{Signed}
use Rattle.lms_sign.specs.declared.side_by_side.TheConstants.{ROOM}
use Rattle.lms_sign.specs.declared.types.OtsType.{OtsType}
use Rattle.lms_sign.specs.MerkleTree.{ancestor, leaf_hash}
use Rattle.lms_sign.specs.Numbers.{hash_at, u32_at}
use Rattle.lms_sign.specs.OneTimeSignature.{key_candidate, message_digest}
use Rattle.lms_sign.specs.Parameters.{chain_count, height, lms_typecode, ots_typecode, signature_len}

-- The bytes have the form of a signature under the key.
pub record HasForm (key : PublicKey) (sig : List ℕ) : Type 0 where
  pub len : length sig ≡ signature_len key.lms_type key.ots_type
  pub leaf : u32_at sig 0 < 2 ^ height key.lms_type
  pub ots_type : u32_at sig 4 ≡ ots_typecode key.ots_type
  pub lms_type : u32_at sig (40 + 32 * chain_count key.ots_type) ≡ lms_typecode key.lms_type

-- Q, the digest that the signature signs
abbrev pub digest_of : Signed → List ℕ
digest_of s = message_digest s.key.now.id (u32_at s.signature.now 0) (hash_at s.signature.now 8) s.message.now

-- Kc, the one-time public key that the signature gives
abbrev pub key_of : Signed → List ℕ
key_of s = key_candidate s.key.now.ots_type s.key.now.id (u32_at s.signature.now 0) (hash_at s.signature.now 8) (drop 40 s.signature.now) s.message.now

-- the number of the leaf's node
abbrev pub node_of : Signed → ℕ
node_of s = 2 ^ height s.key.now.lms_type + u32_at s.signature.now 0

-- the hash of the node k levels above the leaf
abbrev pub hash_above : Signed → ℕ → List ℕ
hash_above s k =
    ancestor s.key.now.id (drop (44 + 32 * chain_count s.key.now.ots_type) s.signature.now) (node_of s)
    (leaf_hash s.key.now.id (node_of s) (key_of s)) k

-- Eight signatures that are verified together: their keys have one type of one-time signature, and their messages one length.
pub record IsGroup (ots : OtsType) (n : ℕ) (group : List Signed) : Type 0 where
  pub form : (j : ℕ) (d : Signed) → j < 8 → HasForm (slice_index_or group j d).key.now (slice_index_or group j d).signature.now
  pub ots_type : (j : ℕ) (d : Signed) → j < 8 → (slice_index_or group j d).key.now.ots_type ≡ ots
  pub len : (j : ℕ) (d : Signed) → j < 8 → length (slice_index_or group j d).message.now ≡ n

-- The second has the form of a signature. Its key has the type of one-time signature of the first key, and its message has the
-- length of the first message, which has room.
pub record IsLike (first other : Signed) : Type 0 where
  pub form : HasForm other.key.now other.signature.now
  pub ots_type : other.key.now.ots_type ≡ first.key.now.ots_type
  pub len : length other.message.now ≡ length first.message.now
  pub room : 54 + length other.message.now ≤ ROOM
