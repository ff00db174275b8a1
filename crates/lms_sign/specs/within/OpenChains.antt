-- Chains that are being run, each from its own step on (RFC 8554, section 4.3).
use Rattle.std.specs.Prelude.{◌≡◌, ℕ, ◌+◌, ◌-◌, ◌*◌, ◌^◌, ◌≤◌, List}
use Rattle.sha256_lanes.specs.HashChain.{chain}
use Rattle.lms_sign.specs.declared.open_chain.OpenChain.{OpenChain}
use Rattle.lms_sign.specs.declared.types.OtsType.{OtsType}
use Rattle.lms_sign.specs.Numbers.{coef, hash_at}
use Rattle.lms_sign.specs.OneTimeSignature.{chain_place}
use Rattle.lms_sign.specs.Parameters.{width}

-- where a chain leads: its value after the steps that it has left
abbrev pub leads_to : OpenChain → List ℕ
leads_to c = chain c.place c.step c.left c.value

-- the number of each step that is left is a byte
abbrev pub HasRoom : OpenChain → Type 0
HasRoom c = c.step + c.left ≤ 256

-- `now` is the chain `before`, some steps on
pub record IsAhead (before now : OpenChain) : Type 0 where
  pub place : now.place ≡ before.place
  pub left : now.left ≤ before.left
  pub last : now.step + now.left ≡ before.step + before.left
  pub end : leads_to now ≡ leads_to before

-- chain i of a signature by leaf q, at the value that the signature has: `text` is the digest and its checksum, and `ys`
-- begins with the values (section 4.6)
abbrev pub from_signature : OtsType → List ℕ → ℕ → List ℕ → List ℕ → ℕ → OpenChain
from_signature ots id q text ys i =
    let a = coef text i (width ots) in
    record { place = chain_place id q i; step = a; left = 2 ^ width ots - 1 - a; value = hash_at ys (32 * i) }

-- chain i of leaf q before its start is made; its one step, of the number 0xff, hashes the seed as if it were a value
-- (appendix A)
abbrev pub from_seed : List ℕ → List ℕ → ℕ → ℕ → OpenChain
from_seed id seed q i = record { place = chain_place id q i; step = 0xff; left = 1; value = seed }

-- the same chain and value at step 0, with this number of steps left
abbrev pub restarted : OpenChain → ℕ → OpenChain
restarted c steps = record { place = c.place; step = 0; left = steps; value = c.value }
