-- Collisions. Only a collision or a forged statement can make fail what is said here of hashed texts. A collision is sought in a finite
-- list: the texts that were hashed.
use Rattle.std.specs.Prelude.{◌≡◌, ◌≢◌, ℕ, List, [], ◌∷◌}
use Rattle.std.specs.List.{Contains}
use Rattle.sha2.specs.Sha256.{sha256}
use Rattle.outcome.specs.Bytes.{IsBytes}

-- Two different texts of the list have one SHA-256 value. Both are texts of bytes.
pub record Collision (list : List (List ℕ)) : Type 0 where
  pub one : List ℕ
  pub other : List ℕ
  pub one_listed : Contains list one
  pub other_listed : Contains list other
  pub one_bytes : IsBytes one
  pub other_bytes : IsBytes other
  pub differ : one ≢ other
  pub same : sha256 one ≡ sha256 other

-- ---- laws, which `laws` proves

-- What is a collision and what is none.
pub record CollisionsAreOfTwoTexts : Type 0 where
  -- Two different texts of the list with one SHA-256 value are a collision.
  pub found : (list : List (List ℕ)) (x y : List ℕ) → Contains list x → Contains list y → IsBytes x → IsBytes y → x ≢ y → sha256 x ≡ sha256 y → Collision list
  -- A list in which each value has one text has no collision.
  pub one_each : (list : List (List ℕ)) → ((x y : List ℕ) → Contains list x → Contains list y → sha256 x ≡ sha256 y → x ≡ y) → ¬ (Collision list)
  -- A list of one text has no collision.
  pub lone : (x : List ℕ) → ¬ (Collision (x ∷ []))
  -- A list with a collision still has one if more texts are added.
  pub stay : (list more : List (List ℕ)) → ((x : List ℕ) → Contains list x → Contains more x) → Collision list → Collision more
