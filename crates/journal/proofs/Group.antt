-- A group of texts as it is written.
use Rattle.std.proofs.Common.{◌≡◌, ℕ, ◌+◌, ◌≤◌, ◌<◌, List, [], ◌∷◌, ◌++◌, length, take, Vec, refl, ap, arith, length-append}
use Rattle.std.specs.declared.alloc.Global.{Global}
use Rattle.journal.specs.Journal.{recovered, size_of, blocks_of, texts_of, IsAtRest, IsClosed, IsSettled}
use Rattle.journal.specs.declared.blocks.TheConstants.{MOST_GROUP}
use Rattle.journal.specs.declared.journal.Journal.{Journal}
use Rattle.journal.proofs.Spelled.{Spells, spelled_blocks, length-spelled}
use Rattle.journal.proofs.Gate.{Gated, gated_recovered, at_rest, rests, length-rests}
use Rattle.journal.proofs.Closed.{closed_at}

-- the blocks of the texts, and the closed gate behind them
pub record Written (vectors : List (Vec ℕ Global)) (group : List ℕ) : Type 0 where
  pub texts : recovered group ≡ texts_of vectors
  pub rest : IsAtRest group
  pub some : 1 < length group
  pub few : length group ≤ 1 + MOST_GROUP

size_some : (vectors : List (Vec ℕ Global)) → 0 < length vectors → 0 < size_of (texts_of vectors)
size_some [] some = absurd (omega arith)
size_some (v ∷ vectors) some = omega arith

pub written : (vectors : List (Vec ℕ Global)) (group : List ℕ) → 0 < length vectors → size_of (texts_of vectors) ≤ MOST_GROUP → group ≡ blocks_of (texts_of vectors) ++ 0 ∷ [] → Written vectors group
written vectors group some fit is =
    let s : Spells (texts_of vectors) (blocks_of (texts_of vectors)) = spelled_blocks vectors (omega (arith, fit)) in
    let size = length-spelled (texts_of vectors) (blocks_of (texts_of vectors)) s in
    let gated : Gated (texts_of vectors) (size_of (texts_of vectors)) group = record { front = blocks_of (texts_of vectors); behind = []; is = is; spelled = s; size = size } in
    let long : length group ≡ size_of (texts_of vectors) + 1 = omega (arith, ap length is, length-append (blocks_of (texts_of vectors)) (0 ∷ []), size) in
    record {
      texts = gated_recovered (texts_of vectors) (size_of (texts_of vectors)) group gated;
      rest = at_rest (texts_of vectors) (size_of (texts_of vectors)) group gated long;
      some = omega (arith, long, size_some vectors some);
      few = omega (arith, long, fit);
    }

-- a journal at rest has its gate closed
pub settled_closed : {D : Type 0} (seen : D → List ℕ) (may_leave : D → List ℕ → Type 0) (journal : Journal D) → IsSettled seen may_leave journal → IsClosed seen may_leave journal
settled_closed seen may_leave journal s =
    let file = seen journal.device in
    let long = length-rests file journal.end s.end s.rest in
    closed_at seen may_leave journal.end file s.end s.small (rests file journal.end s.end s.rest) journal.device refl
    (λ c left. record { front = ap (λ (l : List ℕ). take (journal.end + 1) l) (s.durable c left); behind = omega (arith, long, ap length (s.durable c left)) })
