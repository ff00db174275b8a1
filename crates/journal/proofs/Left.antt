-- Files that a crash can leave.
use Rattle.std.proofs.Common.{◌≡◌, ℕ, ◌+◌, ◌≤◌, ◌<◌, List, [], ◌∷◌, ◌++◌, length, take, drop, refl, sym, ◌∙◌, ap, subst, arith, Bool, true, false}
use Rattle.std.specs.Prelude.{◌==◌, ◌||◌, nat_le}
use Rattle.std.proofs.lemmas.Bool.{and_parts, leb-true, lt-leb, eqb-true}
use Rattle.std.proofs.lemmas.List.{take_at}
use Rattle.journal.specs.Device.{Cut, Follows, Only}
use Rattle.journal.specs.Journal.{recovered, covered, ends_closed, can_be_left, StandsFor, IsSameToGate}
use Rattle.journal.specs.declared.blocks.TheConstants.{MOST_GROUP}
use Rattle.journal.proofs.Gate.{Gated, gated_of, gated_drop, gated_length, gated_reaches, gated_take, gated_then}
use Rattle.journal.proofs.Closed.{cut_each}

second_of : (x y : Bool) → (x || y) ≡ true → x ≡ false → y ≡ true
second_of true y is not_so = absurd (differ not_so)
  where
    differ : true ≡ false → ⊥
    differ e = cc e
second_of false y is not_so = is

-- the parts of an end that is closed
record Ends (rest : List ℕ) : Type 0 where
  pub behind : List ℕ
  pub is : rest ≡ 0 ∷ behind
  pub few : length behind ≤ MOST_GROUP

ends_of : (rest : List ℕ) → ends_closed rest ≡ true → Ends rest
ends_of [] is = absurd (differ is)
  where
    differ : false ≡ true → ⊥
    differ e = cc e
ends_of (gate ∷ behind) is =
    let both = and_parts (gate == 0) (nat_le (length behind) MOST_GROUP) is in
    record { behind = behind; is = ap (λ (g : ℕ). g ∷ behind) (eqb-true gate 0 both.0); few = leb-true (length behind) MOST_GROUP both.1 }

-- one of more than a byte has a closed gate, and at most a group behind it
pub record Left (file : List ℕ) (end : ℕ) : Type 0 where
  pub gated : Gated (recovered file) end file
  pub most : length file ≤ end + 1 + MOST_GROUP

length-dropped : (file : List ℕ) (end : ℕ) → Gated (recovered file) end file → length file ≡ end + length (drop end file)
length-dropped file end gated = omega (arith, gated_length (recovered file) end file gated, ap length (gated_drop (recovered file) end file gated))

pub left_of : (file : List ℕ) (end : ℕ) → end ≡ covered file → can_be_left file ≡ true → 1 < length file → Left file end
left_of file end ends left long =
    let closed_end = second_of (nat_le (length file) 1) (ends_closed (drop (covered file) file)) left (lt-leb (length file) 1 long) in
    let e = ends_of (drop (covered file) file) closed_end in
    let back : drop end file ≡ 0 ∷ e.behind = ap (λ (n : ℕ). drop n file) ends ∙ e.is in
    let gated = gated_of file end ends (ap (λ (l : List ℕ). take 1 l) back) in
    record { gated = gated; most = omega (arith, e.few, ap length back, length-dropped file end gated) }

-- each outcome of a cut behind the gate stands for the same texts
pub cut_stands : (file : List ℕ) (end : ℕ) (old new : List ℕ → Type 0) → Left file end → Only file old → Follows (Cut (end + 1)) old new → (c : List ℕ) → new c → StandsFor (recovered file) c
cut_stands file end old new left only follows c now =
    let same : IsSameToGate end file file = record { front = refl; behind = left.most } in
    gated_then (recovered file) end file c left.gated (cut_each end file old new (gated_reaches _ _ _ left.gated) (λ d was. subst (IsSameToGate end file) (sym (only d was)) same) follows c now)

pub cut_is : (file new : List ℕ) (end : ℕ) → Left file end → new ≡ take (end + 1) file → new ≡ take end file ++ 0 ∷ []
cut_is file new end left is =
    let g = left.gated in
    let front : take end file ≡ g.front = ap (λ (l : List ℕ). take end l) g.is ∙ take_at g.front (0 ∷ g.behind) end g.size in
    is ∙ gated_take (recovered file) end file g ∙ ap (λ (l : List ℕ). l ++ 0 ∷ []) (sym front)
