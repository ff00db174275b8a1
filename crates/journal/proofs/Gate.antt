-- Files that have a closed gate behind their blocks.
use Rattle.std.proofs.Common.{◌≡◌, ℕ, ◌+◌, ◌≤◌, min, List, [], ◌∷◌, ◌++◌, length, take, drop, refl, sym, ◌∙◌, ap, arith, append_assoc, length-append, length-take, take-append-drop, Bool, true, false}
use Rattle.std.proofs.lemmas.List.{append-nil, take_at, drop_at, take_all, drop_all, take-take}
use Rattle.std.proofs.lemmas.Bool.{le-leb}
use Rattle.std.specs.Prelude.{◌||◌, nat_le}
use Rattle.journal.specs.Device.{Holds, Torn, Cut}
use Rattle.journal.specs.Journal.{recovered, covered, size_of, ends_closed, StandsFor, IsAtRest, IsSameToGate}
use Rattle.journal.specs.declared.blocks.TheConstants.{MOST_GROUP}
use Rattle.journal.proofs.Spelled.{Parts, Spells, parts, length-spelled, spelled_closed}

-- whole open blocks that take so many bytes, a closed gate, and whatever stands behind it
pub record Gated (texts : List (List ℕ)) (end : ℕ) (file : List ℕ) : Type 0 where
  pub front : List ℕ
  pub behind : List ℕ
  pub is : file ≡ front ++ 0 ∷ behind
  pub spelled : Spells texts front
  pub size : length front ≡ end

or_right : (x y : Bool) → y ≡ true → (x || y) ≡ true
or_right true y is = refl
or_right false y is = is

or_left : (x y : Bool) → x ≡ true → (x || y) ≡ true
or_left x y is = ap (λ (t : Bool). t || y) is

-- ---- what such a file stands for

module _ (texts : List (List ℕ)) (end : ℕ) (file : List ℕ) (gated : Gated texts end file) where
  pub gated_recovered : recovered file ≡ texts
  gated_recovered = ap recovered gated.is ∙ spelled_closed texts gated.front gated.behind gated.spelled

  pub gated_covered : covered file ≡ end
  gated_covered = ap size_of gated_recovered ∙ sym (length-spelled texts gated.front gated.spelled) ∙ gated.size

  pub gated_drop : drop end file ≡ 0 ∷ gated.behind
  gated_drop = ap (λ (l : List ℕ). drop end l) gated.is ∙ drop_at gated.front (0 ∷ gated.behind) end gated.size

  pub gated_length : length file ≡ end + 1 + length gated.behind
  gated_length = omega (arith, ap length gated.is, length-append gated.front (0 ∷ gated.behind), gated.size)

  pub gated_reaches : end + 1 ≤ length file
  gated_reaches = omega (arith, gated_length)

  pub gated_take : take (end + 1) file ≡ gated.front ++ 0 ∷ []
  gated_take =
      ap (λ (l : List ℕ). take (end + 1) l) (gated.is ∙ sym (append_assoc gated.front (0 ∷ []) gated.behind))
      ∙ take_at (gated.front ++ 0 ∷ []) gated.behind (end + 1) (omega (arith, length-append gated.front (0 ∷ []), gated.size))

  pub gated_stands : length file ≤ end + 1 + MOST_GROUP → StandsFor texts file
  gated_stands most = (gated_recovered, or_right (nat_le (length file) 1) (ends_closed (drop (covered file) file)) closed_end)
    where
      closed_end : ends_closed (drop (covered file) file) ≡ true
      closed_end = ap (λ (n : ℕ). ends_closed (drop n file)) gated_covered ∙ ap ends_closed gated_drop ∙ le-leb (length gated.behind) MOST_GROUP (omega (arith, most, gated_length))

  -- another file that is the same to the gate
  pub gated_same : (other : List ℕ) → take (end + 1) other ≡ take (end + 1) file → Gated texts end other
  gated_same other same = record {
    front = gated.front;
    behind = drop (end + 1) other;
    is = sym (take-append-drop (end + 1) other) ∙ ap (λ (l : List ℕ). l ++ drop (end + 1) other) (same ∙ gated_take) ∙ append_assoc gated.front (0 ∷ []) (drop (end + 1) other);
    spelled = gated.spelled;
    size = gated.size;
  }

pub gated_then : (texts : List (List ℕ)) (end : ℕ) (file other : List ℕ) → Gated texts end file → IsSameToGate end file other → StandsFor texts other
gated_then texts end file other gated same = gated_stands texts end other (gated_same texts end file gated other same.front) same.behind

-- ---- files that have one

-- what stands behind the blocks
pub parted : (file : List ℕ) (end : ℕ) (p : Parts file) → end ≡ covered file → length p.front ≡ end
parted file end p ends = length-spelled (recovered file) p.front p.spelled ∙ sym ends

first_closed : (rest : List ℕ) → take 1 rest ≡ 0 ∷ [] → rest ≡ 0 ∷ drop 1 rest
first_closed [] is = absurd (omega (arith, ap length is))
first_closed (gate ∷ rest) is = ap (λ (g : List ℕ). g ++ rest) is

pub gated_of : (file : List ℕ) (end : ℕ) → end ≡ covered file → take 1 (drop end file) ≡ 0 ∷ [] → Gated (recovered file) end file
gated_of file end ends gate =
    let p = parts file in
    let size = parted file end p ends in
    let back : drop end file ≡ p.end = ap (λ (l : List ℕ). drop end l) p.split ∙ drop_at p.front p.end end size in
    let first : p.end ≡ 0 ∷ drop 1 p.end = first_closed p.end (ap (λ (l : List ℕ). take 1 l) (sym back) ∙ gate) in
    record { front = p.front; behind = drop 1 p.end; is = p.split ∙ ap (λ (l : List ℕ). p.front ++ l) first; spelled = p.spelled; size = size }

-- at rest there is nothing behind it
pub rests : (file : List ℕ) (end : ℕ) → end ≡ covered file → IsAtRest file → Gated (recovered file) end file
rests file end ends rest = gated_of file end ends (ap (λ (n : ℕ). take 1 (drop n file)) ends ∙ ap (λ (l : List ℕ). take 1 l) rest)

pub length-rests : (file : List ℕ) (end : ℕ) → end ≡ covered file → IsAtRest file → length file ≡ end + 1
length-rests file end ends rest =
    let g = rests file end ends rest in
    let tail : drop end file ≡ 0 ∷ [] = ap (λ (n : ℕ). drop n file) ends ∙ rest in
    let one : length (drop end file) ≡ 1 = ap length tail in
    omega (arith, one, gated_length (recovered file) end file g, ap length (gated_drop (recovered file) end file g))

-- a file that ends behind its gate is at rest
pub at_rest : (texts : List (List ℕ)) (end : ℕ) (file : List ℕ) → Gated texts end file → length file ≡ end + 1 → IsAtRest file
at_rest texts end file gated long =
    ap (λ (n : ℕ). drop n file) (gated_covered texts end file gated) ∙ gated_drop texts end file gated ∙ ap (λ (l : List ℕ). 0 ∷ l) (none gated.behind (omega (arith, long, gated_length texts end file gated)))
  where
    none : (l : List ℕ) → length l ≡ 0 → l ≡ []
    none [] is = refl
    none (x ∷ l) is = absurd (omega arith)

-- ---- what the calls leave of it

-- what stands before a write
pub torn_front : (at n : ℕ) (old new : List ℕ) → at ≤ length old → Torn at n old new → take at new ≡ take at old
torn_front at n old new le torn =
    let whole : min at (length old) ≡ at = omega (arith, le) in
    ap (λ (k : ℕ). take k new) (sym whole) ∙ torn.before ∙ ap (λ (k : ℕ). take k old) whole

-- a write behind the gate that is cut short
pub torn_same : (end n : ℕ) (file other : List ℕ) → length file ≡ end + 1 → n ≤ MOST_GROUP → Torn (end + 1) n file other → IsSameToGate end file other
torn_same end n file other long few torn = record { front = torn_front (end + 1) n file other (omega (arith, long)) torn; behind = omega (arith, long, few, torn.no_longer) }

-- a cut behind it that may not be done
pub cut_front : (at : ℕ) (file other : List ℕ) → at ≤ length file → Cut at file other → take at other ≡ take at file
cut_front at file other le cut = ap (λ (l : List ℕ). take at l) (sym cut.front) ∙ take-take at (length other) file (omega (arith, le, cut.no_shorter))

pub cut_shorter : (at : ℕ) (file other : List ℕ) → Cut at file other → length other ≤ length file
cut_shorter at file other cut = omega (arith, ap length cut.front, length-take (length other) file)

-- a whole write behind it
pub written_behind : (file bytes other : List ℕ) (end : ℕ) → length file ≡ end + 1 → Holds file (end + 1) bytes other → other ≡ file ++ bytes
written_behind file bytes other end long holds =
    holds
    ∙ ap (λ (l : List ℕ). l ++ bytes ++ drop (end + 1 + length bytes) file) (take_all (end + 1) file (omega (arith, long)))
    ∙ ap (λ (l : List ℕ). file ++ bytes ++ l) (drop_all (end + 1 + length bytes) file (omega (arith, long)))
    ∙ append-nil (file ++ bytes)

pub behind_same : (file bytes : List ℕ) (end : ℕ) → length file ≡ end + 1 → length bytes ≤ MOST_GROUP → IsSameToGate end file (file ++ bytes)
behind_same file bytes end long few =
    record {
      front = take_at file bytes (end + 1) long ∙ sym (take_all (end + 1) file (omega (arith, long)));
      behind = omega (arith, long, few, length-append file bytes);
    }
