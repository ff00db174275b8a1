-- An open gate with no block that counts is damage.
use Rattle.std.proofs.Common.{◌≡◌, ℕ, ◌+◌, List, [], ◌∷◌, ◌++◌, length, drop, refl, sym, ◌∙◌, ap, subst, arith, length-append, inl, inr, Bool, true, false}
use Rattle.std.specs.Prelude.{not, ◌==◌, ◌&&◌, nat_le}
use Rattle.std.proofs.lemmas.Bool.{and_left, and_right, or_from, lt-leb, ne_eqb}
use Rattle.std.proofs.lemmas.List.{append-nil, drop_at}
use Rattle.journal.specs.Journal.{recovered, covered, size_of, ends_closed, can_be_left}
use Rattle.journal.specs.Damage.{OpenGatesHaveBlocks, LostBitsAreSeen, LeftFilesAreRead}
use Rattle.journal.specs.declared.blocks.TheConstants.{MOST_GROUP}
use Rattle.journal.proofs.Spelled.{Head, laid, Spells, parts, first_not, length-spelled, spelled_then}

-- what takes all of its bytes is spelled by them
pub whole : (front : List ℕ) → covered front ≡ length front → Spells (recovered front) front
whole front is =
    let p = parts front in
    let size = length-spelled (recovered front) p.front p.spelled in
    let all : p.end ≡ [] = none p.end (omega (arith, ap length p.split, length-append p.front p.end, size, is)) in
    subst (Spells (recovered front)) (sym (p.split ∙ ap (λ (l : List ℕ). p.front ++ l) all ∙ append-nil p.front)) p.spelled
  where
    none : (l : List ℕ) → length l ≡ 0 → l ≡ []
    none [] few = refl
    none (x ∷ l) few = absurd (omega arith)

pub open_gates : OpenGatesHaveBlocks
open_gates front behind gate a b c d e f g h is is_open not_so =
    let x : Head = record { gate = gate; a = a; b = b; c = c; d = d; e = e; f = f; i = g; j = h } in
    let file = front ++ laid x behind in
    let s = whole front is in
    let stands : recovered file ≡ recovered front = spelled_then (recovered front) front (laid x behind) s ∙ ap (λ (l : List (List ℕ)). recovered front ++ l) (first_not x behind not_so) ∙ append-nil (recovered front) in
    let end : covered file ≡ length front = ap size_of stands ∙ is in
    let back : drop (covered file) file ≡ laid x behind = ap (λ (n : ℕ). drop n file) end ∙ drop_at front (laid x behind) (length front) refl in
    or_from (nat_le (length file) 1) (ends_closed (drop (covered file) file)) (lt-leb (length file) 1 (omega (arith, length-append front (laid x behind))))
    (ap ends_closed back ∙ and_left (gate == 0) (nat_le (length (a ∷ b ∷ c ∷ d ∷ e ∷ f ∷ g ∷ h ∷ behind)) MOST_GROUP) (ne_eqb gate 0 is_open))

pub lost_bits : LostBitsAreSeen
lost_bits gate size lack behind fewer =
    and_right (not (gate == 0)) ((size + lack == 4294967295) && nat_le size behind) (and_left (size + lack == 4294967295) (nat_le size behind) (ne_eqb (size + lack) 4294967295 (λ same. absurd (omega (arith, same, fewer)))))

differ : (b : Bool) → b ≡ true → b ≡ false → ⊥
differ true is not_so = cc not_so
differ false is not_so = cc is

pub left_read : LeftFilesAreRead
left_read file found behind seen left is all (inl damaged) = differ (can_be_left file) left (ap can_be_left (sym is) ∙ damaged behind)
left_read file found behind seen left is all (inr damaged) = differ (can_be_left file) left (ap can_be_left (sym (all damaged.0)) ∙ damaged.1)
