-- Groups of digits, one behind the other.
use Rattle.std.proofs.Common.{◌≡◌, ◌≤◌, ◌<◌, ◌++◌, ℕ, List, [], ◌∷◌, arith, drop, length, refl, ap, sym, take, ◌∙◌, append_assoc}
use Rattle.std.proofs.lemmas.List.{append-nil}
use Rattle.hex.specs.Hex.{encode_lower}
use Rattle.sentences.specs.Bases.{groups}

first : (left : List ℕ) → 2 ≤ length left → groups left ≡ 32 ∷ encode_lower (take 2 left) ++ groups (drop 2 left)
unfolding groups
first [] h = absurd (omega (arith, h))
first (a ∷ []) h = absurd (omega (arith, h))
first (a ∷ b ∷ more) h = refl

-- one group more
pub one_more : (all text new left pair rest : List ℕ) → text ++ groups left ≡ all → 2 ≤ length left → pair ≡ take 2 left → rest ≡ drop 2 left → new ≡ text ++ 32 ∷ encode_lower pair → new ++ groups rest ≡ all
one_more all text new left pair rest before some front back e =
    let here : new ≡ text ++ 32 ∷ encode_lower (take 2 left) = e ∙ ap (λ (p : List ℕ). text ++ 32 ∷ encode_lower p) front in
    ap (λ (t : List ℕ). t ++ groups rest) here
    ∙ append_assoc text (32 ∷ encode_lower (take 2 left)) (groups rest)
    ∙ ap (λ (r : List ℕ). text ++ (32 ∷ encode_lower (take 2 left) ++ groups r)) back
    ∙ ap (λ (t : List ℕ). text ++ t) (sym (first left some))
    ∙ before

-- no group is left
pub none_left : (all text left : List ℕ) → text ++ groups left ≡ all → length left < 2 → text ≡ all
unfolding groups
none_left all text [] before few = sym (append-nil text) ∙ before
none_left all text (a ∷ []) before few = sym (append-nil text) ∙ before
none_left all text (a ∷ b ∷ more) before few = absurd (omega (arith, few))
