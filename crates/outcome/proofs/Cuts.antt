-- Texts that are cut at each byte of a kind.
use Rattle.std.proofs.Common.{◌≡◌, ◌<◌, ◌≤◌, ◌+◌, ◌-◌, ltb, ℕ, Bool, true, false, cond, List, [], ◌∷◌, length, take, drop, Some, None, refl, subst, arith}
use Rattle.std.specs.List.{position, position_or_len, slice_split}
use Rattle.std.proofs.lemmas.Bool.{ltb-true, ltb-false}
use Rattle.std.proofs.lemmas.List.{take_all, length-drop}
use Rattle.std.proofs.lemmas.List.Splits.{slice_split_first, slice_split_none, length-slice_split}
use Rattle.std.proofs.lemmas.List.Sums.{fails_before_first}

found : (b : Bool) (m e : ℕ) → cond b (Some m) None ≡ Some e → (b ≡ true) × (m ≡ e)
found true m e h = (refl, cc)
found false m e h = absurd cc

not_found : (b : Bool) (m : ℕ) → cond b (Some m) None ≡ None → b ≡ false
not_found true m h = absurd cc
not_found false m h = refl

-- the part before the first byte of the kind, and those behind it
pub cut_at : (p : ℕ → Bool) (xs : List ℕ) (e : ℕ) → position p xs ≡ Some e → slice_split p xs ≡ take e xs ∷ slice_split p (take (length xs - (e + 1)) (drop (e + 1) xs))
cut_at p xs e h =
    let f = found (ltb (position_or_len p xs) (length xs)) (position_or_len p xs) e h in
    let within : position_or_len p xs < length xs = ltb-true _ _ f.0 in
    let long : length (drop (e + 1) xs) ≡ length xs - (e + 1) = length-drop (e + 1) xs in
    let whole : take (length xs - (e + 1)) (drop (e + 1) xs) ≡ drop (e + 1) xs = take_all _ _ (omega arith) in
    rw whole (subst (λ (m : ℕ). slice_split p xs ≡ take m xs ∷ slice_split p (drop (m + 1) xs)) f.1 (slice_split_first p xs 0 within))

-- all is one part, where there is no such byte
pub uncut : (p : ℕ → Bool) (xs : List ℕ) → position p xs ≡ None → slice_split p xs ≡ xs ∷ []
uncut p xs h =
    let all : length xs ≤ position_or_len p xs = ltb-false _ _ (not_found (ltb (position_or_len p xs) (length xs)) (position_or_len p xs) h) in
    slice_split_none p xs (λ k d within. fails_before_first p xs k d (omega arith))

-- parts are one and more
pub some_parts : (p : ℕ → Bool) (xs : List ℕ) → 1 ≤ length (slice_split p xs)
some_parts p xs = omega (arith, length-slice_split p xs)
