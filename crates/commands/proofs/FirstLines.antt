-- The first line of a text, and what is behind it.
use Rattle.std.proofs.Common.{◌≡◌, ◌==◌, Bool, false, ◌+◌, ◌-◌, ℕ, List, [], ◌∷◌, length, take, drop, None, refl, arith, add-one}
use Rattle.std.specs.List.{position_from}
use Rattle.std.proofs.lemmas.List.{drop_all, length-drop, take_all}
use Rattle.commands.specs.HexLines.{lines_of}
use Rattle.commands.proofs.LineFeeds.{is_feed, EndsLine, one_line}

-- no bytes have no lines
pub none : (xs : List ℕ) → xs ≡ [] → lines_of xs ≡ []
unfolding lines_of
none xs e = rw e refl

-- the first line and the bytes behind its line feed
pub ends_at : (xs : List ℕ) (e : ℕ) → EndsLine xs 0 e → lines_of xs ≡ take e xs ∷ lines_of (drop (e + 1) xs)
ends_at xs e h =
    let same : h.place ≡ e = omega (arith, h.found) in
    rw (add-one, ← same) h.lines

-- the same, as slices of the text
pub found : (xs : List ℕ) (e : ℕ) → EndsLine xs 0 e → lines_of xs ≡ take e xs ∷ lines_of (take (length xs - (e + 1)) (drop (e + 1) xs))
found xs e h =
    let same : h.place ≡ e = omega (arith, h.found) in
    let long : length (drop (e + 1) xs) ≡ length xs - (e + 1) = length-drop (e + 1) xs in
    let whole : take (length xs - (e + 1)) (drop (e + 1) xs) ≡ drop (e + 1) xs = take_all _ _ (omega arith) in
    rw whole (rw (add-one, ← same) h.lines)

-- no bytes have no lines
empty : lines_of [] ≡ []
unfolding lines_of
empty = refl

-- without a line feed all is one line
pub missing : (xs : List ℕ) → ¬ (xs ≡ []) → position_from is_feed 0 xs ≡ None → lines_of xs ≡ xs ∷ lines_of []
missing [] n h = absurd (n refl)
missing (b ∷ rest) n h = rw empty (one_line b rest 0 h)

-- a text of other length than 0 is not empty
pub not_empty : (xs : List ℕ) (r : Bool) → r ≡ (length xs == 0) → r ≡ false → ¬ (xs ≡ [])
not_empty [] r is false_is = absurd cc
not_empty (x ∷ xs) r is false_is = λ e. absurd cc

-- one line is all of the text
pub is_all : (xs : List ℕ) → lines_of xs ≡ xs ∷ lines_of [] → lines_of xs ≡ take (length xs) xs ∷ lines_of (drop (length xs + 1) xs)
is_all xs h =
    let whole : take (length xs) xs ≡ xs = take_all (length xs) xs (omega arith) in
    let nothing : drop (length xs + 1) xs ≡ [] = drop_all (length xs + 1) xs (omega arith) in
    rw (whole, nothing) h
