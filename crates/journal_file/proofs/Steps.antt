-- A write and a cut, as steps of what a crash leaves.
use Rattle.std.proofs.Common.{◌≡◌, inl, inr, ℕ, ◌+◌, ◌-◌, ◌≤◌, min, List, ◌∷◌, ◌++◌, length, take, drop, refl, sym, ◌∙◌, ap, subst, arith, append_assoc, length-append, length-drop}
use Rattle.std.proofs.lemmas.List.{take_at, drop_at, take_all, length-take-le}
use Rattle.journal.specs.Device.{Torn, Cut, Follows}
use Rattle.journal_file.specs.Events.{Event, seen_after, leaves_after}
use Rattle.journal_file.specs.Laws.{seen_stays}

-- a whole write
wrote : (at : ℕ) (bytes before c : List ℕ) → at ≤ length before → c ≡ take at before ++ bytes ++ drop (at + length bytes) before → Torn at (length bytes) before c
wrote at bytes before c le is =
    let size : length (take at before) ≡ at = length-take-le at before le in
    let both : length (take at before ++ bytes) ≡ at + length bytes = omega (arith, length-append (take at before) bytes, size) in
    let long : length c ≡ at + length bytes + (length before - (at + length bytes)) =
    omega (arith, ap length is, length-append (take at before ++ bytes) (drop (at + length bytes) before), both, length-drop (at + length bytes) before) in
    let whole : min at (length before) ≡ at = omega (arith, le) in
    let front : take at c ≡ take at before =
    ap (λ (l : List ℕ). take at l) (is ∙ append_assoc (take at before) bytes (drop (at + length bytes) before)) ∙ take_at (take at before) (bytes ++ drop (at + length bytes) before) at size in
    record {
      before = ap (λ (n : ℕ). take n c) whole ∙ front ∙ ap (λ (n : ℕ). take n before) (sym whole);
      after = ap (λ (l : List ℕ). drop (at + length bytes) l) is ∙ drop_at (take at before ++ bytes) (drop (at + length bytes) before) (at + length bytes) both;
      no_shorter = omega (arith, long);
      no_longer = omega (arith, long);
    }

-- none
pub not_wrote : (at n : ℕ) (before : List ℕ) → Torn at n before before
not_wrote at n before = record { before = refl; after = refl; no_shorter = omega arith; no_longer = omega arith }

did_cut : (at : ℕ) (before c : List ℕ) → at ≤ length before → c ≡ take at before → Cut at before c
did_cut at before c le is =
    let long : length c ≡ at = ap length is ∙ length-take-le at before le in
    record { no_shorter = omega (arith, long, le); front = ap (λ (n : ℕ). take n before) long ∙ sym is }

pub not_cut : (at : ℕ) (before : List ℕ) → Cut at before before
not_cut at before = record { no_shorter = omega arith; front = take_all (length before) before (omega arith) }

-- ---- what may be left behind each

pub after_write : (events : List Event) (at : ℕ) (bytes : List ℕ) → at ≤ length (seen_after events) → Follows (Torn at (length bytes)) (leaves_after events) (leaves_after ((1, at, bytes) ∷ events))
after_write events at bytes le c (inl is) = (seen_after events, seen_stays events, wrote at bytes (seen_after events) c le is)
after_write events at bytes le c (inr step) = step

pub after_no_write : (events : List Event) (at : ℕ) (bytes : List ℕ) → Follows (Torn at (length bytes)) (leaves_after events) (leaves_after ((4, at, bytes) ∷ events))
after_no_write events at bytes c (inl is) = (seen_after events, seen_stays events, subst (Torn at (length bytes) (seen_after events)) (sym is) (not_wrote at (length bytes) (seen_after events)))
after_no_write events at bytes c (inr step) = step

pub after_cut : (events : List Event) (at : ℕ) (bytes : List ℕ) → at ≤ length (seen_after events) → Follows (Cut at) (leaves_after events) (leaves_after ((2, at, bytes) ∷ events))
after_cut events at bytes le c (inl is) = (seen_after events, seen_stays events, did_cut at (seen_after events) c le is)
after_cut events at bytes le c (inr step) = step

pub after_no_cut : (events : List Event) (at : ℕ) (bytes : List ℕ) → Follows (Cut at) (leaves_after events) (leaves_after ((5, at, bytes) ∷ events))
after_no_cut events at bytes c (inl is) = (seen_after events, seen_stays events, subst (Cut at (seen_after events)) (sym is) (not_cut at (seen_after events)))
after_no_cut events at bytes c (inr step) = step

-- the same, where the record is told by what was noted
pub noted : (step : List ℕ → List ℕ → Type 0) (events later : List Event) (e : Event) → later ≡ e ∷ events → Follows step (leaves_after events) (leaves_after (e ∷ events)) → Follows step (leaves_after events) (leaves_after later)
noted step events later e is follows = subst (λ (l : List Event). Follows step (leaves_after events) (leaves_after l)) (sym is) follows
