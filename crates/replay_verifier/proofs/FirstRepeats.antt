-- The ordered set of the senders and numbers that came, and the search for the first repetition.
use Rattle.std.proofs.Common.{◌≡◌, ℕ, ◌+◌, ◌<◌, ◌==◌, ◌&&◌, ◌||◌, Bool, true, false, cond, List, [], ◌∷◌, ◌++◌, length, get_or, take, drop, Option, Some, None, refl, sym, ap, ◌∙◌, arith, append-nil}
use Rattle.std.specs.List.{list_any}
use Rattle.std.specs.Ordering.{is_eq, nat_cmp, ordering_then}
use Rattle.std.specs.declared.cmp.Ordering.{Ordering}
use Rattle.std.specs.declared.cmp.Ordering.TheVariants.{Less, Equal, Greater}
use Rattle.std.proofs.lemmas.Bool.Decides.{nat_tests}
use Rattle.std.proofs.lemmas.List.{drop_more, take_more}
use Rattle.std.proofs.lemmas.List.Folds.{list_any-append}
use Rattle.log_chain.specs.declared.entry.Entry.{Entry}
use Rattle.replay_verifier.specs.Conforming.{came_before, came_by, came_in, is_same_sent}
use Rattle.replay_verifier.specs.within.Following.{repeated_from}
use Rattle.replay_verifier.proofs.ComingOnce.{came_append, came_entry, came_one}

-- the order of the set
abbrev pub sent_cmp : ℕ × ℕ → ℕ × ℕ → Ordering
sent_cmp m n = ordering_then (nat_cmp m.0 n.0) (nat_cmp m.1 n.1)

eq_number : (a b : ℕ) → is_eq (nat_cmp a b) ≡ (b == a)
eq_number a b = grind (arith, nat_tests)

eq_both : (o p : Ordering) → is_eq (ordering_then o p) ≡ (is_eq o && is_eq p)
eq_both Less p = refl
eq_both Equal p = refl
eq_both Greater p = refl

pub eq_is_same : (m n : ℕ × ℕ) → is_eq (sent_cmp m n) ≡ is_same_sent n m
eq_is_same m n =
    eq_both (nat_cmp m.0 n.0) (nat_cmp m.1 n.1) ∙ ap (λ (b : Bool). b && is_eq (nat_cmp m.1 n.1)) (eq_number m.0 n.0)
    ∙ ap (λ (b : Bool). (n.0 == m.0) && b) (eq_number m.1 n.1)

-- what came before an entry and in it
came_next : (log : List Entry) (at : ℕ) (e : Entry) → at < length log → e ≡ get_or log at e → came_in (take (at + 1) log) ≡ came_in (take at log) ++ came_in (e ∷ [])
came_next log at e l is =
    ap came_in (take_more log at e l ∙ ap (λ (x : Entry). take at log ++ x ∷ []) (sym is)) ∙ came_append (take at log) (e ∷ [])

-- the set holds what came before an entry, and so it does behind it
pub held_more : (log : List Entry) (at : ℕ) (e : Entry) (m q : ℕ × ℕ) (old new : Bool) → at < length log → e ≡ get_or log at e → came_by e ≡ Some m
    → old ≡ list_any (is_same_sent q) (came_in (take at log)) → new ≡ cond (is_eq (sent_cmp m q)) true old → new ≡ list_any (is_same_sent q) (came_in (take (at + 1) log))
unfolding came_one
held_more log at e m q old new l is came held updated =
    let listed : came_in (take (at + 1) log) ≡ came_in (take at log) ++ m ∷ [] =
    came_next log at e l is ∙ ap (λ (ms : List (ℕ × ℕ)). came_in (take at log) ++ ms) (came_entry e ∙ ap came_one came) in
    let either : new ≡ (old || (is_same_sent q m || false)) = updated ∙ ap (λ (b : Bool). cond b true old) (eq_is_same m q) ∙ joined (is_same_sent q m) old in
    either ∙ ap (λ (b : Bool). b || (is_same_sent q m || false)) held
    ∙ sym (ap (list_any (is_same_sent q)) listed ∙ list_any-append (is_same_sent q) (came_in (take at log)) (m ∷ []))
  where
    joined : (b old : Bool) → cond b true old ≡ (old || (b || false))
    joined true true = refl
    joined true false = refl
    joined false true = refl
    joined false false = refl

pub held_still : (log : List Entry) (at : ℕ) (e : Entry) → at < length log → e ≡ get_or log at e → came_by e ≡ None → came_in (take (at + 1) log) ≡ came_in (take at log)
unfolding came_one
held_still log at e l is none =
    came_next log at e l is ∙ ap (λ (ms : List (ℕ × ℕ)). came_in (take at log) ++ ms) (came_entry e ∙ ap came_one none) ∙ append-nil (came_in (take at log))

-- a step of the search
repeated_step : (log : List Entry) (at : ℕ) (e : Entry) → at < length log → e ≡ get_or log at e
    → repeated_from (came_in (take at log)) at (drop at log) ≡ cond (came_before (came_in (take at log)) (came_by e)) (Some at) (repeated_from (came_in (take (at + 1) log)) (at + 1) (drop (at + 1) log))
repeated_step log at e l is =
    ap (repeated_from (came_in (take at log)) at) (drop_more log at e l ∙ ap (λ (x : Entry). x ∷ drop (at + 1) log) (sym is))
    ∙ ap (λ (ms : List (ℕ × ℕ)). cond (came_before (came_in (take at log)) (came_by e)) (Some at) (repeated_from ms (at + 1) (drop (at + 1) log))) (sym (came_next log at e l is))

pub repeated_here : (log : List Entry) (at : ℕ) (e : Entry) (whole : Option ℕ) → at < length log → e ≡ get_or log at e → came_before (came_in (take at log)) (came_by e) ≡ true
    → repeated_from (came_in (take at log)) at (drop at log) ≡ whole → Some at ≡ whole
repeated_here log at e whole l is again rest =
    let step = repeated_step log at e l is in
    sym (ap (λ (b : Bool). cond b (Some at) (repeated_from (came_in (take (at + 1) log)) (at + 1) (drop (at + 1) log))) again) ∙ sym step ∙ rest

pub repeated_later : (log : List Entry) (at : ℕ) (e : Entry) (whole : Option ℕ) → at < length log → e ≡ get_or log at e → came_before (came_in (take at log)) (came_by e) ≡ false
    → repeated_from (came_in (take at log)) at (drop at log) ≡ whole → repeated_from (came_in (take (at + 1) log)) (at + 1) (drop (at + 1) log) ≡ whole
repeated_later log at e whole l is new rest =
    let step = repeated_step log at e l is in
    sym (ap (λ (b : Bool). cond b (Some at) (repeated_from (came_in (take (at + 1) log)) (at + 1) (drop (at + 1) log))) new) ∙ sym step ∙ rest

-- what the set answers of a sender and number that came
pub came_held : (log : List Entry) (at : ℕ) (e : Entry) (m : ℕ × ℕ) (b answer : Bool) → came_by e ≡ Some m → b ≡ list_any (is_same_sent m) (came_in (take at log)) → b ≡ answer
    → came_before (came_in (take at log)) (came_by e) ≡ answer
came_held log at e m b answer came held is = ap (came_before (came_in (take at log))) came ∙ sym held ∙ is
