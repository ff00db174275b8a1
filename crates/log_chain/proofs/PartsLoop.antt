-- Parts of one kind read one after the other, as a loop reads them.
-- The invariant of such a loop over i of count parts is `with_front front (parts_at at (count - i) bytes) ≡ total`.
use Rattle.std.proofs.Common.{◌≡◌, ℕ, suc, ◌-◌, ◌+◌, ◌≤◌, ◌<◌, List, [], ◌∷◌, ◌++◌, Ok, Err, refl, sym, ap, ◌∙◌, append_assoc, arith, inl, inr}
use Rattle.std.proofs.lemmas.List.{append-nil}
use Rattle.outcome.specs.Outcome.{◌>>=◌, Fails}
use Rattle.log_chain.specs.Fields.{Read, parts_at}

-- what was read before, and what is still read
abbrev pub with_front : {A E : Type 0} → List A → Read (List A) E → Read (List A) E
with_front front read = read >>= λ x. Ok (front ++ x.0, x.1)

-- the first part that is read joins those before it
regroup : {A E : Type 0} (front : List A) (n : A) (read : Read (List A) E) → with_front front (read >>= λ x. Ok (n ∷ x.0, x.1)) ≡ with_front (front ++ n ∷ []) read
regroup {A = A} {E = E} front n (Ok x) =
    let made : List A → Read (List A) E = λ (ns : List A). Ok (ns, x.1) in
    ap made (simp append_assoc)
regroup front n (Err f) = refl

-- before the loop nothing is read
pub begins : {A E : Type 0} (read : Read (List A) E) → with_front [] read ≡ read
begins (Ok x) = refl
begins (Err f) = refl

-- one part more is read
pub goes_on : {A E : Type 0} (at : List ℕ → Read A E) (front : List A) (count i : ℕ) (bytes : List ℕ) (n : A) (after : List ℕ) (total : Read (List A) E) → i < count → at bytes ≡ Ok (n, after)
    → with_front front (parts_at at (count - i) bytes) ≡ total → with_front (front ++ n ∷ []) (parts_at at (count - (i + 1)) after) ≡ total
unfolding parts_at
goes_on at front count i bytes n after total lt h so_far =
    let k : count - i ≡ suc (count - (i + 1)) = omega arith in
    let one : with_front front (parts_at at (count - i) bytes) ≡ with_front (front ++ n ∷ []) (parts_at at (count - (i + 1)) after) = rw (k, h) (regroup front n (parts_at at (count - (i + 1)) after)) in
    sym one ∙ so_far

-- a part's fault is the fault of all
pub stops : {A E : Type 0} (memory e : E) (at : List ℕ → Read A E) (front : List A) (count i : ℕ) (bytes : List ℕ) (total : Read (List A) E) → i < count → Fails memory e (at bytes)
    → with_front front (parts_at at (count - i) bytes) ≡ total → Fails memory e total
unfolding parts_at
stops memory e at front count i bytes total lt (inl m) so_far = inl m
stops memory e at front count i bytes total lt (inr h) so_far =
    let k : count - i ≡ suc (count - (i + 1)) = omega arith in
    let one : with_front front (parts_at at (count - i) bytes) ≡ Err e = rw (k, h) refl in
    inr (sym so_far ∙ one)

-- after the last part
pub is_done : {A E : Type 0} (at : List ℕ → Read A E) (front : List A) (count i : ℕ) (bytes : List ℕ) (total : Read (List A) E) → count ≤ i → with_front front (parts_at at (count - i) bytes) ≡ total → total ≡ Ok (front, bytes)
unfolding parts_at
is_done {A = A} {E = E} at front count i bytes total le so_far =
    let k : count - i ≡ 0 = omega arith in
    let made : List A → Read (List A) E = λ (ns : List A). Ok (ns, bytes) in
    let one : with_front front (parts_at at (count - i) bytes) ≡ Ok (front, bytes) = rw k (ap made (append-nil front)) in
    sym so_far ∙ one
