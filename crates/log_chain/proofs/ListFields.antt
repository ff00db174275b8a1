-- Lists of parts of one kind: what is read is spelled so, and what is spelled so is read.
use Rattle.std.proofs.Common.{◌≡◌, ℕ, zero, suc, ◌^◌, ◌<◌, ◌≤◌, false, cond, ltb, List, [], ◌∷◌, ◌++◌, length, Ok, Err, refl, sym, ap, subst, ◌∙◌, append_assoc, arith}
use Rattle.std.specs.Int.{w32, to_be_bytes}
use Rattle.std.specs.List.{flat_map, AllByRecursion}
use Rattle.std.proofs.lemmas.Bool.{ltb-false, le-ltb}
use Rattle.std.proofs.lemmas.List.Concat.{flat_map-cons}
use Rattle.std.proofs.lemmas.List.Elements.{All-from_recursion, recursion_from_All}
use Rattle.outcome.specs.Bytes.{IsBytes}
use Rattle.outcome.specs.Outcome.{◌>>=◌, told_as}
use Rattle.outcome.proofs.Steps.{bind_ok, guard_false, Ok-inj}
use Rattle.log_chain.specs.declared.fault.FieldFault.{FieldFault}
use Rattle.log_chain.specs.declared.fault.FieldFault.TheVariants.{TooLong}
use Rattle.log_chain.specs.Fields.{Read, number_at, parts_at, counted_at, counted_text, IsListUpTo}
use Rattle.log_chain.proofs.Codec.{Takes, Takes-then, IsField, told}
use Rattle.log_chain.proofs.FieldKinds.{u32_field}

-- the parts that were read
record Parts {A : Type 0} (text : A → List ℕ) (Fits : A → Type 0) (n : ℕ) (bytes : List ℕ) (xs : List A) (rest : List ℕ) : Type 0 where
  taken : Takes bytes (flat_map text xs) rest
  each : AllByRecursion Fits xs
  count : length xs ≡ n

parts_taken : {A E : Type 0} (at : List ℕ → Read A E) (text : A → List ℕ) (Fits : A → Type 0) → IsField at text Fits → (n : ℕ) (bytes : List ℕ) (xs : List A) (rest : List ℕ) → IsBytes bytes
    → parts_at at n bytes ≡ Ok (xs, rest) → Parts text Fits n bytes xs rest
unfolding parts_at
parts_taken {A = A} {E = E} at text Fits field zero bytes xs rest fits e =
    subst (λ (p : List A × List ℕ). Parts text Fits 0 bytes p.0 p.1) (Ok-inj {E = E} ([], bytes) (xs, rest) e)
    (record { taken = record { parts = refl; rest_fits = fits }; each = tt; count = refl })
parts_taken {A = A} {E = E} at text Fits field (suc n) bytes xs rest fits e =
    let a = bind_ok (at bytes) (λ first. parts_at at n first.1 >>= λ others. Ok (first.0 ∷ others.0, others.1)) (xs, rest) e in
    let b = bind_ok (parts_at at n a.0.1) (λ others. Ok (a.0.0 ∷ others.0, others.1)) (xs, rest) a.2 in
    let one = field.takes bytes a.0.0 a.0.1 fits a.1 in
    let more = parts_taken at text Fits field n a.0.1 b.0.0 b.0.1 one.0.rest_fits b.1 in
    let joined = Takes-then bytes (text a.0.0) a.0.1 (flat_map text b.0.0) b.0.1 one.0 more.taken in
    let all : Takes bytes (flat_map text (a.0.0 ∷ b.0.0)) b.0.1 = rw (flat_map-cons text a.0.0 b.0.0) joined in
    subst (λ (p : List A × List ℕ). Parts text Fits (suc n) bytes p.0 p.1) (Ok-inj {E = E} (a.0.0 ∷ b.0.0, b.0.1) (xs, rest) b.2)
    (record { taken = all; each = (one.1, more.each); count = ap suc more.count })

parts_again : {A E : Type 0} (at : List ℕ → Read A E) (text : A → List ℕ) (Fits : A → Type 0) → IsField at text Fits → (xs : List A) (rest : List ℕ) → AllByRecursion Fits xs
    → parts_at at (length xs) (flat_map text xs ++ rest) ≡ Ok (xs, rest)
unfolding parts_at
parts_again at text Fits field [] rest fits = refl
parts_again {A = A} {E = E} at text Fits field (x ∷ xs) rest fits =
    let regrouped : flat_map text (x ∷ xs) ++ rest ≡ text x ++ (flat_map text xs ++ rest) = ap (λ (t : List ℕ). t ++ rest) (flat_map-cons text x xs) ∙ append_assoc (text x) (flat_map text xs) rest in
    ap (parts_at at (suc (length xs))) regrouped
    ∙ ap (λ (r : Read A E). r >>= λ first. parts_at at (length xs) first.1 >>= λ others. Ok (first.0 ∷ others.0, others.1)) (field.again x (flat_map text xs ++ rest) fits.0)
    ∙ ap (λ (r : Read (List A) E). r >>= λ others. Ok (x ∷ others.0, others.1)) (parts_again at text Fits field xs rest fits.1)

-- as many parts as this
pub parts_field : {A E : Type 0} {at : List ℕ → Read A E} {text : A → List ℕ} {Fits : A → Type 0} (n : ℕ) → IsField at text Fits
    → IsField (parts_at at n) (flat_map text) (λ xs. (length xs ≡ n) × AllByRecursion Fits xs)
parts_field {at = at} {text = text} {Fits = Fits} n field = record {
  takes = λ bytes xs rest fits e. let t = parts_taken at text Fits field n bytes xs rest fits e in (t.taken, (t.count, t.each));
  again = λ xs rest fits. ap (λ (k : ℕ). parts_at at k (flat_map text xs ++ rest)) (sym fits.0) ∙ parts_again at text Fits field xs rest fits.1;
}

counted_taken : {A E : Type 0} (tell : FieldFault → E) (most : ℕ) (at : List ℕ → Read A E) (text : A → List ℕ) (Fits : A → Type 0) → IsField at text Fits → (bytes : List ℕ) (xs : List A) (rest : List ℕ) → IsBytes bytes
    → counted_at tell most at bytes ≡ Ok (xs, rest) → Takes bytes (counted_text text xs) rest × IsListUpTo most Fits xs
unfolding counted_at
counted_taken tell most at text Fits field bytes xs rest fits e =
    let number = told tell u32_field in
    let a = bind_ok (told_as tell (number_at w32 bytes)) (λ n. cond (ltb most n.0) (Err (tell TooLong)) (parts_at at n.0 n.1)) (xs, rest) e in
    let g = guard_false (ltb most a.0.0) (tell TooLong) (parts_at at a.0.0 a.0.1) (xs, rest) a.2 in
    let n = number.takes bytes a.0.0 a.0.1 fits a.1 in
    let p = parts_taken at text Fits field a.0.0 a.0.1 xs rest n.0.rest_fits g.1 in
    let below : a.0.0 ≤ most = ltb-false _ _ g.0 in
    let joined = Takes-then bytes (to_be_bytes w32 a.0.0) a.0.1 (flat_map text xs) rest n.0 p.taken in
    (subst (λ (k : ℕ). Takes bytes (to_be_bytes w32 k ++ flat_map text xs) rest) (sym p.count) joined, record { count = rw p.count below; each = All-from_recursion Fits xs p.each })

counted_again : {A E : Type 0} (tell : FieldFault → E) (most : ℕ) (at : List ℕ → Read A E) (text : A → List ℕ) (Fits : A → Type 0) → IsField at text Fits → most < 2 ^ 32 → (xs : List A) (rest : List ℕ)
    → IsListUpTo most Fits xs → counted_at tell most at (counted_text text xs ++ rest) ≡ Ok (xs, rest)
unfolding counted_at
counted_again {A = A} {E = E} tell most at text Fits field small xs rest fits =
    let number = told tell u32_field in
    let few : length xs ≤ most = fits.count in
    let below : ltb most (length xs) ≡ false = le-ltb _ _ few in
    let lt : length xs < 2 ^ 32 = omega arith in
    ap (counted_at tell most at) (append_assoc (to_be_bytes w32 (length xs)) (flat_map text xs) rest)
    ∙ ap (λ (r : Read ℕ E). r >>= λ n. cond (ltb most n.0) (Err (tell TooLong)) (parts_at at n.0 n.1)) (number.again (length xs) (flat_map text xs ++ rest) lt)
    ∙ rw below (parts_again at text Fits field xs rest (recursion_from_All Fits xs fits.each))

-- a count of four bytes that is at most the limit, and as many parts
pub counted_field : {A E : Type 0} {at : List ℕ → Read A E} {text : A → List ℕ} {Fits : A → Type 0} (tell : FieldFault → E) (most : ℕ) → most < 2 ^ 32 → IsField at text Fits
    → IsField (counted_at tell most at) (counted_text text) (IsListUpTo most Fits)
counted_field {at = at} {text = text} {Fits = Fits} tell most small field = record {
  takes = λ bytes xs rest fits e. counted_taken tell most at text Fits field bytes xs rest fits e;
  again = λ xs rest fits. counted_again tell most at text Fits field small xs rest fits;
}
