-- What is left of bytes, behind a part that was read of their front.
use Rattle.std.proofs.Common.{◌≡◌, ◌∙◌, ℕ, Bool, true, false, ltb, List, ◌++◌, length, take, drop, Result, Ok, Err, inl, inr, refl, sym, ap}
use Rattle.std.specs.Int.{Width, byte_len, from_be_bytes}
use Rattle.std.proofs.lemmas.Bool.{cases_lt, lt-ltb, le-ltb}
use Rattle.std.proofs.lemmas.List.{append_assoc, take-append-drop}
use Rattle.log_chain.specs.declared.fault.FieldFault.{FieldFault}
use Rattle.log_chain.specs.declared.fault.FieldFault.TheVariants.{Truncated}
use Rattle.log_chain.specs.Fields.{number_at, take_at}

abbrev pub IsLeft : List ℕ → List ℕ → Type 0
IsLeft rest bytes = (front : List ℕ) × (bytes ≡ front ++ rest)

pub left_left : (one two bytes : List ℕ) → IsLeft one bytes → IsLeft two one → IsLeft two bytes
left_left one two bytes (front, is) (more, at) = (front ++ more, is ∙ ap (λ (l : List ℕ). front ++ l) at ∙ sym (append_assoc front more two))

dropped : (n : ℕ) (bytes rest : List ℕ) → drop n bytes ≡ rest → IsLeft rest bytes
dropped n bytes rest is = (take n bytes, sym (take-append-drop n bytes) ∙ ap (λ (l : List ℕ). take n bytes ++ l) is)

same_rest : {A : Type 0} (x y : A) (r s : List ℕ) → ◌≡◌ {A = Result (A × List ℕ) FieldFault} (Ok (x, r)) (Ok (y, s)) → r ≡ s
same_rest {A} x y r s is = let same : ◌≡◌ {A = A × List ℕ} (x, r) (y, s) = cc is in ap (λ (p : A × List ℕ). p.1) same

pub bytes_taken : (n : ℕ) (bytes text rest : List ℕ) → take_at n bytes ≡ Ok (text, rest) → IsLeft rest bytes
bytes_taken n bytes text rest is =
    elim (cases_lt (length bytes) n) [
      | inl lt ↦
          let t : ltb (length bytes) n ≡ true = lt-ltb _ _ lt in
          let e : take_at n bytes ≡ Err Truncated = rw t refl in
          absurd (cc (e, is))
      | inr le ↦
          let t : ltb (length bytes) n ≡ false = le-ltb _ _ le in
          let e : take_at n bytes ≡ Ok (take n bytes, drop n bytes) = rw t refl in
          dropped n bytes rest (same_rest (take n bytes) text (drop n bytes) rest (sym e ∙ is))
    ]

pub number_taken : (w : Width) (bytes rest : List ℕ) (x : ℕ) → number_at w bytes ≡ Ok (x, rest) → IsLeft rest bytes
number_taken w bytes rest x is =
    elim (cases_lt (length bytes) (byte_len w)) [
      | inl lt ↦
          let t : ltb (length bytes) (byte_len w) ≡ true = lt-ltb _ _ lt in
          let e : number_at w bytes ≡ Err Truncated = rw t refl in
          absurd (cc (e, is))
      | inr le ↦
          let t : ltb (length bytes) (byte_len w) ≡ false = le-ltb _ _ le in
          let e : number_at w bytes ≡ Ok (from_be_bytes w (take (byte_len w) bytes), drop (byte_len w) bytes) = rw t refl in
          dropped (byte_len w) bytes rest (same_rest (from_be_bytes w (take (byte_len w) bytes)) x (drop (byte_len w) bytes) rest (sym e ∙ is))
    ]
