-- The room of a public key is looked at first.
use Rattle.std.proofs.Common.{◌≡◌, ℕ, List, Err}
use Rattle.std.specs.Prelude.{◌==◌}
use Rattle.std.proofs.lemmas.Bool.{cond-false, cond-true, eq-eqb, ne_eqb}
use Rattle.byte_calls.specs.Nodes.{key_text_of}
use Rattle.byte_calls.specs.declared.refusal.Refusal.TheVariants.{WrongLength}
use Rattle.bulwynef_c.specs.Calls.{key_in}

pub no_room : (room lms ots : ℕ) (id seed : List ℕ) → (room ≡ 56 → ⊥) → key_in room lms ots id seed ≡ Err WrongLength
unfolding key_in
no_room room lms ots id seed other = cond-false (room == 56) (key_text_of lms ots id seed) (Err WrongLength) (ne_eqb room 56 other)

pub in_room : (room lms ots : ℕ) (id seed : List ℕ) → room ≡ 56 → key_in room lms ots id seed ≡ key_text_of lms ots id seed
unfolding key_in
in_room room lms ots id seed is = cond-true (room == 56) (key_text_of lms ots id seed) (Err WrongLength) (eq-eqb room 56 is)
