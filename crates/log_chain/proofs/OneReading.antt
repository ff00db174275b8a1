-- The text that is hashed for an entry has one reading.
use Rattle.std.proofs.Common.{◌≡◌, ℕ, ◌<◌, ◌^◌, List, [], ◌∷◌, ◌++◌, length, refl, sym, ap, ◌∙◌, arith, length-append}
use Rattle.std.proofs.lemmas.Nat.{from_be_bytes-to_be_bytes_8}
use Rattle.std.specs.Int.{w64, to_be_bytes, from_be_bytes}
use Rattle.sha2.specs.Sha256.{sha256}
use Rattle.log_chain.specs.declared.entry.Entry.{Entry}
use Rattle.log_chain.specs.Chain.{entry_text}
use Rattle.log_chain.specs.ChainLaws.{SameStamp}

-- fronts of one length are equal, and so are the backs
append_parts : (a b x y : List ℕ) → length a ≡ length b → a ++ x ≡ b ++ y → (a ≡ b) × (x ≡ y)
append_parts [] [] x y len e = (refl, e)
append_parts [] (n ∷ b) x y len e = absurd (omega arith)
append_parts (m ∷ a) [] x y len e = absurd (omega arith)
append_parts (m ∷ a) (n ∷ b) x y len e =
    let rest = append_parts a b x y (omega arith) (cc e) in
    let first : m ≡ n = cc e in
    (cc (first, rest.0), rest.1)

-- eight bytes spell one number
one_number : (m n : ℕ) → m < 2 ^ 64 → n < 2 ^ 64 → to_be_bytes w64 m ≡ to_be_bytes w64 n → m ≡ n
one_number m n fits_m fits_n e = sym (from_be_bytes-to_be_bytes_8 m fits_m) ∙ ap (from_be_bytes w64) e ∙ from_be_bytes-to_be_bytes_8 n fits_n

-- equal texts are of equal parts
pub one_reading : (p q : List ℕ) (e f : Entry) → length p ≡ 32 → length q ≡ 32 → e.seq < 2 ^ 64 → f.seq < 2 ^ 64 → entry_text p e ≡ entry_text q f → SameStamp p q e f
unfolding entry_text
one_reading p q e f len_p len_q fits_e fits_f text =
    let r = append_parts (p ++ to_be_bytes w64 e.seq) (q ++ to_be_bytes w64 f.seq) (e.kind ∷ sha256 e.content) (f.kind ∷ sha256 f.content) (omega (arith, length-append {A = ℕ})) text in
    let s = append_parts p q (to_be_bytes w64 e.seq) (to_be_bytes w64 f.seq) (len_p ∙ sym len_q) r.0 in
    record { prev = s.0; seq = one_number e.seq f.seq fits_e fits_f s.1; kind = cc r.1; content = cc r.1 }
