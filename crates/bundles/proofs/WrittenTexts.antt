-- The text of a bundle, of the pieces in which it is written.
use Rattle.std.proofs.Common.{◌≡◌, ℕ, Bool, true, false, List, [], ◌∷◌, ◌++◌, sym, ap, ◌∙◌, append_assoc, append-nil}
use Rattle.std.specs.List.{flat_map}
use Rattle.std.specs.Prelude.{MatchBool, codes}
use Rattle.hex.specs.Hex.{encode_lower}
use Rattle.bundles.specs.Spelling.{Contents, ended, last_lines, text_of}

pub three : (a b c : List ℕ) → flat_map ended (a ∷ b ∷ c ∷ []) ≡ ended a ++ (ended b ++ ended c)
three a b c = ap (λ (t : List ℕ). ended a ++ (ended b ++ t)) (append-nil (ended c))

nest : (t v p n d e : List ℕ) → ((((t ++ v) ++ p) ++ n) ++ d) ++ e ≡ t ++ (((v ++ p) ++ n) ++ (d ++ e))
nest t v p n d e =
    append_assoc (((t ++ v) ++ p) ++ n) d e
    ∙ ap (λ (x : List ℕ). x ++ (d ++ e)) (ap (λ (x : List ℕ). x ++ n) (append_assoc t v p) ∙ append_assoc t (v ++ p) n)
    ∙ append_assoc t ((v ++ p) ++ n) (d ++ e)

text_is : (b : Contents) → (((((([] ++ codes "bulwynef bundle 2\n") ++ b.sentences) ++ codes "program ") ++ b.program) ++ codes "\n") ++ ended (encode_lower b.directory)) ++ ended (encode_lower b.proof) ≡ text_of b
unfolding text_of
text_is b =
    nest (codes "bulwynef bundle 2\n" ++ b.sentences) (codes "program ") b.program (codes "\n") (ended (encode_lower b.directory)) (ended (encode_lower b.proof))
    ∙ ap (λ (t : List ℕ). (codes "bulwynef bundle 2\n" ++ b.sentences) ++ t) (sym (three (codes "program " ++ b.program) (encode_lower b.directory) (encode_lower b.proof)))

-- The steps by which it is written.
pub text_steps : (b : Contents) (t0 t1 t2 : List ℕ) → t0 ≡ [] → t1 ≡ ((((t0 ++ codes "bulwynef bundle 2\n") ++ b.sentences) ++ codes "program ") ++ b.program) ++ codes "\n" → t2 ≡ (t1 ++ ended (encode_lower b.directory)) ++ ended (encode_lower b.proof) → t2 ≡ text_of b
text_steps b t0 t1 t2 h0 h1 h2 =
    h2
    ∙ ap (λ (t : List ℕ). (t ++ ended (encode_lower b.directory)) ++ ended (encode_lower b.proof))
    (h1 ∙ ap (λ (t : List ℕ). ((((t ++ codes "bulwynef bundle 2\n") ++ b.sentences) ++ codes "program ") ++ b.program) ++ codes "\n") h0)
    ∙ text_is b

-- ---- tests

pub fails : {P : Type 0} (t : Bool) → MatchBool t P (P → ⊥) → t ≡ false → P → ⊥
fails true h e p = absurd cc
fails false h e p = h p
