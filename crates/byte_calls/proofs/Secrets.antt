-- The secrets that bytes have, one behind the other.
use Rattle.std.proofs.Common.{◌≡◌, ℕ, suc, ◌+◌, ◌-◌, ◌*◌, ◌<◌, List, [], ◌∷◌, ◌++◌, take, drop, sym, ◌∙◌, ap, arith, append_assoc}
use Rattle.std.proofs.lemmas.List.{drop-drop}
use Rattle.node_journals.specs.declared.keys.Secret.{Secret}
use Rattle.byte_calls.specs.Journals.{secret_in, secrets_in}

pub one_more : (bytes : List ℕ) (n k : ℕ) (items : List Secret) (s : Secret) → k < n → s ≡ secret_in (take 48 (drop (k * 48) bytes))
    → secrets_in n bytes ≡ items ++ secrets_in (n - k) (drop (k * 48) bytes) → secrets_in n bytes ≡ (items ++ s ∷ []) ++ secrets_in (n - (k + 1)) (drop ((k + 1) * 48) bytes)
one_more bytes n k items s less is before =
    let m = n - (k + 1) in
    let rest = drop (k * 48) bytes in
    let left : n - k ≡ suc m = omega arith in
    let place : k * 48 + 48 ≡ (k + 1) * 48 = omega arith in
    let behind : drop 48 rest ≡ drop ((k + 1) * 48) bytes = drop-drop 48 (k * 48) bytes ∙ ap (λ (i : ℕ). drop i bytes) place in
    before
    ∙ ap (λ (i : ℕ). items ++ secrets_in i rest) left
    ∙ ap (λ (x : Secret). items ++ x ∷ secrets_in m (drop 48 rest)) (sym is)
    ∙ ap (λ (l : List ℕ). items ++ s ∷ secrets_in m l) behind
    ∙ sym (append_assoc items (s ∷ []) (secrets_in m (drop ((k + 1) * 48) bytes)))
