-- Facts on the chain of hashes and on numbers that rise.
use Rattle.std.proofs.Common.{◌≡◌, ℕ, suc, ◌+◌, List, [], ◌∷◌, ◌++◌, length, take, take_all, refl, sym, ap, ◌∙◌, append_assoc, arith}
use Rattle.sha2.proofs.Facts256.{length-sha256}
use Rattle.log_chain.specs.declared.entry.Entry.{Entry}
use Rattle.log_chain.specs.Chain.{entry_text, entry_hash, hashes, chain_end, Rising}

-- the chain goes on over a second part
pub chain_end-append : (prev : List ℕ) (front back : List Entry) → chain_end prev (front ++ back) ≡ chain_end (chain_end prev front) back
chain_end-append prev [] back = refl
chain_end-append prev (e ∷ front) back = chain_end-append (entry_hash prev e) front back

-- so do the hashes
pub hashes-append : (prev : List ℕ) (front back : List Entry) → hashes prev (front ++ back) ≡ hashes prev front ++ hashes (chain_end prev front) back
hashes-append prev [] back = refl
hashes-append prev (e ∷ front) back = ap (λ (t : List (List ℕ)). entry_hash prev e ∷ t) (hashes-append (entry_hash prev e) front back)

-- the end has 32 bytes
pub length-chain_end : (prev : List ℕ) (es : List Entry) → length prev ≡ 32 → length (chain_end prev es) ≡ 32
length-chain_end prev [] len = len
length-chain_end prev (e ∷ es) len = length-chain_end (entry_hash prev e) es (length-sha256 (entry_text prev e))

-- one hash for each entry
pub length-hashes : (prev : List ℕ) (es : List Entry) → length (hashes prev es) ≡ length es
length-hashes prev [] = refl
length-hashes prev (e ∷ es) = ap suc (length-hashes (entry_hash prev e) es)

-- numbers that rise do so in the front part
pub Rising-front : (front back : List Entry) → Rising (front ++ back) → Rising front
Rising-front [] back h = tt
Rising-front (e ∷ []) back h = tt
Rising-front (e ∷ f ∷ front) back h = (h.0, Rising-front (f ∷ front) back h.1)

-- after the first entry
pub Rising-rest : (e : Entry) (es : List Entry) → Rising (e ∷ es) → Rising es
Rising-rest e [] h = tt
Rising-rest e (f ∷ es) h = h.1

-- and in the back part
pub Rising-back : (front back : List Entry) → Rising (front ++ back) → Rising back
Rising-back [] back h = h
Rising-back (e ∷ front) back h = Rising-back front back (Rising-rest e (front ++ back) h)

-- Four pieces written one behind the other into 73 bytes are those bytes.
pub four_pieces : (t u v w x a b k d : List ℕ) → length a ≡ 32 → length b ≡ 8 → length d ≡ 32 → take (0 + length a) u ≡ take 0 t ++ a → take (32 + length b) v ≡ take 32 u ++ b → take 41 w ≡ take 40 v ++ k
    → take (41 + length d) x ≡ take 41 w ++ d → length x ≡ 73 → x ≡ (a ++ b) ++ (k ++ d)
four_pieces t u v w x a b k d la lb ld first second third fourth lx =
    let start : 0 + length a ≡ 32 = omega arith in
    let p : take 32 u ≡ a = rw start at first in
    let q : take 40 v ≡ a ++ b = rw lb at second ∙ ap (λ (y : List ℕ). y ++ b) p in
    let r : take 41 w ≡ (a ++ b) ++ k = third ∙ ap (λ (y : List ℕ). y ++ k) q in
    let s : take 73 x ≡ ((a ++ b) ++ k) ++ d = rw ld at fourth ∙ ap (λ (y : List ℕ). y ++ d) r in
    sym (take_all 73 x (omega arith)) ∙ s ∙ append_assoc (a ++ b) k d
