-- Texts that are hashed one behind the other.
use Rattle.std.proofs.Common.{◌≡◌, ℕ, ◌+◌, List, [], ◌∷◌, ◌++◌, take, sym, subst, append_assoc}
use Rattle.std.specs.List.{flat_map}
use Rattle.std.proofs.lemmas.List.{flat_map_more}
use Rattle.sha2.specs.declared.Sha256.{Sha256}
use Rattle.sha2.specs.Hashers.{Holds256}
use Rattle.std.specs.Int.{to_be_bytes, w64}
use Rattle.log_chain.specs.declared.entry.Entry.{Entry}
use Rattle.log_chain.specs.Fields.{bytes_text}
use Rattle.item_forms.specs.Spelling.{entry_spelling}
use Rattle.item_digests.specs.Feeding.{Feeds}

-- one text and then another
pub both_fed : (x y z : Sha256) (a b : List ℕ) → Feeds x y a → Feeds y z b → Feeds x z (a ++ b)
both_fed x y z a b first second m held = subst (Holds256 z) (append_assoc m a b) (second (m ++ a) (first m held))

-- one part more of a list
pub part_fed : {X : Type 0} (text : X → List ℕ) (xs : List X) (i : ℕ) (p : X) (x y z : Sha256) → take (i + 1) xs ≡ take i xs ++ p ∷ [] → Feeds x y (flat_map text (take i xs)) → Feeds y z (text p)
    → Feeds x z (flat_map text (take (i + 1) xs))
part_fed {X = X} text xs i p x y z more first second m held =
    subst (λ (ys : List X). Holds256 z (m ++ flat_map text ys)) (sym more)
    (subst (Holds256 z) (flat_map_more text m (take i xs) p) (second (m ++ flat_map text (take i xs)) (first m held)))

-- bytes that are lent under another name
pub bytes_fed : (x y : Sha256) (s t : List ℕ) → Feeds x y (bytes_text s) → s ≡ t → Feeds x y (bytes_text t)
bytes_fed x y s t fed is = subst (λ (u : List ℕ). Feeds x y (bytes_text u)) is fed

-- an entry, of which each part is hashed in turn
pub entry_fed : (x y z w : Sha256) (e : Entry) (n k : ℕ) (t : List ℕ) → Feeds x y (to_be_bytes w64 n) → Feeds y z (k ∷ []) → Feeds z w (bytes_text t) → n ≡ e.seq → k ≡ e.kind → t ≡ e.content → Feeds x w (entry_spelling e)
entry_fed x y z w e n k t first second third is_n is_k is_t =
    let seq : Feeds x y (to_be_bytes w64 e.seq) = subst (λ (m : ℕ). Feeds x y (to_be_bytes w64 m)) is_n first in
    let kind : Feeds y z (e.kind ∷ []) = subst (λ (m : ℕ). Feeds y z (m ∷ [])) is_k second in
    let content : Feeds z w (bytes_text e.content) = subst (λ (u : List ℕ). Feeds z w (bytes_text u)) is_t third in
    both_fed x z w (to_be_bytes w64 e.seq ++ e.kind ∷ []) (bytes_text e.content) (both_fed x y z (to_be_bytes w64 e.seq) (e.kind ∷ []) seq kind) content
