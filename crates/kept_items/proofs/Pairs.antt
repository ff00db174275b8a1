-- Numbers and hashes among shared entries are those of the segment's entries.
use Rattle.std.proofs.Common.{◌≡◌, ℕ, Bool, List, [], ◌∷◌, Option, Some, None, refl, ap, ◌∙◌}
use Rattle.std.specs.Prelude.{◌&&◌, ◌||◌, ◌==◌}
use Rattle.std.specs.List.{list_any}
use Rattle.std.specs.Str.{bytes_eq}
use Rattle.log_chain.specs.Chain.{entry_hash, hashes}
use Rattle.item_forms.specs.declared.forms.Statement.{Statement}
use Rattle.item_forms.specs.Segments.{has_pair, logged}
use Rattle.evidence_set.specs.Challenges.{covers}
use Rattle.kept_entries.specs.Shared.{SharedEntry, entries_of, hashes_of}
use Rattle.kept_items.specs.within.Parts.{segment_of}

head_is : (g h : List ℕ) (gs hs : List (List ℕ)) → g ∷ gs ≡ h ∷ hs → g ≡ h
head_is g h gs hs is = cc

tail_is : (g h : List ℕ) (gs hs : List (List ℕ)) → g ∷ gs ≡ h ∷ hs → gs ≡ hs
tail_is g h gs hs is = cc

pub among : (prev : List ℕ) (xs : List SharedEntry) (seq : ℕ) (hash : List ℕ) → hashes_of xs ≡ hashes prev (entries_of xs)
    → list_any (λ (x : SharedEntry). (x.entry.seq == seq) && bytes_eq x.hash hash) xs ≡ has_pair (logged prev (entries_of xs)) seq hash
among prev [] seq hash hashed = refl
among prev (x ∷ xs) seq hash hashed =
    let first : x.hash ≡ entry_hash prev x.entry = head_is _ _ (hashes_of xs) (hashes (entry_hash prev x.entry) (entries_of xs)) hashed in
    let others : hashes_of xs ≡ hashes (entry_hash prev x.entry) (entries_of xs) = tail_is x.hash (entry_hash prev x.entry) _ _ hashed in
    ap (λ (h : List ℕ). ((x.entry.seq == seq) && bytes_eq h hash) || list_any (λ (y : SharedEntry). (y.entry.seq == seq) && bytes_eq y.hash hash) xs) first
    ∙ ap (λ (b : Bool). ((x.entry.seq == seq) && bytes_eq (entry_hash prev x.entry) hash) || b) (among (entry_hash prev x.entry) xs seq hash others)

-- What a segment covers is told by the hash before it and its entries.
pub covers_alike : (first : Option Statement) (last : Statement) (node other : ℕ) (prev : List ℕ) (xs : List SharedEntry) (sig more : List ℕ) → covers first last (segment_of node prev xs sig) ≡ covers first last (segment_of other prev xs more)
covers_alike None last node other prev xs sig more = refl
covers_alike (Some f) last node other prev xs sig more = refl
