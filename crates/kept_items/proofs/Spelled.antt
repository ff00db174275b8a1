-- The spelling of shared entries is that of the entries.
use Rattle.std.proofs.Common.{◌≡◌, ℕ, ◌+◌, List, [], ◌∷◌, ◌++◌, length, length-append, ap, sym, subst, ◌∙◌, arith}
use Rattle.std.specs.Int.{to_be_bytes, w32, w64}
use Rattle.std.specs.List.{All, flat_map}
use Rattle.std.proofs.Math.ListN.{get_or-map}
use Rattle.std.proofs.lemmas.List.Folds.{flat_map-map}
use Rattle.log_chain.specs.Fields.{bytes_text, counted_text}
use Rattle.log_chain.specs.declared.entry.Entry.{Entry}
use Rattle.item_forms.specs.declared.forms.Fields.TheVariants as form
use Rattle.item_forms.proofs.Written.{two_texts}
use Rattle.item_forms.specs.Spelling.{FitsEntry, FitsSegment, entry_spelling, spelling}
use Rattle.kept_entries.specs.Shared.{SharedEntry, entries_of}
use Rattle.kept_items.specs.within.Parts.{segment_of}
use Rattle.kept_items.specs.within.Shared.{FitsShared, shared_spelling}
use Rattle.kept_items.proofs.Entries.{as_many}

pub spelled : (xs : List SharedEntry) → flat_map shared_spelling xs ≡ flat_map entry_spelling (entries_of xs)
spelled xs = sym (flat_map-map entry_spelling (λ (x : SharedEntry). x.entry) xs)

pub all_fit : (xs : List SharedEntry) → All FitsEntry (entries_of xs) → All FitsShared xs
all_fit xs fit k d within =
    let many = as_many xs in
    subst FitsEntry (get_or-map (λ (x : SharedEntry). x.entry) xs k d) (fit k d.entry (omega (arith, many, within)))

-- an entry, of which each part is written in turn
pub entry_written : (old one two new : List ℕ) (e : Entry) (n k : ℕ) (t : List ℕ) → one ≡ old ++ to_be_bytes w64 n → two ≡ one ++ k ∷ [] → new ≡ two ++ bytes_text t → n ≡ e.seq → k ≡ e.kind → t ≡ e.content → new ≡ old ++ entry_spelling e
entry_written old one two new e n k t first second third is_n is_k is_t =
    let seq : one ≡ old ++ to_be_bytes w64 e.seq = first ∙ ap (λ (m : ℕ). old ++ to_be_bytes w64 m) is_n in
    let kind : two ≡ one ++ e.kind ∷ [] = second ∙ ap (λ (m : ℕ). one ++ m ∷ []) is_k in
    let content : new ≡ two ++ bytes_text e.content = third ∙ ap (λ (u : List ℕ). two ++ bytes_text u) is_t in
    two_texts old two new (to_be_bytes w64 e.seq ++ e.kind ∷ []) (bytes_text e.content) (two_texts old one two (to_be_bytes w64 e.seq) (e.kind ∷ []) seq kind) content

-- behind their count
pub counted : (xs : List SharedEntry) (n : ℕ) → n ≡ length xs → to_be_bytes w32 n ++ flat_map shared_spelling xs ≡ counted_text entry_spelling (entries_of xs)
counted xs n is =
    ap (λ (k : ℕ). to_be_bytes w32 k ++ flat_map shared_spelling xs) (is ∙ sym (as_many xs))
    ∙ ap (λ (t : List ℕ). to_be_bytes w32 (length (entries_of xs)) ++ t) (spelled xs)

-- ---- how long a segment is

four : (a b c d : List ℕ) → length (a ++ b ++ c ++ d) ≡ length a + length b + length c + length d
four a b c d = omega (arith, length-append a b, length-append (a ++ b) c, length-append (a ++ b ++ c) d)

pub segment_length : (node : ℕ) (prev : List ℕ) (xs : List SharedEntry) (sig : List ℕ) → FitsSegment (segment_of node prev xs sig) → length (spelling (form.Segment (segment_of node prev xs sig))) ≡ 45 + length (flat_map shared_spelling xs) + length sig
segment_length node prev xs sig fits =
    let same = ap length (spelled xs) in
    omega (arith, four (to_be_bytes w32 node) prev (counted_text entry_spelling (entries_of xs)) (bytes_text sig), fits.prev.count, same)
