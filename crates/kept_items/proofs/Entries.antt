-- Shared entries, and the entries, hashes and quotes alone.
use Rattle.std.proofs.Common.{take, drop, take_all, ◌≡◌, ◌≤◌, ◌-◌, ℕ, zero, suc, List, [], ◌∷◌, Bool, ltb, length, get_or, Option, None, Result, Ok, Err, refl, sym, ap, subst, ◌∙◌, arith}
use Rattle.std.specs.Prelude.{◌&&◌, slice_get}
use Rattle.std.specs.Option.{option_map}
use Rattle.std.specs.List.Sorted.{IsBinarySearchResult, IsNonDecreasingBy, IsSearchInRange}
use Rattle.std.specs.declared.cmp.Ordering.TheVariants.{Less, Equal, Greater}
use Rattle.std.specs.Ordering.{nat_cmp, ordering_index}
use Rattle.std.proofs.Math.ListN.{get_or-map}
use Rattle.std.proofs.lemmas.List.{length-map}
use Rattle.std.proofs.lemmas.Option.{slice_get-map}
use Rattle.log_chain.specs.declared.entry.Entry.{Entry}
use Rattle.kept_entries.specs.Shared.{SharedEntry, entries_of, hashes_of}
use Rattle.item_forms.specs.Segments.{last_seq}
use Rattle.proofs.specs.Contradictions.{is_rising}
use Rattle.kept_evidence.specs.Telling.{last_or}
use Rattle.kept_items.specs.within.Shared.{quotes_of, rises_from, shared_of}

-- a shared entry that is this entry
abbrev carry : Entry → SharedEntry
carry e = record { prev = []; entry = e; hash = []; quoted = None }

get_entry : (xs : List SharedEntry) (k : ℕ) (d : Entry) → get_or (entries_of xs) k d ≡ (get_or xs k (carry d)).entry
get_entry xs k d = get_or-map (λ (x : SharedEntry). x.entry) xs k (carry d)

get_entry_of : (xs : List SharedEntry) (k : ℕ) (d : SharedEntry) → get_or (entries_of xs) k d.entry ≡ (get_or xs k d).entry
get_entry_of xs k d = get_or-map (λ (x : SharedEntry). x.entry) xs k d

pub as_many : (xs : List SharedEntry) → length (entries_of xs) ≡ length xs
as_many xs = length-map xs (λ (x : SharedEntry). x.entry)

-- ---- a search by number

rise : (xs : List SharedEntry) (seq : ℕ) → IsNonDecreasingBy (λ e. ordering_index (nat_cmp e.seq seq)) (entries_of xs) → IsNonDecreasingBy (λ (x : SharedEntry). ordering_index (nat_cmp x.entry.seq seq)) xs
rise xs seq up i j d le within =
    let many = as_many xs in
    rw (get_entry_of xs i d, get_entry_of xs j d) at (up i j d.entry le (omega (arith, many, within)))

pub searched_entries : (xs : List SharedEntry) (seq : ℕ) (r : Result ℕ ℕ) → IsBinarySearchResult (λ (x : SharedEntry). nat_cmp x.entry.seq seq) xs r → IsBinarySearchResult (λ e. nat_cmp e.seq seq) (entries_of xs) r
searched_entries xs seq (Ok at) here = λ d. subst (λ (e : Entry). nat_cmp e.seq seq ≡ Equal) (sym (get_entry xs at d)) (here (carry d))
searched_entries xs seq (Err at) parted = λ up.
    let many = as_many xs in
    let parts = parted (rise xs seq up) in (
      λ k d low lt. subst (λ (e : Entry). nat_cmp e.seq seq ≡ Less) (sym (get_entry xs k d)) (parts.0 k (carry d) low lt),
      λ k d low lt. subst (λ (e : Entry). nat_cmp e.seq seq ≡ Greater) (sym (get_entry xs k d)) (parts.1 k (carry d) low (omega (arith, many, lt))),
    )

pub in_range : (xs : List SharedEntry) (r : Result ℕ ℕ) → IsSearchInRange r (length xs) → IsSearchInRange r (length (entries_of xs))
in_range xs (Ok at) h = let many = as_many xs in omega (arith, many, h)
in_range xs (Err at) h = let many = as_many xs in omega (arith, many, h)

-- ---- rising numbers

joined : (b c d : Bool) → c ≡ d → (b && c) ≡ (b && d)
joined b c d is = ap (λ (x : Bool). b && x) is

pub rising_from : (e : Entry) (es : List Entry) → rises_from e.seq es ≡ is_rising (e ∷ es)
rising_from e [] = refl
rising_from e (f ∷ es) = joined (ltb e.seq f.seq) _ _ (rising_from f es)

pub rising_all : (xs : List SharedEntry) (y : SharedEntry) (n : ℕ) → 1 ≤ length xs → y ≡ get_or xs 0 y → n ≡ y.entry.seq → rises_from n (entries_of (take (length xs - 1) (drop 1 xs))) ≡ is_rising (entries_of xs)
rising_all [] y n some is at = absurd (omega (arith, some))
rising_all (x ∷ xs) y n some is at =
    let others : suc (length xs) - 1 ≡ length xs = omega arith in
    let whole : take (suc (length xs) - 1) xs ≡ xs = ap (λ (k : ℕ). take k xs) others ∙ take_all (length xs) xs (omega arith) in
    ap (λ (ys : List SharedEntry). rises_from n (entries_of ys)) whole ∙ ap (λ (k : ℕ). rises_from k (entries_of xs)) (at ∙ ap (λ (z : SharedEntry). z.entry.seq) is) ∙ rising_from x.entry (entries_of xs)

-- ---- the last entry

last_number : (es : List Entry) (n : ℕ) (e : Entry) → suc n ≡ length es → e ≡ get_or es n e → e.seq ≡ last_seq es
last_number [] n e long is = absurd (omega (arith, long))
last_number (e ∷ []) zero f long is = ap (λ (x : Entry). x.seq) is
last_number (e ∷ []) (suc n) f long is = absurd (omega (arith, long))
last_number (e ∷ f ∷ es) zero g long is = absurd (omega (arith, long))
last_number (e ∷ f ∷ es) (suc n) g long is = last_number (f ∷ es) n g (omega (arith, long)) is

last_hash : (prev : List ℕ) (hs : List (List ℕ)) (n : ℕ) (h : List ℕ) → suc n ≡ length hs → h ≡ get_or hs n h → h ≡ last_or prev hs
last_hash prev [] n h long is = absurd (omega (arith, long))
last_hash prev (g ∷ []) zero h long is = is
last_hash prev (g ∷ []) (suc n) h long is = absurd (omega (arith, long))
last_hash prev (g ∷ i ∷ hs) zero h long is = absurd (omega (arith, long))
last_hash prev (g ∷ i ∷ hs) (suc n) h long is = last_hash prev (i ∷ hs) n h (omega (arith, long)) is

pub last_seq_is : (xs : List SharedEntry) (x : SharedEntry) → 1 ≤ length xs → x ≡ get_or xs (length xs - 1) x → x.entry.seq ≡ last_seq (entries_of xs)
last_seq_is xs x some is =
    let many = as_many xs in
    last_number (entries_of xs) (length xs - 1) x.entry (omega (arith, many, some)) (ap (λ (y : SharedEntry). y.entry) is ∙ sym (get_entry_of xs (length xs - 1) x))

pub last_hash_is : (prev : List ℕ) (xs : List SharedEntry) (x : SharedEntry) → 1 ≤ length xs → x ≡ get_or xs (length xs - 1) x → x.hash ≡ last_or prev (hashes_of xs)
last_hash_is prev xs x some is =
    let many : length (hashes_of xs) ≡ length xs = length-map xs (λ (y : SharedEntry). y.hash) in
    last_hash prev (hashes_of xs) (length xs - 1) x.hash (omega (arith, many, some)) (ap (λ (y : SharedEntry). y.hash) is ∙ sym (get_or-map (λ (y : SharedEntry). y.hash) xs (length xs - 1) x))

-- ---- at a place

pub slice_entry : (xs : List SharedEntry) (k : ℕ) → slice_get (entries_of xs) k ≡ option_map (λ (x : SharedEntry). x.entry) (slice_get xs k)
slice_entry xs k = slice_get-map (λ (x : SharedEntry). x.entry) xs k

pub slice_quote : (xs : List SharedEntry) (k : ℕ) → slice_get (quotes_of xs) k ≡ option_map (λ (x : SharedEntry). x.quoted) (slice_get xs k)
slice_quote xs k = slice_get-map (λ (x : SharedEntry). x.quoted) xs k

pub hash_at : (xs : List SharedEntry) (k : ℕ) (x : SharedEntry) → x ≡ get_or xs k x → x.hash ≡ get_or (hashes_of xs) k x.hash
hash_at xs k x is = ap (λ (y : SharedEntry). y.hash) is ∙ sym (get_or-map (λ (y : SharedEntry). y.hash) xs k x)

-- ---- what shared entries are made of

pub entries_are : (prev : List ℕ) (es : List Entry) (hs : List (List ℕ)) (qs : List (Option (List ℕ))) → length hs ≡ length es → length qs ≡ length es → entries_of (shared_of prev es hs qs) ≡ es
entries_are prev [] hs qs h q = refl
entries_are prev (e ∷ es) [] qs h q = absurd (omega (arith, h))
entries_are prev (e ∷ es) (x ∷ hs) [] h q = absurd (omega (arith, q))
entries_are prev (e ∷ es) (x ∷ hs) (y ∷ qs) h q = ap (λ l. e ∷ l) (entries_are x es hs qs (omega (arith, h)) (omega (arith, q)))

pub hashes_are : (prev : List ℕ) (es : List Entry) (hs : List (List ℕ)) (qs : List (Option (List ℕ))) → length hs ≡ length es → length qs ≡ length es → hashes_of (shared_of prev es hs qs) ≡ hs
hashes_are prev [] [] qs h q = refl
hashes_are prev [] (x ∷ hs) qs h q = absurd (omega (arith, h))
hashes_are prev (e ∷ es) [] qs h q = absurd (omega (arith, h))
hashes_are prev (e ∷ es) (x ∷ hs) [] h q = absurd (omega (arith, q))
hashes_are prev (e ∷ es) (x ∷ hs) (y ∷ qs) h q = ap (λ l. x ∷ l) (hashes_are x es hs qs (omega (arith, h)) (omega (arith, q)))

pub quotes_are : (prev : List ℕ) (es : List Entry) (hs : List (List ℕ)) (qs : List (Option (List ℕ))) → length hs ≡ length es → length qs ≡ length es → quotes_of (shared_of prev es hs qs) ≡ qs
quotes_are prev [] hs [] h q = refl
quotes_are prev [] hs (y ∷ qs) h q = absurd (omega (arith, q))
quotes_are prev (e ∷ es) [] qs h q = absurd (omega (arith, h))
quotes_are prev (e ∷ es) (x ∷ hs) [] h q = absurd (omega (arith, q))
quotes_are prev (e ∷ es) (x ∷ hs) (y ∷ qs) h q = ap (λ l. y ∷ l) (quotes_are x es hs qs (omega (arith, h)) (omega (arith, q)))
