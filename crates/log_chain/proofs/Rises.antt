-- Numbers that rise: what is below a number, up to it and between two stands at the front, and in the middle.
use Rattle.std.proofs.Common.{◌≡◌, ℕ, zero, suc, ◌+◌, ◌-◌, ◌<◌, ◌≤◌, Bool, true, false, List, [], ◌∷◌, ◌++◌, length, take, drop, get_or, refl, arith}
use Rattle.std.specs.Prelude.{filter}
use Rattle.std.specs.List.{list_any}
use Rattle.std.proofs.lemmas.Bool.{or_right}
use Rattle.std.proofs.lemmas.List.{get_or_default}
use Rattle.log_chain.specs.declared.entry.Entry.{Entry}
use Rattle.log_chain.specs.Chain.{entry_hash, hashes, chain_end, Rising}
use Rattle.log_chain.proofs.Chains.{Rising-rest, length-hashes}

-- the first number is below each later one
first_below : (e : Entry) (es : List Entry) → Rising (e ∷ es) → (k : ℕ) (d : Entry) → k < length es → e.seq < (get_or es k d).seq
first_below e [] h k d within = absurd (omega arith)
first_below e (f ∷ es) h zero d within = h.0
first_below e (f ∷ es) h (suc k) d within =
    let more : f.seq < (get_or es k d).seq = first_below f es h.1 k d (omega arith) in
    let one : e.seq < f.seq = h.0 in
    omega arith

-- each number is below each later one
pub rising_pairs : (es : List Entry) → Rising es → (i j : ℕ) (d : Entry) → i < j → j < length es → (get_or es i d).seq < (get_or es j d).seq
rising_pairs [] h i j d lt within = absurd (omega arith)
rising_pairs (e ∷ es) h i zero d lt within = absurd (omega arith)
rising_pairs (e ∷ es) h zero (suc j) d lt within = first_below e es h j d (omega arith)
rising_pairs (e ∷ es) h (suc i) (suc j) d lt within = rising_pairs es (Rising-rest e es h) i j d (omega arith) (omega arith)

-- and where each is, the numbers rise
pub pairs_rise : (es : List Entry) → ((i j : ℕ) (d : Entry) → i < j → j < length es → (get_or es i d).seq < (get_or es j d).seq) → Rising es
pairs_rise [] h = tt
pairs_rise (e ∷ []) h = tt
pairs_rise (e ∷ f ∷ es) h =
    (h 0 1 e (omega arith) (omega arith), pairs_rise (f ∷ es) (λ i j d lt within. h (suc i) (suc j) d (omega arith) (omega arith)))

-- an entry above the last one may follow
pub Rising-push : (es : List Entry) (e : Entry) → Rising es → ((k : ℕ) (d : Entry) → k + 1 ≡ length es → (get_or es k d).seq < e.seq) → Rising (es ++ e ∷ [])
Rising-push [] e h above = tt
Rising-push (f ∷ []) e h above = (above 0 f refl, tt)
Rising-push (f ∷ g ∷ es) e h above =
    (h.0, Rising-push (g ∷ es) e h.1 (λ k d is. above (suc k) d (omega arith)))

-- What passes a test that holds from place i to before place j, and nowhere else, is the part between them.
pub filter-part : (test : Entry → Bool) (es : List Entry) (i j : ℕ) → i ≤ j → j ≤ length es → ((k : ℕ) (d : Entry) → k < i → test (get_or es k d) ≡ false) → ((k : ℕ) (d : Entry) → i ≤ k → k < j → test (get_or es k d) ≡ true)
    → ((k : ℕ) (d : Entry) → j ≤ k → k < length es → test (get_or es k d) ≡ false) → filter test es ≡ take (j - i) (drop i es)
filter-part test [] zero zero ij jl before within after = refl
filter-part test [] (suc i) j ij jl before within after = absurd (omega arith)
filter-part test [] zero (suc j) ij jl before within after = absurd (omega arith)
filter-part test (e ∷ es) zero zero ij jl before within after =
    let no : test e ≡ false = after 0 e (omega arith) (omega arith) in
    rw no (filter-part test es zero zero (omega arith) (omega arith) (λ k d h. absurd (omega arith)) (λ k d h l. absurd (omega arith)) (λ k d h l. after (suc k) d (omega arith) (omega arith)))
filter-part test (e ∷ es) zero (suc j) ij jl before within after =
    let yes : test e ≡ true = within 0 e (omega arith) (omega arith) in
    let more : filter test es ≡ take (j - 0) (drop 0 es) = filter-part test es zero j (omega arith) (omega arith) (λ k d h. absurd (omega arith)) (λ k d h l. within (suc k) d (omega arith) (omega arith)) (λ k d h l. after (suc k) d (omega arith) (omega arith)) in
    let whole : j - 0 ≡ j = omega arith in
    let one_more : suc j - 0 ≡ suc j = omega arith in
    rw (yes, more, whole, one_more) refl
filter-part test (e ∷ es) (suc i) zero ij jl before within after = absurd (omega arith)
filter-part test (e ∷ es) (suc i) (suc j) ij jl before within after =
    let no : test e ≡ false = before 0 e (omega arith) in
    let more : filter test es ≡ take (j - i) (drop i es) = filter-part test es i j (omega arith) (omega arith) (λ k d h. before (suc k) d (omega arith)) (λ k d h l. within (suc k) d (omega arith) (omega arith)) (λ k d h l. after (suc k) d (omega arith) (omega arith)) in
    let same : suc j - suc i ≡ j - i = omega arith in
    rw (no, same) more

-- a test that passes nowhere, or at one place
pub list_any-none : (test : Entry → Bool) (es : List Entry) → ((k : ℕ) (d : Entry) → k < length es → test (get_or es k d) ≡ false) → list_any test es ≡ false
list_any-none test [] none = refl
list_any-none test (e ∷ es) none =
    let no : test e ≡ false = none 0 e (omega arith) in
    rw no (list_any-none test es (λ k d h. none (suc k) d (omega arith)))

pub list_any-some : (test : Entry → Bool) (es : List Entry) (k : ℕ) (d : Entry) → k < length es → test (get_or es k d) ≡ true → list_any test es ≡ true
list_any-some test [] k d within passes = absurd (omega arith)
list_any-some test (e ∷ es) zero d within passes = rw passes refl
list_any-some test (e ∷ es) (suc k) d within passes = rw (list_any-some test es k d (omega arith) passes) (or_right (test e) true refl)

-- the hash before the entry at a place, among those that are kept
pub hash_before : (prev : List ℕ) (es : List Entry) (k : ℕ) → k ≤ length es → get_or (prev ∷ hashes prev es) k [] ≡ chain_end prev (take k es)
hash_before prev es zero within = refl
hash_before prev [] (suc k) within = absurd (omega arith)
hash_before prev (e ∷ es) (suc k) within = hash_before (entry_hash prev e) es k (omega arith)

-- the kept hash before a place that is not the first
pub kept_hash : (prev : List ℕ) (es : List Entry) (k : ℕ) (d : List ℕ) → (k ≡ 0 → ⊥) → k ≤ length es → get_or (hashes prev es) (k - 1) d ≡ chain_end prev (take k es)
kept_hash prev es zero d other within = absurd (other refl)
kept_hash prev es (suc k) d other within =
    let same : suc k - 1 ≡ k = omega arith in
    let l = length-hashes prev es in
    rw (same, get_or_default (hashes prev es) k d [] (omega arith)) (hash_before prev es (suc k) within)
