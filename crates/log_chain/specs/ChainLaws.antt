-- Laws of the chain of hashes. `laws` proves each.
use Rattle.std.specs.Prelude.{◌≡◌, ◌↔◌, ℕ, ◌+◌, ◌<◌, ◌^◌, List, [], ◌∷◌, ◌++◌, length, slice_index_or}
use Rattle.sha2.specs.Sha256.{sha256}
use Rattle.log_chain.specs.declared.entry.Entry.{Entry}
use Rattle.log_chain.specs.Chain.{entry_text, entry_hash, hashes, chain_end, Rising}

-- If a list is cut in two, the chain of the second part goes on from the end of the first.
abbrev pub ChainsGoOn : Type 0
ChainsGoOn = (prev : List ℕ) (front back : List Entry)
    → (chain_end prev (front ++ back) ≡ chain_end (chain_end prev front) back)
    × (hashes prev (front ++ back) ≡ hashes prev front ++ hashes (chain_end prev front) back)

-- The end of a list with one entry more is that entry's hash after the end of the list.
abbrev pub ChainsGrow : Type 0
ChainsGrow = (prev : List ℕ) (es : List Entry) (e : Entry) → chain_end prev (es ++ e ∷ []) ≡ entry_hash (chain_end prev es) e

-- An entry's hash has 32 bytes. So has the end of a chain, if the hash before its first entry has. Each entry has one hash.
abbrev pub HashesAreWhole : Type 0
HashesAreWhole = (prev : List ℕ) (es : List Entry)
    → ((e : Entry) → length (entry_hash prev e) ≡ 32)
    × (length prev ≡ 32 → length (chain_end prev es) ≡ 32)
    × (length (hashes prev es) ≡ length es)

-- The chains of equal lists after equal hashes have equal ends.
abbrev pub EqualListsEndAlike : Type 0
EqualListsEndAlike = (prev prev' : List ℕ) (es es' : List Entry) → prev ≡ prev' → es ≡ es' → chain_end prev es ≡ chain_end prev' es'

-- The numbers of a list rise exactly if each is below every later one.
abbrev pub RisesByPairs : Type 0
RisesByPairs = (es : List Entry) → Rising es ↔ ((i j : ℕ) (d : Entry) → i < j → j < length es → (slice_index_or es i d).seq < (slice_index_or es j d).seq)

-- If a list whose numbers rise is cut in two, the numbers of both parts rise.
abbrev pub PartsRise : Type 0
PartsRise = (front back : List Entry) → Rising (front ++ back) → Rising front × Rising back

-- Numbers that rise still rise with one entry more, if its number is above the last one.
abbrev pub RisingListsGrow : Type 0
RisingListsGrow = (es : List Entry) (e : Entry) → Rising es → ((k : ℕ) (d : Entry) → k + 1 ≡ length es → (slice_index_or es k d).seq < e.seq) → Rising (es ++ e ∷ [])

-- Two entries have the same number and kind, contents with the same digest, and the same hash before them.
pub record SameStamp (p q : List ℕ) (e f : Entry) : Type 0 where
  pub prev : p ≡ q
  pub seq : e.seq ≡ f.seq
  pub kind : e.kind ≡ f.kind
  pub content : sha256 e.content ≡ sha256 f.content

-- The text that is hashed for an entry has one reading. It needs hashes of 32 bytes and numbers below 2^64.
abbrev pub EntryTextsHaveOneReading : Type 0
EntryTextsHaveOneReading = (p q : List ℕ) (e f : Entry) → length p ≡ 32 → length q ≡ 32 → e.seq < 2 ^ 64 → f.seq < 2 ^ 64 → entry_text p e ≡ entry_text q f → SameStamp p q e f
