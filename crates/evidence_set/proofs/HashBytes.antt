-- Hashes are texts of 32 bytes.
use Rattle.std.proofs.Common.{ℕ, zero, suc, List, [], ◌∷◌}
use Rattle.std.specs.Prelude.{slice_index}
use Rattle.std.specs.Int.{w32, to_be_bytes}
use Rattle.sha2.specs.Sha256.{digest_bytes, sha256}
use Rattle.sha2.proofs.Facts256.{length-sha256}
use Rattle.outcome.specs.Bytes.{IsBytes}
use Rattle.outcome.proofs.ByteLists.{IsBytes-none}
use Rattle.log_chain.specs.declared.entry.Entry.{Entry}
use Rattle.log_chain.specs.Chain.{chain_end, entry_hash, entry_text}
use Rattle.log_chain.specs.Fields.{IsBytesOf}
use Rattle.item_forms.proofs.SpellingBytes.{joined, number_32}

digest_has_bytes : (h : List ℕ) (n : ℕ) → IsBytes (digest_bytes h n)
unfolding digest_bytes
digest_has_bytes h zero = IsBytes-none
digest_has_bytes h (suc n) = joined (digest_bytes h n) (to_be_bytes w32 (slice_index h n)) (digest_has_bytes h n) (number_32 (slice_index h n))

hash_has_bytes : (m : List ℕ) → IsBytes (sha256 m)
unfolding sha256
hash_has_bytes m = digest_has_bytes _ 8

pub whole_hash : (m : List ℕ) → IsBytesOf 32 (sha256 m)
whole_hash m = record { each = hash_has_bytes m; count = length-sha256 m }

pub whole_end : (prev : List ℕ) (es : List Entry) → IsBytesOf 32 prev → IsBytesOf 32 (chain_end prev es)
whole_end prev [] is = is
whole_end prev (e ∷ es) is = whole_end (entry_hash prev e) es (whole_hash (entry_text prev e))
