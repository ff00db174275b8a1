-- The digests of buckets, made run by run.
use Rattle.std.proofs.Common.{◌≡◌, ◌+◌, ◌<◌, ◌≤◌, ℕ, suc, List, [], ◌∷◌, ◌++◌, map, take, drop, refl, sym, ap, subst, ◌∙◌, add-one}
use Rattle.std.specs.List.{All}
use Rattle.std.proofs.lemmas.List.Elements.{All-nil, All-push, All-same}
use Rattle.sha2.specs.Sha256.{sha256}
use Rattle.log_chain.specs.Fields.{IsBytesOf}
use Rattle.transfer.specs.Digests.{AreDigests, IsOutline, buckets, in_bucket, joined}
use Rattle.transfer.specs.within.Runs.{after_run, run_of}
use Rattle.transfer.proofs.EachBucket.{all_buckets, one_bucket, so_many}
use Rattle.transfer.proofs.Runs.{IsFrom, all_of_them, from_next, run_here}

-- the digest of bucket b of these digests
abbrev pub bucket_digest_in : List (List ℕ) → ℕ → List ℕ
bucket_digest_in digests b = sha256 (joined (in_bucket b digests))

-- So many buckets have their digests, and the others are in the rest.
pub record IsSoFar (digests : List (List ℕ)) (b : ℕ) (rest found : List (List ℕ)) : Type 0 where
  pub made : found ≡ map (bucket_digest_in digests) (take b buckets)
  pub fit : All (IsBytesOf 32) found
  pub others : IsFrom b digests rest

pub none_yet : (digests : List (List ℕ)) → AreDigests digests → IsSoFar digests 0 digests []
none_yet digests are = record { made = refl; fit = All-nil (IsBytesOf 32); others = all_of_them digests are.ascending }

-- one bucket more
pub one_more : (digests rest run after old new : List (List ℕ)) (b n : ℕ) (digest : List ℕ) → b < 256 → take n rest ≡ run_of b rest → drop n rest ≡ after_run b rest → run ≡ take n rest → after ≡ drop n rest → digest ≡ sha256 (joined run) → IsBytesOf 32 digest → new ≡ old ++ digest ∷ []
    → IsSoFar digests b rest old → IsSoFar digests (b + 1) after new
one_more digests rest run after old new b n digest below is_run is_after front back hashed fits pushed before =
    let all : run ≡ in_bucket b digests = front ∙ is_run ∙ run_here b digests rest before.others in
    let behind : after_run b rest ≡ after = sym (back ∙ is_after) in
    let next : suc b ≡ b + 1 = sym (add-one b) in
    record {
      made = one_bucket (bucket_digest_in digests) b old new digest below (hashed ∙ ap (λ (ds : List (List ℕ)). sha256 (joined ds)) all) pushed before.made;
      fit = All-same (IsBytesOf 32) _ _ pushed (All-push (IsBytesOf 32) old digest before.fit fits);
      others = subst (λ (n : ℕ). IsFrom n digests after) next (subst (IsFrom (suc b) digests) behind (from_next b digests rest before.others));
    }

pub all_made : (digests rest found : List (List ℕ)) (b : ℕ) → 256 ≤ b → IsSoFar digests b rest found → found ≡ map (bucket_digest_in digests) buckets
all_made digests rest found b past so = all_buckets (bucket_digest_in digests) b found past so.made

pub is_outline : (digests rest found : List (List ℕ)) (b : ℕ) → 256 ≤ b → IsSoFar digests b rest found → IsOutline found
is_outline digests rest found b past so = record { size = so_many (bucket_digest_in digests) found (all_made digests rest found b past so); each = so.fit }
