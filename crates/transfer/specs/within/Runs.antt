-- How digests that ascend are gone through, bucket by bucket: the ones in front that stand in a bucket, and what follows them.
use Rattle.std.specs.Prelude.{◌==◌, ℕ, suc, List, [], ◌∷◌, ◌++◌, length, cond, Option, None, Some}
use Rattle.std.specs.Int.{w64, to_be_bytes}
use Rattle.transfer.specs.Digests.{first_byte, joined}

-- The digests in front that stand in bucket b.
abbrev pub run_of : ℕ → List (List ℕ) → List (List ℕ)
run_of b [] = []
run_of b (d ∷ ds) = cond (first_byte d == b) (d ∷ run_of b ds) []

-- The digests behind those in front that stand in bucket b.
abbrev pub after_run : ℕ → List (List ℕ) → List (List ℕ)
after_run b [] = []
after_run b (d ∷ ds) = cond (first_byte d == b) (after_run b ds) (d ∷ ds)

-- The encodings of the buckets from b on. Of these the given digests are kept, and the other buckets have the runs in front.
abbrev pub runs_text : ℕ → List (List ℕ) → List (Option (List ℕ)) → List ℕ
runs_text b listed [] = []
runs_text b listed (None ∷ kept) = 0 ∷ to_be_bytes w64 (length (run_of b listed)) ++ (joined (run_of b listed) ++ runs_text (suc b) (after_run b listed) kept)
runs_text b listed (Some digest ∷ kept) = 1 ∷ digest ++ runs_text (suc b) listed kept
