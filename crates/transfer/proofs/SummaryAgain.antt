-- A summary is read of its spelling.
use Rattle.std.proofs.Common.{◌≡◌, ◌==◌, ◌-◌, ◌<◌, ◌≤◌, ◌^◌, ℕ, zero, suc, Bool, true, false, cond, List, [], ◌∷◌, ◌++◌, length, map, get_or, Option, None, Some, Ok, refl, sym, ap, subst, ◌∙◌, ◌⊎◌, append_assoc, inl, inr, arith}
use Rattle.std.specs.Prelude.{is_some, slice_index_or}
use Rattle.std.specs.List.{AllByRecursion, list_any}
use Rattle.std.specs.Int.{w8, w64, to_be_bytes}
use Rattle.std.proofs.lemmas.List.{append-nil, get_or_default, length-append}
use Rattle.std.proofs.lemmas.List.Elements.{Contains-get_or, recursion_from_All}
use Rattle.log_chain.specs.Fields.{IsBytesOf, number_at, take_at}
use Rattle.log_chain.proofs.FieldKinds.{front_again, u64_field, u8_field}
use Rattle.transfer.specs.declared.reading.Rule.TheVariants as rule
use Rattle.transfer.specs.Digests.{buckets, first_byte, joined, numbers}
use Rattle.transfer.specs.Summaries.{IsSummary, Summary, kept_at}
use Rattle.transfer.specs.SummaryTexts.{ReadSoFar, SummariesHaveOneText, counted_at, digests_at, keeps_some, last_of, listing, part_at, part_by_tag, parts_at, parts_text, short_at, short_magic, summary_magic, summary_of, summary_text, whole_at, whole_text}
use Rattle.transfer.specs.within.Runs.{after_run, run_of, runs_text}
use Rattle.transfer.proofs.AscendingDigests.{ascends, digests_after}
use Rattle.transfer.proofs.DigestLists.{AreAfter, digests_again, last_of-push}
use Rattle.transfer.proofs.Members.{cases_bool}
use Rattle.transfer.proofs.Naming.{first_below, nothing}
use Rattle.transfer.proofs.PartsOfRuns.{later_all, runs_are_parts}
use Rattle.transfer.proofs.Runs.{after_from, all_low, split}
use Rattle.transfer.proofs.ShortFound.{AreParts, FitsKept, all_with}
use Rattle.transfer.proofs.SummaryCodec.{summary_found}

-- ---- the run of a bucket, and what follows it

-- digests of a bucket that ascend
run_step : (b : ℕ) (c : Bool) (last d : List ℕ) (ds : List (List ℕ)) → (first_byte d == b) ≡ c → AreAfter rule.Ascending last (d ∷ ds) → (AreAfter rule.Ascending d ds → AreAfter (rule.InBucket b) d (run_of b ds)) → AreAfter (rule.InBucket b) last (cond c (d ∷ run_of b ds) [])
run_step b true last d ds is after more = (after.0, rw (after.1, is) refl, more after.2)
run_step b false last d ds is after more = tt

run_after : (b : ℕ) (last : List ℕ) (ds : List (List ℕ)) → AreAfter rule.Ascending last ds → AreAfter (rule.InBucket b) last (run_of b ds)
run_after b last [] after = tt
run_after b last (d ∷ ds) after = run_step b (first_byte d == b) last d ds refl after (λ more. run_after b d ds more)

-- digests behind others are behind the last of them
behind : (before ds more : List (List ℕ)) → AreAfter rule.Ascending (last_of before) (ds ++ more) → AreAfter rule.Ascending (last_of (before ++ ds)) more
behind before [] more h = subst (λ (l : List (List ℕ)). AreAfter rule.Ascending (last_of l) more) (sym (append-nil before)) h
behind before (d ∷ ds) more h =
    subst (λ (l : List (List ℕ)). AreAfter rule.Ascending (last_of l) more) (append_assoc before (d ∷ []) ds)
    (behind (before ++ d ∷ []) ds more (subst (λ (y : List ℕ). AreAfter rule.Ascending y (ds ++ more)) (sym (last_of-push before d)) h.2))

beyond : (b : ℕ) (keep : Option (List ℕ)) (keeps : List (Option (List ℕ))) (d : List ℕ) → suc b ≤ first_byte d → slice_index_or (keep ∷ keeps) (first_byte d - b) (Some []) ≡ None → slice_index_or keeps (first_byte d - suc b) (Some []) ≡ None
beyond b keep keeps d above is = let place : first_byte d - b ≡ suc (first_byte d - suc b) = omega (arith, above) in subst (λ i. slice_index_or (keep ∷ keeps) i (Some []) ≡ None) place is

-- no digest of a bucket that is kept is listed
not_here : (b : ℕ) (digest : List ℕ) (keeps : List (Option (List ℕ))) (d : List ℕ) → b ≤ first_byte d → slice_index_or (Some digest ∷ keeps) (first_byte d - b) (Some []) ≡ None → suc b ≤ first_byte d
not_here b digest keeps d low is =
    elim (cases_zero (first_byte d - b)) [
      | inl here ↦ let kept = subst (λ i. slice_index_or (Some digest ∷ keeps) i (Some []) ≡ None) here is in absurd cc
      | inr above ↦ omega (arith, above, low)
    ]
  where
    cases_zero : (n : ℕ) → (n ≡ 0) ⊎ (1 ≤ n)
    cases_zero zero = inl refl
    cases_zero (suc n) = inr (omega arith)

-- ---- buckets from b on

listed_parts : (n b : ℕ) (last : List ℕ) (more : List (List ℕ)) (keeps : List (Option (List ℕ))) → AreAfter rule.Ascending last more → AreParts (suc n) b more (None ∷ keeps) → AreParts n (suc b) (after_run b more) keeps
listed_parts n b last more keeps after h =
    let from = after_from b more (ascends last more after) h.from in
    let whole = subst (AllByRecursion (λ (d : List ℕ). slice_index_or (None ∷ keeps) (first_byte d - b) (Some []) ≡ None)) (sym (split b more)) h.apart in
    record {
      count = omega (arith, h.count);
      from = from;
      kept = h.kept.1;
      apart = all_with (after_run b more) (λ d le is. beyond b None keeps d le is) from (later_all (λ (d : List ℕ). slice_index_or (None ∷ keeps) (first_byte d - b) (Some []) ≡ None) (run_of b more) (after_run b more) whole);
    }

kept_parts : (n b : ℕ) (digest : List ℕ) (more : List (List ℕ)) (keeps : List (Option (List ℕ))) → AreParts (suc n) b more (Some digest ∷ keeps) → AreParts n (suc b) more keeps
kept_parts n b digest more keeps h =
    let from = all_with more (λ d low is. not_here b digest keeps d low is) h.from h.apart in
    record { count = omega (arith, h.count); from = from; kept = h.kept.1; apart = all_with more (λ d le is. beyond b (Some digest) keeps d le is) from h.apart }

listed_step : (b count : ℕ) (s : Summary) (text body later rest : List ℕ) (ds : List (List ℕ)) → number_at w8 text ≡ Ok (0, body) → number_at w64 body ≡ Ok (count, later) → digests_at (rule.InBucket b) count s.listed later ≡ Ok (s.listed ++ ds, rest)
    → part_at b s text ≡ Ok (record { listed = s.listed ++ ds; kept = s.kept ++ None ∷ [] }, rest)
unfolding part_at part_by_tag
listed_step b count s text body later rest ds a c d = rw (a, c, d) refl

kept_step : (b : ℕ) (s : Summary) (text body digest rest : List ℕ) → number_at w8 text ≡ Ok (1, body) → take_at 32 body ≡ Ok (digest, rest) → part_at b s text ≡ Ok (record { listed = s.listed; kept = s.kept ++ Some digest ∷ [] }, rest)
unfolding part_at part_by_tag
kept_step b s text body digest rest a d = rw (a, d) refl

then_parts : (n b : ℕ) (s t : Summary) (text rest : List ℕ) (r : ReadSoFar) → part_at b s text ≡ Ok (t, rest) → parts_at n (suc b) t rest ≡ r → parts_at (suc n) b s text ≡ r
unfolding parts_at
then_parts n b s t text rest r a c = rw (a, c) refl

pub parts_again : (n b : ℕ) (s : Summary) (more : List (List ℕ)) (keeps : List (Option (List ℕ))) (rest : List ℕ) → length more < 2 ^ 64 → AreAfter rule.Ascending (last_of s.listed) more → AreParts n b more keeps
    → parts_at n b s (runs_text b more keeps ++ rest) ≡ Ok (record { listed = s.listed ++ more; kept = s.kept ++ keeps }, rest)
unfolding parts_at
parts_again zero b s [] [] rest few after h = λ i. Ok (record { listed = sym (append-nil s.listed) i; kept = sym (append-nil s.kept) i }, rest)
parts_again zero b s (d ∷ more) [] rest few after h = let is = h.apart.0 in absurd cc
parts_again zero b s more (k ∷ keeps) rest few after h = absurd (omega (arith, h.count))
parts_again (suc n) b s more [] rest few after h = absurd (omega (arith, h.count))
parts_again (suc n) b s more (None ∷ keeps) rest few after h =
    let ds : List (List ℕ) = run_of b more in
    let others : List (List ℕ) = after_run b more in
    let is : ds ++ others ≡ more = split b more in
    let tail : List ℕ = runs_text (suc b) others keeps ++ rest in
    let body : List ℕ = joined ds ++ tail in
    let size : length ds < 2 ^ 64 = omega (arith, few, ap length is, length-append ds others) in
    let grouped : runs_text b more (None ∷ keeps) ++ rest ≡ 0 ∷ to_be_bytes w64 (length ds) ++ body =
    ap (λ (l : List ℕ). 0 ∷ l) (append_assoc (to_be_bytes w64 (length ds)) (joined ds ++ runs_text (suc b) others keeps) rest ∙ ap (λ (l : List ℕ). to_be_bytes w64 (length ds) ++ l) (append_assoc (joined ds) (runs_text (suc b) others keeps) rest)) in
    let read = digests_again (rule.InBucket b) ds s.listed tail (run_after b (last_of s.listed) more after) in
    let one = listed_step b (length ds) s (0 ∷ to_be_bytes w64 (length ds) ++ body) (to_be_bytes w64 (length ds) ++ body) body tail ds (u8_field.again 0 (to_be_bytes w64 (length ds) ++ body) (omega arith)) (u64_field.again (length ds) body size) read in
    let next = parts_again n (suc b) (record { listed = s.listed ++ ds; kept = s.kept ++ None ∷ [] }) others keeps rest (omega (arith, few, ap length is, length-append ds others))
    (behind s.listed ds others (subst (AreAfter rule.Ascending (last_of s.listed)) (sym is) after)) (listed_parts n b (last_of s.listed) more keeps after h) in
    let result : (record { listed = (s.listed ++ ds) ++ others; kept = (s.kept ++ None ∷ []) ++ keeps }, rest) ≡ (record { listed = s.listed ++ more; kept = s.kept ++ None ∷ keeps }, rest) =
    λ i. (record { listed = (append_assoc s.listed ds others ∙ ap (λ (l : List (List ℕ)). s.listed ++ l) is) i; kept = append_assoc s.kept (None ∷ []) keeps i }, rest) in
    ap (parts_at (suc n) b s) grouped
    ∙ then_parts n b s (record { listed = s.listed ++ ds; kept = s.kept ++ None ∷ [] }) (0 ∷ to_be_bytes w64 (length ds) ++ body) tail _ one next
    ∙ ap (λ (x : Summary × List ℕ). Ok x) result
parts_again (suc n) b s more (Some digest ∷ keeps) rest few after h =
    let tail : List ℕ = runs_text (suc b) more keeps ++ rest in
    let grouped : runs_text b more (Some digest ∷ keeps) ++ rest ≡ 1 ∷ digest ++ tail = ap (λ (l : List ℕ). 1 ∷ l) (append_assoc digest (runs_text (suc b) more keeps) rest) in
    let one = kept_step b s (1 ∷ digest ++ tail) (digest ++ tail) digest tail (u8_field.again 1 (digest ++ tail) (omega arith)) (front_again 32 digest tail h.kept.0.count) in
    let next = parts_again n (suc b) (record { listed = s.listed; kept = s.kept ++ Some digest ∷ [] }) more keeps rest few after (kept_parts n b digest more keeps h) in
    let result : (record { listed = s.listed ++ more; kept = (s.kept ++ Some digest ∷ []) ++ keeps }, rest) ≡ (record { listed = s.listed ++ more; kept = s.kept ++ Some digest ∷ keeps }, rest) =
    λ i. (record { listed = s.listed ++ more; kept = append_assoc s.kept (Some digest ∷ []) keeps i }, rest) in
    ap (parts_at (suc n) b s) grouped
    ∙ then_parts n b s (record { listed = s.listed; kept = s.kept ++ Some digest ∷ [] }) (1 ∷ digest ++ tail) tail _ one next
    ∙ ap (λ (x : Summary × List ℕ). Ok x) result

-- ---- all of it

-- where nothing is kept
all_none : (keeps : List (Option (List ℕ))) (a : ℕ) → list_any is_some keeps ≡ false → keeps ≡ map nothing (numbers a (length keeps))
all_none [] a none = refl
all_none (None ∷ keeps) a none = ap (λ (l : List (Option (List ℕ))). None ∷ l) (all_none keeps (suc a) none)
all_none (Some d ∷ keeps) a none = absurd cc

nothing_else : (keeps : List (Option (List ℕ))) → length keeps ≡ 256 → list_any is_some keeps ≡ false → keeps ≡ map nothing buckets
unfolding buckets
nothing_else keeps size none = all_none keeps 0 none ∙ ap (λ n. map nothing (numbers 0 n)) size

whole_again : (text body : List ℕ) (n : ℕ) (ds : List (List ℕ)) → take_at 8 text ≡ Ok (summary_magic, body) → whole_at body ≡ Ok (listing ds) → summary_of text ≡ Ok (listing ds)
unfolding summary_of
whole_again text body n ds a c = rw (a, c) refl

whole_body : (body later : List ℕ) (n : ℕ) (ds : List (List ℕ)) → number_at w64 body ≡ Ok (n, later) → digests_at rule.Ascending n [] later ≡ Ok (ds, []) → whole_at body ≡ Ok (listing ds)
unfolding whole_at counted_at
whole_body body later n ds a c = rw (a, c) refl

short_again : (text body : List ℕ) (s : Summary) → take_at 8 text ≡ Ok (short_magic, body) → short_at body ≡ Ok s → summary_of text ≡ Ok s
unfolding summary_of
short_again text body s a c = rw (a, c) refl

short_body : (body : List ℕ) (s : Summary) → parts_at 256 0 (record { listed = []; kept = [] }) body ≡ Ok (s, []) → keeps_some s.kept ≡ true → short_at body ≡ Ok s
unfolding short_at
short_body body s a k = rw (a, k) refl

-- the buckets of a summary
all_kept_fit : (keeps : List (Option (List ℕ))) → ((b : ℕ) (d : List ℕ) → slice_index_or keeps b None ≡ Some d → IsBytesOf 32 d) → AllByRecursion FitsKept keeps
all_kept_fit [] f = tt
all_kept_fit (None ∷ keeps) f = (tt, all_kept_fit keeps (λ b d is. f (suc b) d is))
all_kept_fit (Some d ∷ keeps) f = (f 0 d refl, all_kept_fit keeps (λ b e is. f (suc b) e is))

parts_of : (s : Summary) → IsSummary s → AreParts 256 0 s.listed s.kept
parts_of s h = record {
  count = h.size;
  from = all_low s.listed;
  kept = all_kept_fit s.kept h.kept;
  apart = recursion_from_All (λ (d : List ℕ). slice_index_or s.kept (first_byte d - 0) (Some []) ≡ None) s.listed (λ k d lt. unkept (get_or s.listed k d) (h.digests.each k d lt) (h.apart (get_or s.listed k d) (Contains-get_or s.listed k d lt)));
}
  where
    unkept : (d : List ℕ) → IsBytesOf 32 d → kept_at s (first_byte d) ≡ None → slice_index_or s.kept (first_byte d - 0) (Some []) ≡ None
    unkept d fits is =
        let place : first_byte d - 0 ≡ first_byte d = omega arith in
        let inside : first_byte d < length s.kept = omega (arith, first_below d fits.each, h.size) in
        ap (λ i. slice_index_or s.kept i (Some [])) place ∙ get_or_default s.kept (first_byte d) (Some []) None inside ∙ is

summary_again : (s : Summary) → length s.listed < 2 ^ 64 → IsSummary s → summary_of (summary_text s) ≡ Ok s
summary_again s few h =
    elim (cases_bool (keeps_some s.kept)) [
      | inl some ↦
          let body : List ℕ = runs_text 0 s.listed s.kept in
          let text : summary_text s ≡ short_magic ++ body = ap (λ (b : Bool). cond b (short_magic ++ parts_text s) (whole_text s.listed)) some ∙ ap (λ (l : List ℕ). short_magic ++ l) (sym (runs_are_parts s h)) in
          let read = ap (parts_at 256 0 (record { listed = []; kept = [] })) (sym (append-nil body)) ∙ parts_again 256 0 (record { listed = []; kept = [] }) s.listed s.kept [] few (digests_after s.listed h.digests) (parts_of s h) in
          ap summary_of text ∙ short_again (short_magic ++ body) body s (front_again 8 short_magic body refl) (short_body body s read some)
      | inr none ↦
          let ds : List (List ℕ) = s.listed in
          let body : List ℕ = to_be_bytes w64 (length ds) ++ joined ds in
          let is : s ≡ listing ds = λ i. record { listed = ds; kept = nothing_else s.kept h.size none i } in
          let text : summary_text s ≡ summary_magic ++ body = ap (λ (b : Bool). cond b (short_magic ++ parts_text s) (whole_text s.listed)) none in
          let read = ap (digests_at rule.Ascending (length ds) []) (sym (append-nil (joined ds))) ∙ digests_again rule.Ascending ds [] [] (digests_after ds h.digests) in
          ap summary_of text ∙ whole_again (summary_magic ++ body) body (length ds) ds (front_again 8 summary_magic body refl) (whole_body body (joined ds) (length ds) ds (u64_field.again (length ds) (joined ds) few) read) ∙ ap (λ (t : Summary). Ok t) (sym is)
    ]

pub summary_texts : SummariesHaveOneText
summary_texts = record { found = summary_found; only = summary_again }
