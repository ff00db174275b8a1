-- A summary that keeps some bucket, as it is read.
use Rattle.std.proofs.Common.{◌≡◌, ◌==◌, ◌&&◌, ℕ, zero, suc, ◌-◌, ◌≤◌, Bool, true, false, List, [], ◌∷◌, ◌++◌, length, Option, None, Some, Ok, refl, sym, ap, subst, ◌∙◌, append_assoc, arith}
use Rattle.std.specs.Prelude.{slice_index_or}
use Rattle.std.specs.List.{AllByRecursion}
use Rattle.std.specs.Int.{w8, w64, to_be_bytes}
use Rattle.std.proofs.lemmas.Bool.{eq-eqb, eqb-true, ne_eqb}
use Rattle.std.proofs.lemmas.List.{append-nil}
use Rattle.outcome.specs.Bytes.{IsBytes}
use Rattle.outcome.specs.Outcome.{◌>>=◌, told_as}
use Rattle.outcome.proofs.Steps.{bind_ok, Ok-inj}
use Rattle.log_chain.specs.Fields.{IsBytesOf, number_at, take_at}
use Rattle.log_chain.proofs.Codec.{told}
use Rattle.log_chain.proofs.FieldKinds.{block_field, u64_field, u8_field}
use Rattle.containers.specs.CheckedItems.{is_before}
use Rattle.transfer.specs.declared.fault.SummaryFault.{SummaryFault}
use Rattle.transfer.specs.declared.reading.Rule.TheVariants as rule
use Rattle.transfer.specs.Digests.{first_byte, joined}
use Rattle.transfer.specs.Refusals.{of_field}
use Rattle.transfer.specs.Summaries.{Summary}
use Rattle.transfer.specs.SummaryTexts.{digests_at, last_of, part_at, part_by_tag, parts_at}
use Rattle.transfer.specs.within.Runs.{after_run, run_of, runs_text}
use Rattle.transfer.proofs.DigestLists.{AreAfter, digests_found, digests_left, last_of-push}

-- ---- lists of which something holds

pub all_of : {X : Type 0} {P Q : X → Type 0} (xs : List X) → ((x : X) → P x → Q x) → AllByRecursion P xs → AllByRecursion Q xs
all_of [] f h = tt
all_of (x ∷ xs) f h = (f x h.0, all_of xs f h.1)

pub all_with : {X : Type 0} {P R Q : X → Type 0} (xs : List X) → ((x : X) → P x → R x → Q x) → AllByRecursion P xs → AllByRecursion R xs → AllByRecursion Q xs
all_with [] f h k = tt
all_with (x ∷ xs) f h k = (f x h.0 k.0, all_with xs f h.1 k.1)

pub all_in_both : {X : Type 0} (P : X → Type 0) (xs ys : List X) → AllByRecursion P xs → AllByRecursion P ys → AllByRecursion P (xs ++ ys)
all_in_both P [] ys h k = k
all_in_both P (x ∷ xs) ys h k = (h.0, all_in_both P xs ys h.1 k)

-- ---- digests and their buckets

both : (a b : Bool) → (a && b) ≡ true → (a ≡ true) × (b ≡ true)
both true true h = (refl, refl)
both true false h = absurd cc
both false b h = absurd cc

-- the digests of one bucket ascend
pub of_bucket : (b : ℕ) (last : List ℕ) (ds : List (List ℕ)) → AreAfter (rule.InBucket b) last ds → AreAfter rule.Ascending last ds × AllByRecursion (λ d. first_byte d ≡ b) ds
of_bucket b last [] after = (tt, tt)
of_bucket b last (d ∷ ds) after =
    let h = both (is_before last d) (first_byte d == b) after.1 in
    let others = of_bucket b d ds after.2 in
    ((after.0, h.0, others.0), (eqb-true (first_byte d) b h.1, others.1))

-- digests behind digests
pub chained : (before ds more : List (List ℕ)) → AreAfter rule.Ascending (last_of before) ds → AreAfter rule.Ascending (last_of (before ++ ds)) more → AreAfter rule.Ascending (last_of before) (ds ++ more)
chained before [] more f g = subst (λ (l : List (List ℕ)). AreAfter rule.Ascending (last_of l) more) (append-nil before) g
chained before (d ∷ ds) more f g = (
  f.0,
  f.1,
  subst (λ (y : List ℕ). AreAfter rule.Ascending y (ds ++ more)) (last_of-push before d)
      (chained (before ++ d ∷ []) ds more
      (subst (λ (y : List ℕ). AreAfter rule.Ascending y ds) (sym (last_of-push before d)) f.2)
      (subst (λ (l : List (List ℕ)). AreAfter rule.Ascending (last_of l) more) (sym (append_assoc before (d ∷ []) ds)) g)),
)

-- the run of a bucket, and what follows it
pub run_is : (b : ℕ) (ds more : List (List ℕ)) → AllByRecursion (λ d. first_byte d ≡ b) ds → AllByRecursion (λ d. suc b ≤ first_byte d) more → run_of b (ds ++ more) ≡ ds
run_is b [] [] f g = refl
run_is b [] (d ∷ more) f g = let other : (first_byte d == b) ≡ false = ne_eqb (first_byte d) b (λ is. omega (arith, is, g.0)) in rw other refl
run_is b (d ∷ ds) more f g = let is : (first_byte d == b) ≡ true = eq-eqb (first_byte d) b f.0 in rw is (ap (λ (l : List (List ℕ)). d ∷ l) (run_is b ds more f.1 g))

pub after_is : (b : ℕ) (ds more : List (List ℕ)) → AllByRecursion (λ d. first_byte d ≡ b) ds → AllByRecursion (λ d. suc b ≤ first_byte d) more → after_run b (ds ++ more) ≡ more
after_is b [] [] f g = refl
after_is b [] (d ∷ more) f g = let other : (first_byte d == b) ≡ false = ne_eqb (first_byte d) b (λ is. omega (arith, is, g.0)) in rw other refl
after_is b (d ∷ ds) more f g = let is : (first_byte d == b) ≡ true = eq-eqb (first_byte d) b f.0 in rw is (after_is b ds more f.1 g)

-- ---- buckets from b on

abbrev pub FitsKept : Option (List ℕ) → Type 0
FitsKept None = Unit {0}
FitsKept (Some digest) = IsBytesOf 32 digest

-- So many buckets from b on, of which these are kept and the others have these digests. (None is told past the last of them.)
pub record AreParts (n b : ℕ) (more : List (List ℕ)) (keeps : List (Option (List ℕ))) : Type 0 where
  pub count : length keeps ≡ n
  pub from : AllByRecursion (λ d. b ≤ first_byte d) more
  pub kept : AllByRecursion FitsKept keeps
  pub apart : AllByRecursion (λ d. slice_index_or keeps (first_byte d - b) (Some []) ≡ None) more

beyond : (b : ℕ) (keep : Option (List ℕ)) (keeps : List (Option (List ℕ))) (d : List ℕ) → suc b ≤ first_byte d → slice_index_or keeps (first_byte d - suc b) (Some []) ≡ None → slice_index_or (keep ∷ keeps) (first_byte d - b) (Some []) ≡ None
beyond b keep keeps d above is = let place : first_byte d - b ≡ suc (first_byte d - suc b) = omega (arith, above) in rw place is

here : (b : ℕ) (keeps : List (Option (List ℕ))) (d : List ℕ) → first_byte d ≡ b → slice_index_or (None ∷ keeps) (first_byte d - b) (Some []) ≡ None
here b keeps d is = let place : first_byte d - b ≡ 0 = omega (arith, is) in rw place refl

one_listed : (n b : ℕ) (ds more : List (List ℕ)) (keeps : List (Option (List ℕ))) → AllByRecursion (λ d. first_byte d ≡ b) ds → AreParts n (suc b) more keeps → AreParts (suc n) b (ds ++ more) (None ∷ keeps)
one_listed n b ds more keeps own h = record {
  count = ap suc h.count;
  from = all_in_both (λ (d : List ℕ). b ≤ first_byte d) ds more (all_of ds (λ d is. omega (arith, is)) own) (all_of more (λ d le. omega (arith, le)) h.from);
  kept = (tt, h.kept);
  apart = all_in_both (λ (d : List ℕ). slice_index_or (None ∷ keeps) (first_byte d - b) (Some []) ≡ None) ds more (all_of ds (λ d is. here b keeps d is) own) (all_with more (λ d le is. beyond b None keeps d le is) h.from h.apart);
}

one_kept : (n b : ℕ) (digest : List ℕ) (more : List (List ℕ)) (keeps : List (Option (List ℕ))) → IsBytesOf 32 digest → AreParts n (suc b) more keeps → AreParts (suc n) b more (Some digest ∷ keeps)
one_kept n b digest more keeps fits h = record {
  count = ap suc h.count;
  from = all_of more (λ d le. omega (arith, le)) h.from;
  kept = (fits, h.kept);
  apart = all_with more (λ d le is. beyond b (Some digest) keeps d le is) h.from h.apart;
}

-- ---- what is read

-- what reading n buckets from b on adds
pub record AddsParts (n b : ℕ) (s : Summary) (bytes : List ℕ) (t : Summary) (rest : List ℕ) : Type 0 where
  pub more : List (List ℕ)
  pub keeps : List (Option (List ℕ))
  pub listed_is : t.listed ≡ s.listed ++ more
  pub kept_is : t.kept ≡ s.kept ++ keeps
  pub parts : bytes ≡ runs_text b more keeps ++ rest
  pub after : AreAfter rule.Ascending (last_of s.listed) more
  pub are : AreParts n b more keeps

pub adds_none : (b : ℕ) (s : Summary) (bytes : List ℕ) → AddsParts 0 b s bytes s bytes
adds_none b s bytes = record { more = []; keeps = []; listed_is = sym (append-nil s.listed); kept_is = sym (append-nil s.kept); parts = refl; after = tt; are = record { count = refl; from = tt; kept = tt; apart = tt } }

listed_text : (b : ℕ) (ds more : List (List ℕ)) (keeps : List (Option (List ℕ))) (rest : List ℕ) → AllByRecursion (λ d. first_byte d ≡ b) ds → AllByRecursion (λ d. suc b ≤ first_byte d) more
    → 0 ∷ to_be_bytes w64 (length ds) ++ (joined ds ++ (runs_text (suc b) more keeps ++ rest)) ≡ runs_text b (ds ++ more) (None ∷ keeps) ++ rest
listed_text b ds more keeps rest own others =
    let run = run_is b ds more own others in
    let after = after_is b ds more own others in
    let tail : List ℕ = runs_text (suc b) more keeps in
    let grouped : to_be_bytes w64 (length ds) ++ (joined ds ++ (tail ++ rest)) ≡ (to_be_bytes w64 (length ds) ++ (joined ds ++ tail)) ++ rest =
    ap (λ (l : List ℕ). to_be_bytes w64 (length ds) ++ l) (sym (append_assoc (joined ds) tail rest)) ∙ sym (append_assoc (to_be_bytes w64 (length ds)) (joined ds ++ tail) rest) in
    ap (λ (l : List ℕ). 0 ∷ l) grouped
    ∙ ap (λ (l : List (List ℕ)). 0 ∷ ((to_be_bytes w64 (length l) ++ (joined l ++ tail)) ++ rest)) (sym run)
    ∙ ap (λ (l : List (List ℕ)). 0 ∷ ((to_be_bytes w64 (length (run_of b (ds ++ more))) ++ (joined (run_of b (ds ++ more)) ++ runs_text (suc b) l keeps)) ++ rest)) (sym after)

-- a bucket that is listed, and the others
pub adds_listed : (n b : ℕ) (s t : Summary) (bytes body later : List ℕ) (ds : List (List ℕ)) (rest : List ℕ) → bytes ≡ 0 ∷ to_be_bytes w64 (length ds) ++ (joined ds ++ later) → AreAfter (rule.InBucket b) (last_of s.listed) ds
    → AddsParts n (suc b) (record { listed = s.listed ++ ds; kept = s.kept ++ None ∷ [] }) later t rest → AddsParts (suc n) b s bytes t rest
adds_listed n b s t bytes body later ds rest text after r =
    let own = of_bucket b (last_of s.listed) ds after in
    record {
      more = ds ++ r.more;
      keeps = None ∷ r.keeps;
      listed_is = r.listed_is ∙ append_assoc s.listed ds r.more;
      kept_is = r.kept_is ∙ append_assoc s.kept (None ∷ []) r.keeps;
      parts = text ∙ ap (λ (l : List ℕ). 0 ∷ to_be_bytes w64 (length ds) ++ (joined ds ++ l)) r.parts ∙ listed_text b ds r.more r.keeps rest own.1 r.are.from;
      after = chained s.listed ds r.more own.0 r.after;
      are = one_listed n b ds r.more r.keeps own.1 r.are;
    }

-- a bucket that is kept, and the others
pub adds_kept : (n b : ℕ) (s t : Summary) (bytes digest later rest : List ℕ) → bytes ≡ 1 ∷ digest ++ later → IsBytesOf 32 digest
    → AddsParts n (suc b) (record { listed = s.listed; kept = s.kept ++ Some digest ∷ [] }) later t rest → AddsParts (suc n) b s bytes t rest
adds_kept n b s t bytes digest later rest text fits r = record {
  more = r.more;
  keeps = Some digest ∷ r.keeps;
  listed_is = r.listed_is;
  kept_is = r.kept_is ∙ append_assoc s.kept (Some digest ∷ []) r.keeps;
  parts = text ∙ ap (λ (l : List ℕ). 1 ∷ digest ++ l) r.parts ∙ ap (λ (l : List ℕ). 1 ∷ l) (sym (append_assoc digest (runs_text (suc b) r.more r.keeps) rest));
  after = r.after;
  are = one_kept n b digest r.more r.keeps fits r.are;
}

-- one bucket that is read
next_part : (n b tag : ℕ) (s t : Summary) (bytes body rest : List ℕ) (x : Summary × List ℕ) → IsBytes body → bytes ≡ tag ∷ body → part_by_tag tag b s body ≡ Ok x
    → ((y : Summary) (left : List ℕ) → IsBytes left → (y, left) ≡ x → AddsParts n (suc b) y left t rest) → AddsParts (suc n) b s bytes t rest
unfolding part_by_tag
next_part n b zero s t bytes body rest x fits front e others =
    let a = bind_ok (told_as of_field (number_at w64 body)) (λ count. digests_at (rule.InBucket b) count.0 s.listed count.1 >>= λ read. Ok (record { listed = read.0; kept = s.kept ++ None ∷ [] }, read.1)) x e in
    let c = (told of_field u64_field).takes body a.0.0 a.0.1 fits a.1 in
    let r = bind_ok (digests_at (rule.InBucket b) a.0.0 s.listed a.0.1) (λ read. Ok (record { listed = read.0; kept = s.kept ++ None ∷ [] }, read.1)) x a.2 in
    let read = digests_found (rule.InBucket b) a.0.0 s.listed a.0.1 r.0 c.0.rest_fits r.1 in
    let is : (record { listed = s.listed ++ read.more; kept = s.kept ++ None ∷ [] }, r.0.1) ≡ x =
    ap (λ (l : List (List ℕ)). (record { listed = l; kept = s.kept ++ None ∷ [] }, r.0.1)) (sym read.all_is) ∙ Ok-inj {E = SummaryFault} (record { listed = r.0.0; kept = s.kept ++ None ∷ [] }, r.0.1) x r.2 in
    let text : bytes ≡ 0 ∷ to_be_bytes w64 (length read.more) ++ (joined read.more ++ r.0.1) =
    front
    ∙ ap (λ (l : List ℕ). 0 ∷ l) c.0.parts
    ∙ ap (λ (l : List ℕ). 0 ∷ to_be_bytes w64 a.0.0 ++ l) read.parts
    ∙ ap (λ (k : ℕ). 0 ∷ to_be_bytes w64 k ++ (joined read.more ++ r.0.1)) (sym read.count) in
    adds_listed n b s t bytes body r.0.1 read.more rest text read.after (others (record { listed = s.listed ++ read.more; kept = s.kept ++ None ∷ [] }) r.0.1 (digests_left (rule.InBucket b) a.0.0 s.listed a.0.1 r.0 c.0.rest_fits r.1) is)
next_part n b (suc zero) s t bytes body rest x fits front e others =
    let a = bind_ok (told_as of_field (take_at 32 body)) (λ digest. Ok (record { listed = s.listed; kept = s.kept ++ Some digest.0 ∷ [] }, digest.1)) x e in
    let d = (told of_field (block_field 32)).takes body a.0.0 a.0.1 fits a.1 in
    let is : (record { listed = s.listed; kept = s.kept ++ Some a.0.0 ∷ [] }, a.0.1) ≡ x = Ok-inj {E = SummaryFault} (record { listed = s.listed; kept = s.kept ++ Some a.0.0 ∷ [] }, a.0.1) x a.2 in
    adds_kept n b s t bytes a.0.0 a.0.1 rest (front ∙ ap (λ (l : List ℕ). 1 ∷ l) d.0.parts) d.1 (others (record { listed = s.listed; kept = s.kept ++ Some a.0.0 ∷ [] }) a.0.1 d.0.rest_fits is)
next_part n b (suc (suc k)) s t bytes body rest x fits front e others = absurd cc

part_front : (b : ℕ) (s : Summary) (bytes : List ℕ) (x : Summary × List ℕ) → IsBytes bytes → part_at b s bytes ≡ Ok x → (tag : ℕ) × (body : List ℕ) × IsBytes body × (bytes ≡ tag ∷ body) × (part_by_tag tag b s body ≡ Ok x)
unfolding part_at
part_front b s bytes x fits e =
    let a = bind_ok (told_as of_field (number_at w8 bytes)) (λ tag. part_by_tag tag.0 b s tag.1) x e in
    let t = (told of_field u8_field).takes bytes a.0.0 a.0.1 fits a.1 in
    (a.0.0, a.0.1, t.0.rest_fits, t.0.parts, a.2)

pub parts_found : (n b : ℕ) (s : Summary) (bytes : List ℕ) (x : Summary × List ℕ) → IsBytes bytes → parts_at n b s bytes ≡ Ok x → AddsParts n b s bytes x.0 x.1
unfolding parts_at
parts_found zero b s bytes x fits e = subst (λ (y : Summary × List ℕ). AddsParts 0 b s bytes y.0 y.1) (Ok-inj {E = SummaryFault} (s, bytes) x e) (adds_none b s bytes)
parts_found (suc n) b s bytes x fits e =
    let a = bind_ok (part_at b s bytes) (λ part. parts_at n (suc b) part.0 part.1) x e in
    let f = part_front b s bytes a.0 fits a.1 in
    next_part n b f.0 s x.0 bytes f.1 x.1 a.0 f.2 f.3 f.4
    (λ y left whole is. subst (λ (z : Summary × List ℕ). AddsParts n (suc b) z.0 z.1 x.0 x.1) (sym is) (parts_found n (suc b) a.0.0 a.0.1 x (subst (λ (z : Summary × List ℕ). IsBytes z.1) is whole) a.2))
