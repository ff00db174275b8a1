-- What is known of items whose claims were verified, and lists that are made beside others.
use Rattle.std.proofs.Common.{◌≡◌, ℕ, ◌+◌, ◌-◌, ◌<◌, ◌≤◌, Bool, true, false, cond, List, [], ◌∷◌, ◌++◌, length, map, take, drop, get_or, Option, Some, None, is_some, Result, Ok, Err, refl, sym, ap, ◌∙◌, subst, arith, below_more}
use Rattle.std.proofs.lemmas.Bool.{true≢false}
use Rattle.std.specs.Prelude.{◌&&◌, ◌||◌, not}
use Rattle.std.specs.List.{flat_map, list_all, list_any}
use Rattle.std.proofs.lemmas.List.{drop_at, drop_more, drop-drop, get_or_append_left, get_or_default, get_or_at, length-append, length-drop, length-map, length_push, map-append, take_at}
use Rattle.authenticators.specs.declared.claims.Claim.{Claim}
use Rattle.authenticators.specs.Directory.{Listing}
use Rattle.authenticators.specs.Statement.{is_claim_signed}
use Rattle.item_forms.specs.declared.forms.Fields.{Fields}
use Rattle.item_forms.specs.Pieces.{Piece}
use Rattle.replay_verifier.specs.Deviation.{first_line}
use Rattle.evidence_item.specs.declared.examining.Found.{Found}
use Rattle.evidence_item.specs.declared.fault.ItemFault.{ItemFault}
use Rattle.evidence_item.specs.declared.fault.ItemFault.TheVariants.{BadSignature}
use Rattle.evidence_item.specs.declared.stating.Stated.{Stated}
use Rattle.evidence_item.specs.Checking.{is_segment}
use Rattle.evidence_item.specs.declared.examining.Examined.{Examined}
use Rattle.evidence_item.specs.Examining.{IsExamined, IsKnown}
use Rattle.evidence_item.specs.Statements.{is_valid_statement, statements_of}
use Rattle.evidence_item.specs.Validity.{early_table, fault_of}
use Rattle.evidence_item.specs.within.Stating.{AreStages, IsStage, Stage, States, claims_in, claims_of, concluded, found_of, said}
use Rattle.evidence_item.proofs.ValidItems.{early_faults}

-- There are so many, each of which is with the one at its place as is said.
pub record Beside {X Y : Type 0} (R : X → Y → Type 0) (k : ℕ) (xs : List X) (ys : List Y) : Type 0 where
  pub count : length ys ≡ k
  pub each : (n : ℕ) (x : X) (y : Y) → n < k → R (get_or xs n x) (get_or ys n y)

pub beside_more : {X Y : Type 0} (R : X → Y → Type 0) (xs : List X) (ys zs : List Y) (k : ℕ) (y : Y) → Beside R k xs ys → ((x : X) → R (get_or xs k x) y) → zs ≡ ys ++ y ∷ [] → Beside R (k + 1) xs zs
beside_more {X} {Y} R xs ys zs k y b here is =
    subst (λ (l : List Y). Beside R (k + 1) xs l) (sym is)
    (record {
      count = length_push ys y ∙ ap (λ (n : ℕ). n + 1) b.count;
      each = λ n x d below. below_more (λ m. R (get_or xs m x) (get_or (ys ++ y ∷ []) m d)) k
          (λ m low. subst (λ v. R (get_or xs m x) v) (sym (get_or_append_left ys (y ∷ []) d m (omega (arith, low, b.count)))) (b.each m x d low))
          (subst (λ v. R (get_or xs k x) v) (sym (get_or_at ys y [] d k b.count)) (here x)) n below;
    })

pub beside_all : {X Y : Type 0} (R : X → Y → Type 0) (xs : List X) (ys : List Y) (k : ℕ) → length xs ≤ k → k ≤ length xs → Beside R k xs ys → Beside R (length xs) xs ys
beside_all R xs ys k low high b = let same : k ≡ length xs = omega (arith, low, high) in subst (λ n. Beside R n xs ys) same b

-- ---- what is known

-- Where no earlier line holds, the last one decides.
last_line : (t : List (Bool × ItemFault)) (b : Bool) (g : ItemFault) → first_line t ≡ None → first_line (t ++ (b, g) ∷ []) ≡ cond b (Some g) None
last_line [] b g e = refl
last_line (l ∷ t) b g e = go l.0 e (last_line t b g)
  where
    go : (a : Bool) → cond a (Some l.1) (first_line t) ≡ None → (first_line t ≡ None → first_line (t ++ (b, g) ∷ []) ≡ cond b (Some g) None) → cond a (Some l.1) (first_line (t ++ (b, g) ∷ [])) ≡ cond b (Some g) None
    go true e rec = cc e
    go false e rec = rec e

-- Some statement is unsigned exactly where not all claims are signed.
unsigned : (ds : Listing) (cs : List Claim) → list_any (λ a. not (is_valid_statement ds a)) (map said cs) ≡ not (list_all (λ b. b) (map (is_claim_signed ds) cs))
unsigned ds [] = refl
unsigned ds (c ∷ cs) = go (is_claim_signed ds c) (unsigned ds cs)
  where
    go : (b : Bool) → list_any (λ a. not (is_valid_statement ds a)) (map said cs) ≡ not (list_all (λ b. b) (map (is_claim_signed ds) cs))
        → (not b || list_any (λ a. not (is_valid_statement ds a)) (map said cs)) ≡ not (b && list_all (λ b. b) (map (is_claim_signed ds) cs))
    go true rec = rec
    go false rec = refl

stated_fault : (ds : Listing) (x : Fields) (s : Stated) → States ds x s → fault_of ds x ≡ cond (not (list_all (λ b. b) (map (is_claim_signed ds) (claims_of s)))) (Some BadSignature) None
stated_fault ds x s v =
    last_line (early_table ds x) (list_any (λ a. not (is_valid_statement ds a)) (statements_of x)) BadSignature v.sound
    ∙ ap (λ (b : Bool). cond b (Some BadSignature) None) (ap (list_any (λ a. not (is_valid_statement ds a))) (sym v.claims) ∙ unsigned ds (claims_of s))

known_stated : (ds : Listing) (x : Fields) (s : Stated) (b : Bool) → States ds x s → list_all (λ b. b) (map (is_claim_signed ds) (claims_of s)) ≡ b → IsKnown ds x (cond b (Ok (found_of s)) (Err BadSignature))
known_stated ds x s true v e = record { other = v.other; told = (stated_fault ds x s v ∙ ap (λ (b : Bool). cond (not b) (Some BadSignature) None) e, v.found) }
known_stated ds x s false v e = record { other = v.other; told = stated_fault ds x s v ∙ ap (λ (b : Bool). cond (not b) (Some BadSignature) None) e }

pub known_stage : (ds : Listing) (x : Fields) (stage : Stage) (own : List Bool) → IsStage ds x stage → own ≡ map (is_claim_signed ds) (claims_in stage) → IsExamined ds x (record { answer = concluded own stage })
known_stage ds x None own v e = tt
known_stage ds x (Some (Err f)) own v e = record { other = v.0; told = early_faults.early ds x f v.1 }
known_stage ds x (Some (Ok s)) own v e =
    subst (λ (answers : List Bool). IsExamined ds x (record { answer = concluded answers (Some (Ok s)) })) (sym e)
    (known_stated ds x s (list_all (λ b. b) (map (is_claim_signed ds) (claims_of s))) v refl)

pub known_other : (ds : Listing) (x : Fields) (stage : Stage) (own : List Bool) → IsStage ds x stage → is_segment x ≡ false → is_some (concluded own stage) ≡ true
known_other ds x None own v e = absurd (true≢false (sym v ∙ e))
known_other ds x (Some (Err f)) own v e = refl
known_other ds x (Some (Ok s)) own v e = refl

-- What is known of the item is true, and it is known unless the item is a segment.
abbrev pub IsSettled : Listing → Piece → Examined → Type 0
IsSettled ds x e = IsExamined ds x.fields e × (is_segment x.fields ≡ false → is_some e.answer ≡ true)

-- ---- answers that are left

-- The answers that are left begin with those of the next stage, and behind them are those of the stages behind it.
pub record Next (ds : Listing) (stages : List Stage) (k at : ℕ) (answers : List Bool) (stage : Stage) : Type 0 where
  pub within : at + length (claims_in stage) ≤ length answers
  pub own : take (length (claims_in stage)) (drop at answers) ≡ map (is_claim_signed ds) (claims_in stage)
  pub left : drop (at + length (claims_in stage)) answers ≡ map (is_claim_signed ds) (flat_map claims_in (drop (k + 1) stages))

pub next_answers : (ds : Listing) (stages : List Stage) (k at : ℕ) (answers : List Bool) (stage : Stage) → at ≤ length answers → k < length stages → get_or stages k stage ≡ stage
    → drop at answers ≡ map (is_claim_signed ds) (flat_map claims_in (drop k stages)) → Next ds stages k at answers stage
next_answers ds stages k at answers stage low below is left =
    let rest : List Bool = map (is_claim_signed ds) (flat_map claims_in (drop (k + 1) stages)) in
    let own : List Bool = map (is_claim_signed ds) (claims_in stage) in
    let opened : drop k stages ≡ stage ∷ drop (k + 1) stages = drop_more stages k stage below ∙ ap (λ (s : Stage). s ∷ drop (k + 1) stages) is in
    let split : drop at answers ≡ own ++ rest =
    left ∙ ap (λ (ss : List Stage). map (is_claim_signed ds) (flat_map claims_in ss)) opened ∙ map-append (is_claim_signed ds) (claims_in stage) (flat_map claims_in (drop (k + 1) stages)) in
    let long : length own ≡ length (claims_in stage) = length-map (claims_in stage) (is_claim_signed ds) in
    let lengths : length (drop at answers) ≡ length own + length rest = ap length split ∙ length-append own rest in
    record {
      within = omega (arith, lengths, long, length-drop at answers, low);
      own = ap (take (length (claims_in stage))) split ∙ take_at own rest (length (claims_in stage)) long;
      left = sym (drop-drop (length (claims_in stage)) at answers) ∙ (ap (drop (length (claims_in stage))) split ∙ drop_at own rest (length (claims_in stage)) long);
    }

-- What is concluded for the next stage is known of its item.
pub known_next : (ds : Listing) (items : List Piece) (stages : List Stage) (k at count : ℕ) (answers read : List Bool) (stage again : Stage) (answer : Option (Result Found ItemFault))
    → AreStages ds items stages → at ≤ length answers → k < length stages → stage ≡ get_or stages k stage → again ≡ get_or stages k again
    → drop at answers ≡ map (is_claim_signed ds) (flat_map claims_in (drop k stages)) → count ≡ length (claims_in stage) → read ≡ answers
    → answer ≡ concluded (take ((at + count) - at) (drop at read)) again → (x : Piece) → IsSettled ds (get_or items k x) (record { answer = answer })
known_next ds items stages k at count answers read stage again answer are low below one other left counted same told x =
    let both : again ≡ stage = other ∙ get_or_default stages k again stage below ∙ sym one in
    let next = next_answers ds stages k at answers stage low below (sym one) left in
    let n : (at + count) - at ≡ length (claims_in stage) = omega (arith, counted) in
    let own : take ((at + count) - at) (drop at read) ≡ map (is_claim_signed ds) (claims_in stage) =
    ap (λ (m : ℕ). take m (drop at read)) n ∙ ap (λ (bs : List Bool). take (length (claims_in stage)) (drop at bs)) same ∙ next.own in
    let answer_is : answer ≡ concluded (take ((at + count) - at) (drop at read)) stage = told ∙ ap (concluded (take ((at + count) - at) (drop at read))) both in
    let place : k < length items = subst (λ m. k < m) are.count below in
    let of_stage : IsStage ds (get_or items k x).fields stage = subst (λ (s : Stage). IsStage ds (get_or items k x).fields s) (sym one) (are.each k x stage place) in
    subst (λ (a : Option (Result Found ItemFault)). IsSettled ds (get_or items k x) (record { answer = a })) (sym answer_is)
    (known_stage ds (get_or items k x).fields stage (take ((at + count) - at) (drop at read)) of_stage own, known_other ds (get_or items k x).fields stage (take ((at + count) - at) (drop at read)) of_stage)
