-- Answers that are written to the places that want them.
use Rattle.std.proofs.Common.{◌≡◌, ◌≢◌, ◌+◌, ◌<◌, ℕ, zero, suc, Bool, true, false, eqb, List, [], ◌∷◌, ◌++◌, Result, Err, length, get_or, set, refl, sym, ap, ◌∙◌, subst, arith, below_more}
use Rattle.std.specs.Bool.{MatchBool}
use Rattle.std.specs.List.{All, Contains, count_by}
use Rattle.std.proofs.lemmas.Bool.{eqb-true, eq-eqb, true≢false}
use Rattle.std.proofs.lemmas.List.{length-set, get_or_default, get_or-set_same, get_or-set_other}
use Rattle.std.proofs.lemmas.List.Elements.{All-head, All-tail, All-push, Contains-append_left, Contains-append_right, Contains-push}
use Rattle.authenticators.specs.Directory.{Listing}
use Rattle.replay_verifier.specs.Meaning.{Meaning}
use Rattle.item_forms.specs.Pieces.{Piece}
use Rattle.evidence_item.specs.declared.fault.ItemFault.{ItemFault}
use Rattle.evidence_item.specs.declared.fault.ItemFault.TheVariants as fault
use Rattle.evidence_item.specs.Checking.{Checked}
use Rattle.parallel_checking.specs.declared.again.Placed.{Placed}
use Rattle.parallel_checking.specs.Again.{AgainAreAnswers, AreAgain, IsAgainAt, wants_answer}
use Rattle.parallel_checking.specs.Checks.{IsAnswerAt}
use Rattle.parallel_checking.specs.within.Placing.{ArePlaced, AreWanting, IsPlaceOf, Wants, written}

-- ---- members

has_head : {X : Type 0} (x : X) (xs : List X) → Contains (x ∷ xs) x
has_head x xs = (0, omega arith, refl)

has_more : {X : Type 0} (y : X) (xs : List X) (x : X) → Contains xs x → Contains (y ∷ xs) x
has_more y xs x has = Contains-append_right (y ∷ []) xs x has

-- ---- the places that want an answer

abbrev Answers : Type 0
Answers = List (Result Checked ItemFault)

pub want_more : (rs : Answers) (n : ℕ) (ps qs : List ℕ) → AreWanting rs n ps → Wants rs n → qs ≡ ps ++ n ∷ [] → AreWanting rs (n + 1) qs
want_more rs n ps qs d here is =
    subst (λ l. AreWanting rs (n + 1) l) (sym is)
    (record {
      just = All-push (Wants rs) ps n d.just here;
      all = below_more (λ m. Wants rs m → Contains (ps ++ n ∷ []) m) n (λ m below w. Contains-append_left ps (n ∷ []) m (d.all m below w)) (λ w. Contains-push ps n);
    })

not_both : (b : Bool) → b ≡ true → b ≡ false → ⊥
not_both true e f = true≢false f
not_both false e f = true≢false (sym e)

pub want_same : (rs : Answers) (n : ℕ) (ps qs : List ℕ) → AreWanting rs n ps → wants_answer (get_or rs n (Err fault.Memory)) ≡ false → qs ≡ ps → AreWanting rs (n + 1) qs
want_same rs n ps qs d not_here is =
    subst (λ l. AreWanting rs (n + 1) l) (sym is)
    (record {
      just = d.just;
      all = below_more (λ m. Wants rs m → Contains ps m) n d.all (λ w. absurd (not_both (wants_answer (get_or rs n (Err fault.Memory))) w.wants not_here));
    })

pub bounded : (rs : Answers) (n m : ℕ) (ps : List ℕ) → AreWanting rs n ps → length rs ≡ m → All (λ p. p < m) ps
bounded rs n m ps d is = λ k e below. subst (λ l. get_or ps k e < l) is (d.just k e below).below

-- What is read at a place within the list.
pub read_is : (rs : Answers) (n : ℕ) (r : Result Checked ItemFault) (b : Bool) → n < length rs → r ≡ get_or rs n r → b ≡ wants_answer r → wants_answer (get_or rs n (Err fault.Memory)) ≡ b
read_is rs n r b below is e = ap wants_answer (get_or_default rs n (Err fault.Memory) r below ∙ sym is) ∙ sym e

-- ---- writing

pub head_place : {T : Type 0} (xs : List T) (p : Placed T) (left rest : List (Placed T)) → All (IsPlaceOf xs) left → left ≡ p ∷ rest → p.place < length xs
head_place {T} xs p left rest all is = All-head (IsPlaceOf xs) p rest (subst (λ (l : List (Placed T)). All (IsPlaceOf xs) l) is all)

pub tail_places : {T : Type 0} (xs ys : List T) (p : Placed T) (left rest : List (Placed T)) → All (IsPlaceOf xs) left → left ≡ p ∷ rest → ys ≡ set xs p.place p.answer → All (IsPlaceOf ys) rest
tail_places {T} xs ys p left rest all is changed =
    let tail : All (IsPlaceOf xs) rest = All-tail (IsPlaceOf xs) p rest (subst (λ (l : List (Placed T)). All (IsPlaceOf xs) l) is all) in
    let same : length xs ≡ length ys = sym (ap length changed ∙ length-set xs p.place p.answer) in
    λ k d below. subst (λ l. (get_or rest k d).place < l) same (tail k d below)

pub writes_on : {T : Type 0} (xs ys zs : List T) (p : Placed T) (left rest : List (Placed T)) → left ≡ p ∷ rest → ys ≡ set xs p.place p.answer → written xs left ≡ zs → written ys rest ≡ zs
writes_on {T} xs ys zs p left rest is changed so_far = ap (λ (l : List T). written l rest) changed ∙ (sym (ap (written xs) is) ∙ so_far)

pub as_many : {T : Type 0} (ps : List (Placed T)) (xs : List T) → length (written xs ps) ≡ length xs
as_many [] xs = refl
as_many (p ∷ ps) xs = as_many ps (set xs p.place p.answer) ∙ length-set xs p.place p.answer

module _ {T : Type 0} (Q : ℕ → T → Type 0) where
  put : (b : Bool) (xs : List T) (p : Placed T) (n : ℕ) (d : T) → eqb n p.place ≡ b → n < length xs → Q p.place p.answer → Q n (get_or xs n d) → Q n (get_or (set xs p.place p.answer) n d)
  put true xs p n d e below new old =
      let same : p.place ≡ n = sym (eqb-true n p.place e) in
      subst (λ m. Q n (get_or (set xs m p.answer) n d)) (sym same) (subst (λ r. Q n r) (sym (get_or-set_same xs n p.answer d below)) (subst (λ m. Q m p.answer) same new))
  put false xs p n d e below new old =
      let other : n ≢ p.place = λ same. not_both (eqb n p.place) (eq-eqb n p.place same) e in
      subst (λ r. Q n r) (sym (get_or-set_other xs p.place n p.answer d other)) old

  longer : (xs : List T) (p : Placed T) (n : ℕ) → n < length xs → n < length (set xs p.place p.answer)
  longer xs p n below = subst (λ l. n < l) (sym (length-set xs p.place p.answer)) below

  stays : (ps : List (Placed T)) (xs : List T) (n : ℕ) (d : T) → n < length xs → ((p : Placed T) → Contains ps p → Q p.place p.answer) → Q n (get_or xs n d) → Q n (get_or (written xs ps) n d)
  stays [] xs n d below each is = is
  stays (p ∷ ps) xs n d below each is =
      stays ps (set xs p.place p.answer) n d (longer xs p n below) (λ e has. each e (has_more p ps e has)) (put (eqb n p.place) xs p n d refl below (each p (has_head p ps)) is)

  -- What is written to a place is one of the answers to it.
  written_at : (ps : List (Placed T)) (xs : List T) (k : ℕ) (e : Placed T) (n : ℕ) (d : T) → k < length ps → (get_or ps k e).place ≡ n → n < length xs → ((p : Placed T) → Contains ps p → Q p.place p.answer)
      → Q n (get_or (written xs ps) n d)
  written_at [] xs k e n d inside at below each = absurd (omega arith)
  written_at (p ∷ ps) xs zero e n d inside at below each =
      let first : Q n p.answer = subst (λ m. Q m p.answer) at (each p (has_head p ps)) in
      let set_is : Q n (get_or (set xs p.place p.answer) n d) = subst (λ m. Q n (get_or (set xs m p.answer) n d)) (sym at) (subst (λ r. Q n r) (sym (get_or-set_same xs n p.answer d below)) first) in
      stays ps (set xs p.place p.answer) n d (longer xs p n below) (λ q has. each q (has_more p ps q has)) set_is
  written_at (p ∷ ps) xs (suc k) e n d inside at below each =
      written_at ps (set xs p.place p.answer) k e n d (omega arith) at (longer xs p n below) (λ q has. each q (has_more p ps q has))

-- What is at no place that is written to is left.
untouched : {T : Type 0} (ps : List (Placed T)) (xs : List T) (n : ℕ) (d : T) → ((p : Placed T) → Contains ps p → n ≢ p.place) → get_or (written xs ps) n d ≡ get_or xs n d
untouched [] xs n d each = refl
untouched (p ∷ ps) xs n d each =
    untouched ps (set xs p.place p.answer) n d (λ q has. each q (has_more p ps q has)) ∙ get_or-set_other xs p.place n p.answer d (each p (has_head p ps))

-- ---- checking again

by_test : (b : Bool) (A B : Type 0) → (b ≡ true → A) → (b ≡ false → B) → MatchBool b A B
by_test true A B f g = f refl
by_test false A B f g = g refl

module _ {S : Type 0} (ds : Listing) (program : Meaning S) (items : List Piece) (rs : Answers) (places : List ℕ) (ps : List (Placed (Result Checked ItemFault))) where
  wanted : AreWanting rs (length rs) places → ArePlaced ds program items places ps → (k : ℕ) (d : Placed (Result Checked ItemFault)) → k < length ps → Wants rs (get_or ps k d).place
  wanted w a k d below =
      let inside : k < length places = subst (λ l. k < l) a.count below in
      subst (λ n. Wants rs n) (sym (a.each k d inside).place) (w.just k 0 inside)

  pub ready : AreWanting rs (length rs) places → ArePlaced ds program items places ps → All (IsPlaceOf rs) ps
  ready w a = λ k d below. (wanted w a k d below).below

  answered : ArePlaced ds program items places ps → (p : Placed (Result Checked ItemFault)) → Contains ps p → IsAnswerAt ds program items p.place p.answer
  answered a p has =
      let inside : has.0 < length places = subst (λ l. has.0 < l) a.count has.1 in
      subst (λ (q : Placed (Result Checked ItemFault)). IsAnswerAt ds program items q.place q.answer) has.2 (a.each has.0 p inside).answer

  wanting_place : AreWanting rs (length rs) places → ArePlaced ds program items places ps → (p : Placed (Result Checked ItemFault)) → Contains ps p → Wants rs p.place
  wanting_place w a p has = subst (λ (q : Placed (Result Checked ItemFault)). Wants rs q.place) has.2 (wanted w a has.0 p has.1)

  abbrev any_placed : Placed (Result Checked ItemFault)
  any_placed = record { place = 0; answer = Err fault.Memory }

  again_at : AreWanting rs (length rs) places → ArePlaced ds program items places ps → (n : ℕ) (d : Result Checked ItemFault) → n < length rs → IsAgainAt ds program items n (get_or rs n d) (get_or (written rs ps) n d)
  again_at w a n d below =
      let same : get_or rs n d ≡ get_or rs n (Err fault.Memory) = get_or_default rs n d (Err fault.Memory) below in
      by_test (wants_answer (get_or rs n d)) (IsAnswerAt ds program items n (get_or (written rs ps) n d)) (get_or (written rs ps) n d ≡ get_or rs n d)
      (λ is_true.
      let wants : Wants rs n = record { below = below; wants = ap wants_answer (sym same) ∙ is_true } in
      let has : Contains places n = w.all n below wants in
      let inside : has.0 < length ps = subst (λ l. has.0 < l) (sym a.count) has.1 in
      let at : (get_or ps has.0 any_placed).place ≡ n = (a.each has.0 any_placed has.1).place ∙ (get_or_default places has.0 0 n has.1 ∙ has.2) in
      written_at (IsAnswerAt ds program items) ps rs has.0 any_placed n d inside at below (answered a))
      (λ other.
      untouched ps rs n d
      (λ p has here.
      let wants : Wants rs n = subst (λ m. Wants rs m) (sym here) (wanting_place w a p has) in
      not_both (wants_answer (get_or rs n d)) (ap wants_answer same ∙ wants.wants) other))

  pub again : AreWanting rs (length rs) places → ArePlaced ds program items places ps → (new : Answers) (left : ℕ) → new ≡ written rs ps → left ≡ count_by wants_answer new → AreAgain ds program items rs left new
  again w a new left is counted =
      record {
        count = ap length is ∙ as_many ps rs;
        each = λ n d below. subst (λ (l : Answers). IsAgainAt ds program items n (get_or rs n d) (get_or l n d)) (sym is) (again_at w a n d below);
        left_is = counted;
      }

  -- The same where lists were read through a slice.
  pub finish : (rs2 new new2 : Answers) (places2 : List ℕ) (left : ℕ) → rs2 ≡ rs → AreWanting rs2 (length rs2) places → places2 ≡ places → ArePlaced ds program items places2 ps
      → new ≡ written rs ps → new2 ≡ new → left ≡ count_by wants_answer new2 → AreAgain ds program items rs left new
  finish rs2 new new2 places2 left read w read_places a is read_new counted =
      again (subst (λ (l : Answers). AreWanting l (length l) places) read w) (subst (λ l. ArePlaced ds program items l ps) read_places a) new left is (counted ∙ ap (λ (l : Answers). count_by wants_answer l) read_new)

kept_or_again : {S : Type 0} (ds : Listing) (program : Meaning S) (items : List Piece) (n : ℕ) (b : Bool) (old new : Result Checked ItemFault) → IsAnswerAt ds program items n old
    → MatchBool b (IsAnswerAt ds program items n new) (new ≡ old) → IsAnswerAt ds program items n new
kept_or_again ds program items n true old new was is = is
kept_or_again ds program items n false old new was is = subst (λ (r : Result Checked ItemFault). IsAnswerAt ds program items n r) (sym is) was

pub again_answers : {S : Type 0} → AgainAreAnswers S
again_answers ds program items old new left were again = record {
  count = again.count ∙ were.count;
  each = λ n d below.
      let inside : n < length old = subst (λ l. n < l) (sym were.count) below in
      kept_or_again ds program items n (wants_answer (get_or old n d)) (get_or old n d) (get_or new n d) (were.each n d below) (again.each n d inside);
}
