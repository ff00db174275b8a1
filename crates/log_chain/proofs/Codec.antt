-- Spellings and readings, put together part by part: what is read is spelled so, and what is spelled so is read.
-- `IsField at text Fits` says both of one part of a format. The kinds of field of `FieldReader` stand in `FieldKinds`,
-- lists of parts in `ListFields`, and formats that take all of the bytes in `WholeTexts`.
use Rattle.std.proofs.Common.{◌≡◌, ℕ, Bool, false, cond, List, ◌++◌, Result, Ok, Err, refl, sym, ap, subst, ◌∙◌, append_assoc}
use Rattle.outcome.specs.Bytes.{IsBytes}
use Rattle.outcome.specs.Outcome.{◌>>=◌, told_as}
use Rattle.outcome.proofs.Steps.{bind_ok, told_ok, guard_false, Ok-inj}
use Rattle.log_chain.specs.Fields.{Read}

-- The text stands at the front of the bytes, and the rest after it.
pub record Takes (bytes text rest : List ℕ) : Type 0 where
  pub parts : bytes ≡ text ++ rest
  pub rest_fits : IsBytes rest

-- two texts, one after the other
pub Takes-then : (a x b y c : List ℕ) → Takes a x b → Takes b y c → Takes a (x ++ y) c
Takes-then a x b y c p q = record { parts = p.parts ∙ ap (λ (t : List ℕ). x ++ t) q.parts ∙ sym (append_assoc x y c); rest_fits = q.rest_fits }

-- A kind of field: what is read is spelled so, and what fits and is spelled so is read.
pub record IsField {Y E : Type 0} (at : List ℕ → Read Y E) (text : Y → List ℕ) (Fits : Y → Type 0) : Type 0 where
  pub takes : (bytes : List ℕ) (y : Y) (rest : List ℕ) → IsBytes bytes → at bytes ≡ Ok (y, rest) → Takes bytes (text y) rest × Fits y
  pub again : (y : Y) (rest : List ℕ) → Fits y → at (text y ++ rest) ≡ Ok (y, rest)

-- the same field with its text and its conditions said in another way
pub said : {Y E : Type 0} {at : List ℕ → Read Y E} {text : Y → List ℕ} {Fits : Y → Type 0} (text' : Y → List ℕ) (Fits' : Y → Type 0)
    → ((y : Y) → text y ≡ text' y) → ((y : Y) → Fits y → Fits' y) → ((y : Y) → Fits' y → Fits y) → IsField at text Fits → IsField at text' Fits'
said {at = at} text' Fits' same to from one = record {
  takes = λ bytes y rest fits e.
      let t = one.takes bytes y rest fits e in
      (subst (λ s. Takes bytes s rest) (same y) t.0, to y t.1);
  again = λ y rest fits. ap (λ s. at (s ++ rest)) (sym (same y)) ∙ one.again y rest (from y fits);
}

-- the same field in a format whose faults have names of their own
pub told : {Y E F : Type 0} {at : List ℕ → Read Y E} {text : Y → List ℕ} {Fits : Y → Type 0} (tell : E → F) → IsField at text Fits → IsField (λ bytes. told_as tell (at bytes)) text Fits
told {at = at} tell one = record {
  takes = λ bytes y rest fits e. one.takes bytes y rest fits (told_ok tell (at bytes) (y, rest) e);
  again = λ y rest fits. ap (told_as tell) (one.again y rest fits);
}

-- The same field where values that fail a test are refused.
pub tested : {Y E : Type 0} {at : List ℕ → Read Y E} {text : Y → List ℕ} {Fits : Y → Type 0} (bad : Y → Bool) (fault : E) → IsField at text Fits
    → IsField (λ bytes. at bytes >>= λ r. cond (bad r.0) (Err fault) (Ok r)) text (λ y. Fits y × (bad y ≡ false))
tested {Y = Y} {E = E} {at = at} {text = text} {Fits = Fits} bad fault one = record {
  takes = λ bytes y rest fits e.
      let b = bind_ok (at bytes) (λ r. cond (bad r.0) (Err fault) (Ok r)) (y, rest) e in
      let g = guard_false (bad b.0.0) fault (Ok b.0) (y, rest) b.2 in
      let t = one.takes bytes b.0.0 b.0.1 fits b.1 in
      subst (λ (p : Y × List ℕ). Takes bytes (text p.0) p.1 × (Fits p.0 × (bad p.0 ≡ false))) (Ok-inj {E = E} b.0 (y, rest) g.1) (t.0, (t.1, g.0));
  again = λ y rest fits.
      ap (λ (found : Read Y E). found >>= λ r. cond (bad r.0) (Err fault) (Ok r)) (one.again y rest fits.0)
      ∙ ap (λ (b : Bool). cond b (Err fault) (Ok (y, rest))) fits.1;
}

-- The same field where each value that is read stands for another, or is refused, as a tag stands for a form.
pub turned : {Y Z E : Type 0} {at : List ℕ → Read Y E} {text : Y → List ℕ} {Fits : Y → Type 0} (turn : Y → Result Z E) (back : Z → Y) (FitsTurned : Z → Type 0)
    → ((y : Y) (z : Z) → Fits y → turn y ≡ Ok z → (back z ≡ y) × FitsTurned z) → ((z : Z) → FitsTurned z → Fits (back z) × (turn (back z) ≡ Ok z)) → IsField at text Fits
    → IsField (λ bytes. at bytes >>= λ r. turn r.0 >>= λ z. Ok (z, r.1)) (λ z. text (back z)) FitsTurned
turned {Y = Y} {Z = Z} {E = E} {at = at} {text = text} turn back FitsTurned to from one = record {
  takes = λ bytes z rest fits e.
      let b = bind_ok (at bytes) (λ r. turn r.0 >>= λ z. Ok (z, r.1)) (z, rest) e in
      let c = bind_ok (turn b.0.0) (λ z. Ok (z, b.0.1)) (z, rest) b.2 in
      let t = one.takes bytes b.0.0 b.0.1 fits b.1 in
      let u = to b.0.0 c.0 t.1 c.1 in
      let front : Takes bytes (text (back c.0)) b.0.1 = subst (λ (y : Y). Takes bytes (text y) b.0.1) (sym u.0) t.0 in
      subst (λ (p : Z × List ℕ). Takes bytes (text (back p.0)) p.1 × FitsTurned p.0) (Ok-inj {E = E} (c.0, b.0.1) (z, rest) c.2) (front, u.1);
  again = λ z rest fits.
      let f = from z fits in
      ap (λ (found : Read Y E). found >>= λ r. turn r.0 >>= λ z. Ok (z, r.1)) (one.again (back z) rest f.0)
      ∙ ap (λ (turned : Result Z E). turned >>= λ z. Ok (z, rest)) f.1;
}

-- ---- several parts

-- two parts, one after the other
abbrev pub both_at : {A B E : Type 0} → (List ℕ → Read A E) → (List ℕ → Read B E) → List ℕ → Read (A × B) E
both_at {A} {B} {E} at_a at_b bytes = at_a bytes >>= λ a. at_b a.1 >>= λ b. let both : Read (A × B) E = Ok ((a.0, b.0), b.1) in both

-- a part that says how the next one is read
abbrev pub then_at : {A B E : Type 0} → (List ℕ → Read A E) → (A → List ℕ → Read B E) → List ℕ → Read B E
then_at at_a at_b bytes = at_a bytes >>= λ a. at_b a.0 a.1

-- a value that is made of what is read
abbrev pub made_at : {A B E : Type 0} → (A → B) → (List ℕ → Read A E) → List ℕ → Read B E
made_at {A} {B} {E} make at bytes = at bytes >>= λ a. let made : Read B E = Ok (make a.0, a.1) in made

-- a sequence of steps may be cut anywhere
pub bind_assoc : {A B C E : Type 0} (r : Result A E) (f : A → Result B E) (g : B → Result C E) → ((r >>= f) >>= g) ≡ (r >>= λ x. f x >>= g)
bind_assoc (Ok x) f g = refl
bind_assoc (Err e) f g = refl

-- Two parts, one after the other. More parts nest to the right, as both a (both b c).
pub both : {A B E : Type 0} {at_a : List ℕ → Read A E} {text_a : A → List ℕ} {FitsA : A → Type 0} {at_b : List ℕ → Read B E} {text_b : B → List ℕ} {FitsB : B → Type 0}
    → IsField at_a text_a FitsA → IsField at_b text_b FitsB → IsField (both_at at_a at_b) (λ y. text_a y.0 ++ text_b y.1) (λ y. FitsA y.0 × FitsB y.1)
both {A = A} {B = B} {E = E} {at_a = at_a} {text_a = text_a} {FitsA = FitsA} {at_b = at_b} {text_b = text_b} {FitsB = FitsB} first second = record {
  takes = λ bytes y rest fits e.
      let a = bind_ok (at_a bytes) (λ a. at_b a.1 >>= λ b. let both : Read (A × B) E = Ok ((a.0, b.0), b.1) in both) (y, rest) e in
      let b = bind_ok (at_b a.0.1) (λ b. let both : Read (A × B) E = Ok ((a.0.0, b.0), b.1) in both) (y, rest) a.2 in
      let p = first.takes bytes a.0.0 a.0.1 fits a.1 in
      let q = second.takes a.0.1 b.0.0 b.0.1 p.0.rest_fits b.1 in
      let joined = Takes-then bytes (text_a a.0.0) a.0.1 (text_b b.0.0) b.0.1 p.0 q.0 in
      subst (λ (r : (A × B) × List ℕ). Takes bytes (text_a r.0.0 ++ text_b r.0.1) r.1 × (FitsA r.0.0 × FitsB r.0.1)) (Ok-inj {E = E} ((a.0.0, b.0.0), b.0.1) (y, rest) b.2) (joined, (p.1, q.1));
  again = λ y rest fits.
      ap (both_at at_a at_b) (append_assoc (text_a y.0) (text_b y.1) rest)
      ∙ ap (λ (r : Read A E). r >>= λ a. at_b a.1 >>= λ b. let both : Read (A × B) E = Ok ((a.0, b.0), b.1) in both) (first.again y.0 (text_b y.1 ++ rest) fits.0)
      ∙ ap (λ (r : Read B E). r >>= λ b. let both : Read (A × B) E = Ok ((y.0, b.0), b.1) in both) (second.again y.1 rest fits.1);
}

-- A part that says how the next one is read, as the tag of a form does. Each value knows its own tag.
pub chosen_by : {T Y E : Type 0} {tag_at : List ℕ → Read T E} {tag_text : T → List ℕ} {FitsTag : T → Type 0} (tag : Y → T) (at : T → List ℕ → Read Y E) (text : Y → List ℕ) (Fits : Y → Type 0)
    → IsField tag_at tag_text FitsTag → ((t : T) → FitsTag t → IsField (at t) text (λ y. (tag y ≡ t) × Fits y))
    → IsField (then_at tag_at at) (λ y. tag_text (tag y) ++ text y) (λ y. FitsTag (tag y) × Fits y)
chosen_by {T = T} {Y = Y} {E = E} {tag_at = tag_at} {tag_text = tag_text} {FitsTag = FitsTag} tag at text Fits first second = record {
  takes = λ bytes y rest fits e.
      let a = bind_ok (tag_at bytes) (λ a. at a.0 a.1) (y, rest) e in
      let p = first.takes bytes a.0.0 a.0.1 fits a.1 in
      let field = second a.0.0 p.1 in
      let q = field.takes a.0.1 y rest p.0.rest_fits a.2 in
      let is : a.0.0 ≡ tag y = sym q.1.0 in
      subst (λ (t : T). Takes bytes (tag_text t ++ text y) rest × (FitsTag t × Fits y)) is (Takes-then bytes (tag_text a.0.0) a.0.1 (text y) rest p.0 q.0, (p.1, q.1.1));
  again = λ y rest fits.
      let field = second (tag y) fits.0 in
      ap (then_at tag_at at) (append_assoc (tag_text (tag y)) (text y) rest)
      ∙ ap (λ (r : Read T E). r >>= λ a. at a.0 a.1) (first.again (tag y) (text y ++ rest) fits.0)
      ∙ field.again y rest (refl, fits.1);
}

-- A struct of its parts. `at` is its reader, equal to that of the parts: where it is written as a do block,
-- the equation is `λ bytes. simp bind_assoc`, under `unfolding at`.
pub struct_of : {P Y E : Type 0} {at_parts : List ℕ → Read P E} {text_parts : P → List ℕ} {FitsParts : P → Type 0}
    (at : List ℕ → Read Y E) (text : Y → List ℕ) (Fits : Y → Type 0) (make : P → Y) (parts : Y → P)
    → ((p : P) → parts (make p) ≡ p) → ((y : Y) → make (parts y) ≡ y)
    → ((bytes : List ℕ) → at bytes ≡ made_at make at_parts bytes) → ((y : Y) → text_parts (parts y) ≡ text y)
    → ((y : Y) → FitsParts (parts y) → Fits y) → ((y : Y) → Fits y → FitsParts (parts y))
    → IsField at_parts text_parts FitsParts → IsField at text Fits
struct_of {P = P} {Y = Y} {E = E} {at_parts = at_parts} {text_parts = text_parts} {FitsParts = FitsParts} at text Fits make parts there back reads spells to from field = record {
  takes = λ bytes y rest fits e.
      let a = bind_ok (at_parts bytes) (λ a. let made : Read Y E = Ok (make a.0, a.1) in made) (y, rest) (sym (reads bytes) ∙ e) in
      let t = field.takes bytes a.0.0 a.0.1 fits a.1 in
      let is : a.0.0 ≡ parts (make a.0.0) = sym (there a.0.0) in
      let spelled : text_parts a.0.0 ≡ text (make a.0.0) = ap text_parts is ∙ spells (make a.0.0) in
      let front : Takes bytes (text (make a.0.0)) a.0.1 = subst (λ (s : List ℕ). Takes bytes s a.0.1) spelled t.0 in
      let fit : Fits (make a.0.0) = to (make a.0.0) (subst FitsParts is t.1) in
      subst (λ (r : Y × List ℕ). Takes bytes (text r.0) r.1 × Fits r.0) (Ok-inj {E = E} (make a.0.0, a.0.1) (y, rest) a.2) (front, fit);
  again = λ y rest fits.
      ap (λ (s : List ℕ). at (s ++ rest)) (sym (spells y))
      ∙ reads (text_parts (parts y) ++ rest)
      ∙ ap (λ (r : Read P E). r >>= λ a. let made : Read Y E = Ok (make a.0, a.1) in made) (field.again (parts y) rest (from y fits))
      ∙ ap (λ (z : Y). Ok (z, rest)) (back y);
}
