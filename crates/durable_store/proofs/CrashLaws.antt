-- What crashes leave of runs.
use Rattle.std.proofs.Common.{◌≡◌, ⊎_elim, ℕ, ◌≤◌, Bool, true, false, List, [], ◌∷◌, ◌++◌, None, refl, sym, ◌∙◌, subst}
use Rattle.std.specs.Prelude.{if◌then◌else◌, IsTrue}
use Rattle.item_forms.specs.Pieces.{Piece}
use Rattle.evidence_set.specs.ItemSets.{Items, IsWithin, insert_all}
use Rattle.journal.specs.Device.{LeavesOnly}
use Rattle.durable_store.specs.Calls.{Call, Called, IsUntouched, KeepsWithOrWithout, Took, with_group}
use Rattle.durable_store.specs.Keeping.{IsKept, Keeps, Kept}
use Rattle.durable_store.specs.Runs.{CrashesKeepWhatWasAcknowledged, KeepsBetween, Runs, acknowledged, given}
use Rattle.durable_store.proofs.Moments.{behind, started, weaker}
use Rattle.durable_store.proofs.Sets.{grows, keeps_within}

-- ---- sets of runs

pub within_itself : (E : Items) → IsWithin E E
within_itself E x has = has

pub then_within : (A B C : Items) → IsWithin A B → IsWithin B C → IsWithin A C
then_within A B C first second x has = second x (first x has)

-- what one call acknowledges
abbrev pub with_call : Items → Call → Items
with_call A call = if call.is_acknowledged then insert_all A call.group else A

call_cases : (b : Bool) (A : Items) (group : List Piece) (G : Items) → (IsTrue b → IsWithin (insert_all A group) G) → IsWithin A G → IsWithin (if b then insert_all A group else A) G
call_cases true A group G told old = told refl
call_cases false A group G told old = old

call_grows : (b : Bool) (A : Items) (group : List Piece) → IsWithin A (if b then insert_all A group else A)
call_grows true A group = grows A group
call_grows false A group = within_itself A

call_keeps : (b : Bool) (A B : Items) (group : List Piece) → IsWithin A B → IsWithin (if b then insert_all A group else A) (if b then insert_all B group else B)
call_keeps true A B group within = keeps_within A B group within
call_keeps false A B group within = within

pub acknowledged_keeps : (A B : Items) (calls : List Call) → IsWithin A B → IsWithin (acknowledged A calls) (acknowledged B calls)
acknowledged_keeps A B [] within = within
acknowledged_keeps A B (call ∷ calls) within = acknowledged_keeps (with_call A call) (with_call B call) calls (call_keeps call.is_acknowledged A B call.group within)

pub acknowledged_both : (E : Items) (xs ys : List Call) → acknowledged E (xs ++ ys) ≡ acknowledged (acknowledged E xs) ys
acknowledged_both E [] ys = refl
acknowledged_both E (x ∷ xs) ys = acknowledged_both (with_call E x) xs ys

-- what was given grows
pub given_grows : (E : Items) (calls : List Call) → IsWithin E (given E calls)
given_grows E [] = within_itself E
given_grows E (call ∷ calls) = then_within E (insert_all E call.group) (given (insert_all E call.group) calls) (grows E call.group) (given_grows (insert_all E call.group) calls)

pub given_keeps : (A B : Items) (calls : List Call) → IsWithin A B → IsWithin (given A calls) (given B calls)
given_keeps A B [] within = within
given_keeps A B (call ∷ calls) within = given_keeps (insert_all A call.group) (insert_all B call.group) calls (keeps_within A B call.group within)

pub given_both : (E : Items) (xs ys : List Call) → given E (xs ++ ys) ≡ given (given E xs) ys
given_both E [] ys = refl
given_both E (x ∷ xs) ys = given_both (insert_all E x.group) xs ys

-- ---- files between two sets

pub between : (basis : List (List ℕ)) (A B C E : Items) (file : List ℕ) → IsWithin C A → IsWithin B E → KeepsBetween basis A B file → KeepsBetween basis C E file
between basis A B C E file less more k = record { items = k.items; keeps = k.keeps; least = then_within C A k.items less k.least; most = then_within k.items B E k.most more }

module _ {D : Type 0} (moment : D → ℕ) (may_leave : D → List ℕ → Type 0) (left_since : D → ℕ → List ℕ → Type 0)
    (counts_now : (d : D) (t : ℕ) (file : List ℕ) → t ≤ moment d → may_leave d file → left_since d t file)
    (only_now : (d : D) (file : List ℕ) → left_since d (moment d) file → may_leave d file) where
  -- a store in the midst of a run: what it has, and what a crash now leaves, is between what was acknowledged and what was given
  pub record Safe (basis : List (List ℕ)) (A G : Items) (s : Kept D) : Type 0 where
    pub basis_is : s.basis ≡ basis
    pub low : IsWithin A s.contents.items
    pub high : IsWithin s.contents.items G
    pub here : (file : List ℕ) → left_since s.device (moment s.device) file → KeepsBetween basis A G file

  pub begins : (s : Kept D) → IsKept may_leave s → Safe s.basis s.contents.items s.contents.items s
  begins s kept = record {
    basis_is = refl;
    low = within_itself s.contents.items;
    high = within_itself s.contents.items;
    here = λ file left. record { items = s.contents.items; keeps = kept file (only_now s.device file left); least = within_itself s.contents.items; most = within_itself s.contents.items };
  }

  -- a store that is safe is so for fewer that were acknowledged, and for more that were given
  pub safer : (basis : List (List ℕ)) (A G C E : Items) (s : Kept D) → IsWithin C A → IsWithin G E → Safe basis A G s → Safe basis C E s
  safer basis A G C E s less more safe = record {
    basis_is = safe.basis_is;
    low = then_within C A s.contents.items less safe.low;
    high = then_within s.contents.items G E safe.high more;
    here = λ file left. between basis A G C E file less more (safe.here file left);
  }

  keeps_old : (basis : List (List ℕ)) (A G : Items) (s : Kept D) (group : List Piece) (file : List ℕ) → Safe basis A G s → Keeps s.basis s.contents.items file → KeepsBetween basis A (insert_all G group) file
  keeps_old basis A G s group file safe keeps = record {
    items = s.contents.items;
    keeps = subst (λ (b : List (List ℕ)). Keeps b s.contents.items file) safe.basis_is keeps;
    least = safe.low;
    most = then_within s.contents.items G (insert_all G group) safe.high (grows G group);
  }

  keeps_new : (basis : List (List ℕ)) (A G : Items) (s : Kept D) (group : List Piece) (file : List ℕ) → Safe basis A G s → Keeps s.basis (with_group s group) file → KeepsBetween basis A (insert_all G group) file
  keeps_new basis A G s group file safe keeps = record {
    items = with_group s group;
    keeps = subst (λ (b : List (List ℕ)). Keeps b (with_group s group) file) safe.basis_is keeps;
    least = then_within A s.contents.items (with_group s group) safe.low (grows s.contents.items group);
    most = keeps_within s.contents.items G group safe.high;
  }

  -- a crash in a call
  in_call : (basis : List (List ℕ)) (A G : Items) (s t : Kept D) (call : Call) → Safe basis A G s → Took moment may_leave left_since s call t
      → LeavesOnly moment left_since s.device t.device (KeepsBetween basis A (insert_all G call.group))
  in_call basis A G s t call safe took =
      weaker moment left_since s.device t.device (KeepsWithOrWithout s call.group) (KeepsBetween basis A (insert_all G call.group)) took.any_moment
      (λ file. ⊎_elim (λ old. keeps_old basis A G s call.group file safe old) (λ new. keeps_new basis A G s call.group file safe new))

  -- a store behind a call
  told : (basis : List (List ℕ)) (A G : Items) (s t : Kept D) (group : List Piece) (b : Bool) → t.basis ≡ s.basis → Safe basis A G s
      → (IsTrue b → (t.contents.items ≡ with_group s group) × IsKept may_leave t) → LeavesOnly moment left_since s.device t.device (KeepsBetween basis A (insert_all G group))
      → (file : List ℕ) → left_since t.device (moment t.device) file → KeepsBetween basis (if b then insert_all A group else A) (insert_all G group) file
  told basis A G s t group true same safe took run file left =
      let done = took refl in
      record {
        items = t.contents.items;
        keeps = subst (λ (b : List (List ℕ)). Keeps b t.contents.items file) (same ∙ safe.basis_is) (done.1 file (only_now t.device file left));
        least = subst (λ (E : Items). IsWithin (insert_all A group) E) (sym done.0) (keeps_within A s.contents.items group safe.low);
        most = subst (λ (E : Items). IsWithin E (insert_all G group)) (sym done.0) (keeps_within s.contents.items G group safe.high);
      }
  told basis A G s t group false same safe took run file left = run.each file (counts_now t.device (moment s.device) file run.later (only_now t.device file left))

  low_behind : (A : Items) (s t : Kept D) (group : List Piece) (b : Bool) → IsWithin A s.contents.items → IsWithin s.contents.items t.contents.items
      → (IsTrue b → t.contents.items ≡ with_group s group) → IsWithin (if b then insert_all A group else A) t.contents.items
  low_behind A s t group b low least took =
      call_cases b A group t.contents.items (λ yes_it. subst (λ (E : Items). IsWithin (insert_all A group) E) (sym (took yes_it)) (keeps_within A s.contents.items group low)) (then_within A s.contents.items t.contents.items low least)

  behind_took : (basis : List (List ℕ)) (A G : Items) (s t : Kept D) (call : Call) → t.basis ≡ s.basis → Safe basis A G s → Took moment may_leave left_since s call t
      → Safe basis (with_call A call) (insert_all G call.group) t
  behind_took basis A G s t call same safe took = record {
    basis_is = same ∙ safe.basis_is;
    low = low_behind A s t call.group call.is_acknowledged safe.low took.least (λ it. (took.acknowledged it).0);
    high = then_within t.contents.items (with_group s call.group) (insert_all G call.group) took.most (keeps_within s.contents.items G call.group safe.high);
    here = told basis A G s t call.group call.is_acknowledged same safe took.acknowledged (in_call basis A G s t call safe took);
  }

  -- a call of either kind: what a crash leaves since it began, and the store behind it
  pub record Behind (basis : List (List ℕ)) (A G : Items) (s t : Kept D) (call : Call) : Type 0 where
    pub run : LeavesOnly moment left_since s.device t.device (KeepsBetween basis A (insert_all G call.group))
    pub safe : Safe basis (with_call A call) (insert_all G call.group) t

  untouched : (basis : List (List ℕ)) (A G : Items) (s : Kept D) (group : List Piece) (b : Bool) → b ≡ false → Safe basis A G s
      → Safe basis (if b then insert_all A group else A) (insert_all G group) s
  untouched basis A G s group b refused safe =
      subst (λ (c : Bool). Safe basis (if c then insert_all A group else A) (insert_all G group) s) (sym refused)
      (safer basis A G A (insert_all G group) s (within_itself A) (grows G group) safe)

  pub one_call : (basis : List (List ℕ)) (A G : Items) (s t : Kept D) (call : Call) → Safe basis A G s → Called moment may_leave left_since s call t → Behind basis A G s t call
  one_call basis A G s t call safe called = ⊎_elim opened closed called.does
    where
      opened : (s.closed ≡ None) × Took moment may_leave left_since s call t → Behind basis A G s t call
      opened took = record { run = in_call basis A G s t call safe took.1; safe = behind_took basis A G s t call called.basis safe took.1 }

      closed : IsUntouched s call t → Behind basis A G s t call
      closed is =
          subst (λ (u : Kept D). Behind basis A G s u call) (sym is.same)
          (record {
            run = started moment left_since s.device (KeepsBetween basis A (insert_all G call.group)) (λ file left. between basis A G A (insert_all G call.group) file (within_itself A) (grows G call.group) (safe.here file left));
            safe = untouched basis A G s call.group call.is_acknowledged is.refused safe;
          })

  -- the store behind a run
  pub behind_run : (basis : List (List ℕ)) (A G : Items) (s t : Kept D) (calls : List Call) → Safe basis A G s → Runs moment may_leave left_since s calls t → Safe basis (acknowledged A calls) (given G calls) t
  behind_run basis A G s t [] safe same = subst (Safe basis A G) (sym same) safe
  behind_run basis A G s t (call ∷ calls) safe run =
      behind_run basis (with_call A call) (insert_all G call.group) run.0 t calls (one_call basis A G s run.0 call safe run.1).safe run.2

  -- what a crash leaves since a run began
  pub since : (basis : List (List ℕ)) (A G : Items) (s t : Kept D) (calls : List Call) → Safe basis A G s → Runs moment may_leave left_since s calls t
      → LeavesOnly moment left_since s.device t.device (KeepsBetween basis A (given G calls))
  since basis A G s t [] safe same =
      subst (λ (u : Kept D). LeavesOnly moment left_since s.device u.device (KeepsBetween basis A G)) (sym same) (started moment left_since s.device (KeepsBetween basis A G) safe.here)
  since basis A G s t (call ∷ calls) safe run =
      let here = one_call basis A G s run.0 call safe run.1 in
      let more = insert_all G call.group in
      let rest = since basis A more run.0 t calls (safer basis (with_call A call) more A more run.0 (call_grows call.is_acknowledged A call.group) (within_itself more) here.safe) run.2 in
      behind moment left_since s.device run.0.device t.device (KeepsBetween basis A (given more calls))
      (weaker moment left_since s.device run.0.device (KeepsBetween basis A more) (KeepsBetween basis A (given more calls)) here.run
      (λ file k. between basis A more A (given more calls) file (within_itself A) (given_grows more calls) k)) rest

  pub crashes : CrashesKeepWhatWasAcknowledged D moment may_leave left_since
  crashes first mid last before after file kept run_before run_after left =
      let E = first.contents.items in
      let safe = behind_run first.basis E E first mid before (begins first kept) run_before in
      let run = since first.basis (acknowledged E before) (given E before) mid last after safe run_after in
      subst (λ (G : Items). KeepsBetween first.basis (acknowledged E before) G file) (sym (given_both E before after)) (run.each file left)
