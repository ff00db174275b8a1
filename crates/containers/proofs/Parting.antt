-- What the code does with the bytes of a part, as states.
use Rattle.std.proofs.Common.{◌≡◌, ℕ, zero, suc, ◌-◌, ◌≤◌, ◌<◌, List, [], ◌∷◌, ◌++◌, length, take, drop, Option, Some, None, Result, Ok, Err, refl, sym, ap, subst, ◌∙◌, arith, ◌⊎◌, inl, inr, append_assoc}
use Rattle.std.proofs.lemmas.Bool.{cases_lt}
use Rattle.std.proofs.lemmas.List.{length-append, length-take, take_at, drop_at, append-nil, take-append-drop}
use Rattle.std.specs.Prelude.{IfErr, IfOk}
use Rattle.outcome.specs.Outcome.{told_as}
use Rattle.item_forms.specs.declared.forms.Fields.{Fields}
use Rattle.evidence_item.specs.Checking.{Checked}
use Rattle.containers.specs.declared.fault.Cause.{Cause}
use Rattle.containers.specs.declared.fault.Cause.TheVariants as cause
use Rattle.containers.specs.declared.fault.ImportFault.{ImportFault}
use Rattle.containers.specs.declared.part.Left.{Left}
use Rattle.containers.specs.declared.part.Left.TheVariants as left
use Rattle.containers.specs.declared.progress.Progress.{Progress}
use Rattle.containers.specs.CheckedItems.{fields_of}
use Rattle.containers.specs.Refusals.{IsBehindFront, IsOfItems, Refuses, fault_at}
use Rattle.containers.specs.Stages.{State, len_of, reads_on, go_on}
use Rattle.containers.specs.within.Going.{EndsOn, GoesOn, IsItemRefusal, IsOneMore, IsRead, IsRefusal, LeadsAlike, LeadsOrReads, ByLeft, TakesItem, at_end}
use Rattle.containers.specs.Rest.{ItemReader}
use Rattle.containers.specs.within.Parts.{IsCut, IsHeldOn, IsLength, IsOver, IsPart, IsTaken, IsWhole}
use Rattle.containers.specs.within.Resting.{IsResting, Rests}
use Rattle.containers.specs.within.Seen.{IsParted, AwaitsMore, last_text, seen, with_more}
use Rattle.containers.proofs.CheckedLists.{fields_count, one_waited}
use Rattle.containers.proofs.Taking.{behind_front, cut_is, cut_of_items, held_alike, item_behind, len_front, taken_falls, taken_goes, taken_rests, whole_is, whole_of_items}
use Rattle.containers.proofs.Turning.{is_at_rest, item_wrong, nothing_more}

-- ---- what is held, in two

pub none_parted : (l : Option ℕ) (front body : List ℕ) → l ≡ None → IsParted l front body → body ≡ []
none_parted None front body e p = p
none_parted (Some n) front body e p = absurd cc

pub some_parted : (l : Option ℕ) (n : ℕ) (front body : List ℕ) → l ≡ Some n → IsParted l front body → (length front ≤ 4) × (0 < length body → length front ≡ 4)
some_parted None n front body e p = absurd cc
some_parted (Some m) n front body e p = p

pub four_parted : (l : Option ℕ) (n : ℕ) (front bytes : List ℕ) → l ≡ Some n → length front ≡ 4 → IsParted l front bytes
four_parted None n front bytes e four = absurd cc
four_parted (Some m) n front bytes e four = (omega (arith, four), λ some. four)

pub empty_parted : (l : Option ℕ) (n : ℕ) (front body : List ℕ) → l ≡ Some n → length front ≤ 4 → body ≡ [] → IsParted l front body
empty_parted None n front body e few none = absurd cc
empty_parted (Some m) n front body e few none = (few, λ some. let no : length body ≡ 0 = ap length none in absurd (omega (arith, some, no)))

pub no_more : (l : Option ℕ) (front body : List ℕ) → IsParted l front body → IsParted l front (body ++ [])
no_more l front body p = subst (λ (t : List ℕ). IsParted l front t) (sym (append-nil body)) p

pub nothing_behind : (front body : List ℕ) → body ≡ [] → front ++ body ≡ front
nothing_behind front body none = ap (λ (t : List ℕ). front ++ t) none ∙ append-nil front

pub counted_parted : (count : Option ℕ) (held rest new after body : List ℕ) → body ≡ [] → IsPart held rest count new after → IsParted count new body
counted_parted None held rest new after body none part = none
counted_parted (Some n) held rest new after body none part =
    let empty : length new ≡ 0 = ap length part.4 in
    let no : length body ≡ 0 = ap length none in
    (omega (arith, empty), λ some. absurd (omega (arith, some, no)))

-- bytes that join a front behind which nothing is held
pub joined_none : (front body rest new after : List ℕ) → body ≡ [] → new ++ after ≡ front ++ rest → (new ++ body) ++ after ≡ (front ++ body) ++ rest
joined_none front body rest new after none moved =
    let one : (new ++ body) ++ after ≡ new ++ after = ap (λ (t : List ℕ). t ++ after) (ap (λ (t : List ℕ). new ++ t) none ∙ append-nil new) in
    let other : (front ++ body) ++ rest ≡ front ++ rest = ap (λ (t : List ℕ). t ++ rest) (ap (λ (t : List ℕ). front ++ t) none ∙ append-nil front) in
    one ∙ moved ∙ sym other

-- bytes that join a length, behind which a body may be held
pub joined_some : (front body rest new after : List ℕ) → (0 < length body → length front ≡ 4) → length new ≡ 4 → new ++ after ≡ front ++ rest → (new ++ body) ++ after ≡ (front ++ body) ++ rest
joined_some front [] rest new after whole four moved = joined_none front [] rest new after refl moved
joined_some front (b ∷ body) rest new after whole four moved =
    let four' : length front ≡ 4 = whole (omega arith) in
    let fronts : new ≡ front = sym (take_at new after 4 four) ∙ ap (take 4) moved ∙ take_at front rest 4 four' in
    let afters : after ≡ rest = sym (drop_at new after 4 four) ∙ ap (drop 4) moved ∙ drop_at front rest 4 four' in
    ap (λ (t : List ℕ). (t ++ (b ∷ body)) ++ after) fronts ∙ ap (λ (t : List ℕ). (front ++ (b ∷ body)) ++ t) afters

-- a length that is cut off has nothing behind it
pub short_none : (front body rest new after : List ℕ) → (0 < length body → length front ≡ 4) → length new < 4 → after ≡ [] → new ++ after ≡ front ++ rest → body ≡ []
short_none front [] rest new after whole few none moved = refl
short_none front (b ∷ body) rest new after whole few none moved =
    let four : length front ≡ 4 = whole (omega arith) in
    let empty : length after ≡ 0 = ap length none in
    absurd (omega (arith, ap length moved, length-append new after, length-append front rest, four, few, empty))

-- a body that is held is shorter than its length says
pub body_short : (front body new : List ℕ) (len : ℕ) → IsCut (front ++ body) → (0 < length body → length front ≡ 4) → len ≡ len_of front → 0 < length body → length body < len
body_short front body new len is_cut whole is some =
    let four = whole some in
    let c = is_cut (omega (arith, length-append front body, four)) in
    omega (arith, c.1, length-append front body, four, len_front front body four, is)

-- and so after the rest of the length
pub body_short_new : (front body rest new after : List ℕ) (len : ℕ) → IsCut (front ++ body) → (0 < length body → length front ≡ 4) → length new ≡ 4 → len ≡ len_of new → new ++ after ≡ front ++ rest → 0 < length body → length body < len
body_short_new front body rest new after len is_cut whole four is moved some =
    let fronts : new ≡ front = sym (take_at new after 4 four) ∙ ap (take 4) moved ∙ take_at front rest 4 (whole some) in
    body_short front body new len is_cut whole (is ∙ ap len_of fronts) some

-- a length that is above the limit has nothing behind it either
pub over_joined : (f : Cause) (front body rest : List ℕ) → IsCut (front ++ body) → (0 < length body → length front ≡ 4) → IsOver f (front ++ rest) → IsOver f ((front ++ body) ++ rest)
over_joined f front [] rest is_cut whole past = subst (λ (t : List ℕ). IsOver f (t ++ rest)) (sym (append-nil front)) past
over_joined f front (b ∷ body) rest is_cut whole past =
    let four : length front ≡ 4 = whole (omega arith) in
    let c = is_cut (omega (arith, length-append front (b ∷ body), four)) in
    absurd (omega (arith, past.2, len_front front rest four, len_front front (b ∷ body) four, c.0))

-- ---- an item that is whole

module _ {P : Type 0} (reads : ItemReader) (n len : ℕ) (old : Progress P) (rest text after : List ℕ) (stage : old.left ≡ Some n) (some : 0 < n) (length_is : IsLength (Some len) old.front.items rest) (size : length text ≡ len) (joined : text ++ after ≡ old.body.items ++ rest) where
  front : List ℕ
  front = old.front.items

  is_whole : IsWhole (old.front.items ++ text)
  is_whole = whole_is old.front.items text length_is.0 (omega (arith, length_is.1, length_is.2)) (size ∙ length_is.1)

  moved : (old.front.items ++ text) ++ after ≡ (seen old).held ++ rest
  moved = append_assoc old.front.items text after ∙ ap (λ (t : List ℕ). old.front.items ++ t) joined ∙ sym (append_assoc old.front.items old.body.items rest)

  text_is : drop 4 (old.front.items ++ text) ≡ text
  text_is = behind_front old.front.items text length_is.0

  pub taken : (new : Progress P) → IsOneMore reads old.items.items text new.items.items → new.left ≡ Some (n - 1) → new.front.items ≡ [] → new.body.items ≡ [] → IsTaken reads n (seen old) rest (seen new) after
  taken new more counted no_front no_body = record {
    text = old.front.items ++ text;
    item = more.item.item.fields;
    whole = is_whole;
    moved = moved;
    read = ap (reads (last_text (fields_of old.items.items))) text_is ∙ more.read;
    new_is =
        ap (λ (l : Option ℕ). record { left = l; last = last_text (fields_of new.items.items); items = fields_of new.items.items; held = (seen new).held }) counted
        ∙ one_waited (n - 1) old.items.items new.items.items more.item (drop 4 (old.front.items ++ text)) (seen new).held more.new_is (more.spelled ∙ sym text_is) (ap (λ (t : List ℕ). t ++ new.body.items) no_front ∙ no_body);
  }

  pub wrong : (f : ImportFault) → Refuses f (told_as (fault_at (length old.items.items)) (reads (last_text (fields_of old.items.items)) text)) → (magic : List ℕ) → Refuses f (go_on magic reads (seen old) rest)
  wrong f refused magic =
      let same : told_as (fault_at (length old.items.items)) (reads (last_text (fields_of old.items.items)) text) ≡ told_as (fault_at (length (fields_of old.items.items))) (reads (last_text (fields_of old.items.items)) (drop 4 (old.front.items ++ text))) =
      ap (λ (k : ℕ). told_as (fault_at k) (reads (last_text (fields_of old.items.items)) text)) (sym (fields_count old.items.items))
      ∙ ap (λ (t : List ℕ). told_as (fault_at (length (fields_of old.items.items))) (reads (last_text (fields_of old.items.items)) t)) (sym text_is)
      in
      item_wrong magic reads (seen old) n rest (old.front.items ++ text) after f stage some is_whole moved (subst (Refuses f) same refused)

  pub behind_all : (old.items.items ≡ [] → IsRead (reads [] text)) → (magic : List ℕ) → IsBehindFront (at_end (go_on magic reads (seen old) rest))
  behind_all first magic =
      item_behind magic reads n (seen old) rest (old.front.items ++ text) after stage some is_whole moved (λ none. first_is old.items.items (fields_count old.items.items) first none)
    where
      first_is : (xs : List Checked) → length (fields_of xs) ≡ length xs → (xs ≡ [] → IsRead (reads [] text)) → length (fields_of xs) ≡ 0 → IsRead (reads (last_text (fields_of xs)) (drop 4 (old.front.items ++ text)))
      first_is [] counted first none = subst (λ (t : List ℕ). IsRead (reads [] t)) (sym text_is) (first refl)
      first_is (x ∷ xs) counted first none = absurd (omega (arith, none))

  pub of_items : (magic : List ℕ) → IsOfItems (λ r. go_on magic r (seen old) rest)
  of_items magic = whole_of_items magic n (seen old) rest (old.front.items ++ text) after stage some is_whole moved

-- ---- an item that is cut off

pub held_of_items : {P : Type 0} (n len : ℕ) (old : Progress P) (rest : List ℕ) → old.left ≡ Some n → 0 < n → IsLength (Some len) old.front.items rest → length (old.body.items ++ rest) < len → (magic : List ℕ) → IsOfItems (λ r. go_on magic r (seen old) rest)
held_of_items n len old rest stage some length_is few magic =
    let is_cut : IsCut (old.front.items ++ (old.body.items ++ rest)) = cut_is old.front.items (old.body.items ++ rest) length_is.0 (omega (arith, length_is.1, length_is.2)) (omega (arith, few, length_is.1)) in
    cut_of_items magic n (seen old) rest stage some (subst IsCut (sym (append_assoc old.front.items old.body.items rest)) is_cut)

-- an item is whole or cut off
pub any_of_items : {P : Type 0} (n len : ℕ) (old : Progress P) (rest : List ℕ) → old.left ≡ Some n → 0 < n → IsLength (Some len) old.front.items rest → (magic : List ℕ) → IsOfItems (λ r. go_on magic r (seen old) rest)
any_of_items n len old rest stage some length_is magic =
    let bytes : List ℕ = old.body.items ++ rest in
    elim (cases_lt (length bytes) len) [
      | inl few ↦ held_of_items n len old rest stage some length_is few magic
      | inr le ↦
          let none : ItemReader = λ last t. Err cause.BadTag in
          let size : length (take len bytes) ≡ len = omega (arith, length-take len bytes, le) in
          of_items none n len old rest (take len bytes) (drop len bytes) stage some length_is size (take-append-drop len bytes) magic
    ]

pub held_on : {P : Type 0} (len : ℕ) (old new : Progress P) (rest after : List ℕ) → IsLength (Some len) old.front.items rest → length (old.body.items ++ rest) < len → new.left ≡ old.left → new.items.items ≡ old.items.items → new.front.items ≡ old.front.items → new.body.items ++ after ≡ old.body.items ++ rest
    → IsHeldOn (seen old) rest (seen new) after
held_on len old new rest after length_is few lefts items fronts joined =
    let is_cut : IsCut (old.front.items ++ (old.body.items ++ rest)) = cut_is old.front.items (old.body.items ++ rest) length_is.0 (omega (arith, length_is.1, length_is.2)) (omega (arith, few, length_is.1)) in
    record {
      cut = subst IsCut (sym (append_assoc old.front.items old.body.items rest)) is_cut;
      moved =
          append_assoc new.front.items new.body.items after
          ∙ ap (λ (t : List ℕ). t ++ (new.body.items ++ after)) fronts
          ∙ ap (λ (t : List ℕ). old.front.items ++ t) joined
          ∙ sym (append_assoc old.front.items old.body.items rest);
      new_is =
          ap (λ (l : Option ℕ). record { left = l; last = (seen new).last; items = (seen new).items; held = (seen new).held }) lefts
          ∙ ap (λ (xs : List Checked). record { left = old.left; last = last_text (fields_of xs); items = fields_of xs; held = (seen new).held }) items;
    }

-- ---- where an item leads

pub on_of_items : {A : Type 0} (one other : ItemReader → Result A ImportFault) → ((r : ItemReader) → one r ≡ other r) → IsOfItems other → IsOfItems one
on_of_items one other same h f all = h f (λ r. sym (same r) ∙ all r)

rests_some : {A : Type 0} (magic : List ℕ) (l : Option ℕ) (n : ℕ) (last : List ℕ) (items : List A) (held : List ℕ) → l ≡ Some n → 0 < n → IsCut held → Rests magic l last items held
rests_some magic None n last items held e some is_cut = absurd cc
rests_some magic (Some zero) n last items held e some is_cut = let same : 0 ≡ n = cc in absurd (omega (arith, some, same))
rests_some magic (Some (suc m)) n last items held e some is_cut = is_cut

pub rests_cut : {A : Type 0} (magic : List ℕ) (l : Option ℕ) (n : ℕ) (last : List ℕ) (items : List A) (held : List ℕ) → l ≡ Some n → 0 < n → Rests magic l last items held → IsCut held
rests_cut magic None n last items held e some r = absurd cc
rests_cut magic (Some zero) n last items held e some r = let same : 0 ≡ n = cc in absurd (omega (arith, some, same))
rests_cut magic (Some (suc m)) n last items held e some r = r

-- a state with other bytes held
abbrev pub held_as : State Fields → List ℕ → State Fields
held_as s held = record { left = s.left; last = s.last; items = s.items; held = held }

-- the same bytes, otherwise parted
pub parted_alike : {A : Type 0} (magic : List ℕ) (reads : List ℕ → List ℕ → Result A Cause) (l : Option ℕ) (last : List ℕ) (items : List A) (held rest new after : List ℕ) → new ++ after ≡ held ++ rest
    → reads_on magic reads l last items (held ++ rest) ≡ reads_on magic reads l last items (new ++ after)
parted_alike magic reads l last items held rest new after joined = ap (λ (t : List ℕ). reads_on magic reads l last items t) (sym joined)

module _ {P : Type 0} (magic : List ℕ) (reads : ItemReader) (n : ℕ) (old : Progress P) (rest mid after : List ℕ) (new : Progress P) (stage : old.left ≡ Some n) (some : 0 < n) (rested : IsResting magic (seen old)) (more : 0 < length rest) (joined : mid ++ after ≡ (seen old).held ++ rest) where
  alike : (r : ItemReader) → go_on magic r (seen old) rest ≡ go_on magic r (held_as (seen old) mid) after
  alike r = parted_alike magic r old.left (seen old).last (seen old).items (seen old).held rest mid after joined

  taken_back : (b : List ℕ) → IsTaken reads n (held_as (seen old) mid) after (seen new) b → IsTaken reads n (seen old) rest (seen new) b
  taken_back b t = record { text = t.text; item = t.item; whole = t.whole; moved = t.moved ∙ joined; read = t.read; new_is = t.new_is }

  held_back : (b : List ℕ) → IsHeldOn (held_as (seen old) mid) after (seen new) b → IsHeldOn (seen old) rest (seen new) b
  held_back b h = record { cut = subst IsCut joined h.cut; moved = h.moved ∙ joined; new_is = h.new_is }

  left_is : (b : List ℕ) → IsHeldOn (seen old) rest (seen new) b → new.left ≡ Some n
  left_is b h = ap (λ (s : State Fields). s.left) h.new_is ∙ stage

  rests_held : (b : List ℕ) → IsHeldOn (seen old) rest (seen new) b → IsResting magic (with_more (seen new) b)
  rests_held b h = rests_some magic new.left n (seen new).last (seen new).items ((seen new).held ++ b) (left_is b h) some (subst IsCut (sym h.moved) h.cut)

  goes_behind : (b : List ℕ) → (IsTaken reads n (held_as (seen old) mid) after (seen new) b ⊎ (IsHeldOn (held_as (seen old) mid) after (seen new) b × (b ≡ []))) → IsParted new.left new.front.items new.body.items → GoesOn magic reads old rest new b
  goes_behind b (inl t) parted =
      let back = taken_back b t in
      record {
        same = taken_goes magic reads n (seen old) rest (seen new) b stage some back;
        stands = record { resting = taken_rests magic reads n (seen old) rest (seen new) b back; parted = parted };
        falls = taken_falls reads n (seen old) rest (seen new) b (rests_cut magic old.left n (seen old).last (seen old).items (seen old).held stage some rested) back;
      }
  goes_behind b (inr h) parted =
      let back = held_back b h.0 in
      let all : (seen new).held ++ b ≡ (seen new).held = ap (λ (t : List ℕ). (seen new).held ++ t) h.1 ∙ append-nil (seen new).held in
      let none : length b ≡ 0 = ap length h.1 in
      record {
        same = held_alike magic reads (seen old) rest (seen new) b back;
        stands = record { resting = subst (λ (t : List ℕ). IsResting magic (held_as (seen new) t)) all (rests_held b back); parted = parted };
        falls = omega (arith, more, none);
      }

  pub goes : (x : Left) → TakesItem reads n (held_as (seen old) mid) after new x → ByLeft x (GoesOn magic reads old rest new) (EndsOn magic reads old rest new)
  goes (left.Behind b) t = goes_behind b.now t.0 t.1
  goes (left.CutOff b) t =
      let back = held_back b.now t.0 in
      record {
        same = held_alike magic reads (seen old) rest (seen new) b.now back ∙ is_at_rest magic reads (with_more (seen new) b.now) (rests_held b.now back);
        stands = record { resting = rests_held b.now back; parted = t.1 };
      }

  fronts_behind : (b : List ℕ) → (IsTaken reads n (held_as (seen old) mid) after (seen new) b ⊎ (IsHeldOn (held_as (seen old) mid) after (seen new) b × (b ≡ []))) → LeadsOrReads magic old rest new b
  fronts_behind b (inl t) = let back = taken_back b t in inr (whole_of_items magic n (seen old) rest back.text b stage some back.whole back.moved)
  fronts_behind b (inr h) = inl (λ r. held_alike magic r (seen old) rest (seen new) b (held_back b h.0))

  pub fronts : (x : Left) → TakesItem reads n (held_as (seen old) mid) after new x → ByLeft x (LeadsOrReads magic old rest new) (LeadsAlike magic old rest new)
  fronts (left.Behind b) t = fronts_behind b.now t.0
  fronts (left.CutOff b) t = λ r. held_alike magic r (seen old) rest (seen new) b.now (held_back b.now t.0)

  pub goes_ok : (r : Result Left ImportFault) → IfOk r (λ x. TakesItem reads n (held_as (seen old) mid) after new x) → IfOk r (λ x. ByLeft x (GoesOn magic reads old rest new) (EndsOn magic reads old rest new))
  goes_ok (Ok x) t = goes x t
  goes_ok (Err f) t = tt

  pub fronts_ok : (r : Result Left ImportFault) → IfOk r (λ x. TakesItem reads n (held_as (seen old) mid) after new x) → IfOk r (λ x. ByLeft x (LeadsOrReads magic old rest new) (LeadsAlike magic old rest new))
  fronts_ok (Ok x) t = fronts x t
  fronts_ok (Err f) t = tt

-- the same bytes, otherwise parted, are refused alike
pub refusal_ok : {P : Type 0} (magic : List ℕ) (reads : ItemReader) (old mid : Progress P) (rest after : List ℕ) (r : Result Left ImportFault) → IfErr r (λ f. IsItemRefusal reads mid after f)
    → seen mid ≡ held_as (seen old) (seen mid).held → mid.body.items ≡ old.body.items → (seen mid).held ++ after ≡ (seen old).held ++ rest → IfErr r (λ f. IsRefusal magic reads old rest f)
refusal_ok magic reads old mid rest after (Ok x) h same body joined = tt
refusal_ok magic reads old mid rest after (Err f) h same body joined =
    let alike : (r : ItemReader) → go_on magic r (seen old) rest ≡ go_on magic r (seen mid) after =
    λ r. parted_alike magic r old.left (seen old).last (seen old).items (seen old).held rest (seen mid).held after joined ∙ ap (λ (s : State Fields). go_on magic r s after) (sym same) in
    record {
      refused = subst (λ (r : Result (State Fields) ImportFault). Refuses f r) (sym (alike reads)) (h.refused magic);
      memory = λ none memory. subst (λ (r : Result (State Fields) ImportFault). IsBehindFront (at_end r)) (sym (alike reads)) (h.memory (body ∙ none) memory magic);
      of_items = λ memory. on_of_items (λ r. go_on magic r (seen old) rest) (λ r. go_on magic r (seen mid) after) alike (h.of_items magic);
    }

-- where something of a body is held
pub refusal_of_pieces : {P : Type 0} (reads : ItemReader) (old : Progress P) (rest : List ℕ) (r : Result Left ImportFault) → 0 < length old.body.items
    → IfErr r (λ f. (magic : List ℕ) → Refuses f (go_on magic reads (seen old) rest)) → IfErr r (λ f. (magic : List ℕ) → IsOfItems (λ r. go_on magic r (seen old) rest)) → IfErr r (λ f. IsItemRefusal reads old rest f)
refusal_of_pieces reads old rest (Ok x) some refused of_items = tt
refusal_of_pieces reads old rest (Err f) some refused of_items = record {
  refused = refused;
  memory = λ none. let no : length old.body.items ≡ 0 = ap length none in absurd (omega (arith, some, no));
  of_items = of_items;
}

-- ---- many parts

pub lead_on : {P : Type 0} (magic : List ℕ) (old : Progress P) (piece : List ℕ) (mid : Progress P) (rest : List ℕ) (new : Progress P) (after : List ℕ) → LeadsOrReads magic old piece mid rest → LeadsOrReads magic mid rest new after → LeadsOrReads magic old piece new after
lead_on magic old piece mid rest new after (inr h) next = inr h
lead_on magic old piece mid rest new after (inl a) (inl b) = inl (λ r. a r ∙ b r)
lead_on magic old piece mid rest new after (inl a) (inr h) = inr (on_of_items (λ r. go_on magic r (seen old) piece) (λ r. go_on magic r (seen mid) rest) a h)

pub or_items : {P : Type 0} (magic : List ℕ) (old : Progress P) (piece : List ℕ) (mid : Progress P) (rest : List ℕ) → LeadsOrReads magic old piece mid rest → IsOfItems (λ r. go_on magic r (seen mid) rest) → IsOfItems (λ r. go_on magic r (seen old) piece)
or_items magic old piece mid rest (inl a) h = on_of_items (λ r. go_on magic r (seen old) piece) (λ r. go_on magic r (seen mid) rest) a h
or_items magic old piece mid rest (inr h) more = h

-- no fault stands where a value is read
pub value_of_items : {A : Type 0} (expected : ItemReader → Result A ImportFault) (r : ItemReader) (x : A) → expected r ≡ Ok x → IsOfItems expected
value_of_items expected r x is f all = let wrong = sym is ∙ all r in absurd cc

-- all of a piece was read
pub all_read : {P : Type 0} (magic : List ℕ) (reads : ItemReader) (old : Progress P) (piece : List ℕ) (new : Progress P) (rest : List ℕ) → go_on magic reads (seen new) rest ≡ go_on magic reads (seen old) piece → rest ≡ [] → AwaitsMore magic new → EndsOn magic reads old piece new rest
all_read magic reads old piece new rest same none stands =
    let held : (seen new).held ++ rest ≡ (seen new).held = ap (λ (t : List ℕ). (seen new).held ++ t) none ∙ append-nil (seen new).held in
    record {
      same = sym same ∙ ap (λ (t : List ℕ). go_on magic reads (seen new) t) none ∙ nothing_more magic reads (seen new) stands.resting ∙ ap (λ (t : List ℕ). let read : Result (State Fields) ImportFault = Ok (held_as (seen new) t) in read) (sym held);
      stands = record {
        resting = subst (λ (t : List ℕ). IsResting magic (held_as (seen new) t)) (sym held) stands.resting;
        parted = subst (λ (t : List ℕ). IsParted new.left new.front.items t) (sym (ap (λ (t : List ℕ). new.body.items ++ t) none ∙ append-nil new.body.items)) stands.parted;
      };
    }
