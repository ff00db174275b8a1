-- What bytes of an item do to a reading.
use Rattle.std.proofs.Common.{◌≡◌, ℕ, zero, suc, ◌-◌, ◌+◌, ◌≤◌, ◌<◌, List, [], ◌∷◌, ◌++◌, length, take, drop, Some, Result, Ok, Err, refl, sym, ap, ◌∙◌, arith, inl, inr}
use Rattle.std.proofs.lemmas.Bool.{cases_lt}
use Rattle.std.proofs.lemmas.List.{length-append, drop_at, take-append-le}
use Rattle.outcome.specs.Outcome.{◌>>=◌, told_as}
use Rattle.item_forms.specs.declared.forms.Fields.{Fields}
use Rattle.item_forms.specs.declared.limits.TheConstants.{LONGEST_ITEM}
use Rattle.containers.specs.declared.fault.Cause.{Cause}
use Rattle.containers.specs.declared.fault.Cause.TheVariants as cause
use Rattle.containers.specs.declared.fault.ImportFault.{ImportFault}
use Rattle.containers.specs.Refusals.{IsBehindFront, IsOfItems, fault_at}
use Rattle.containers.specs.Stages.{State, len_of, items_on, reads_on, go_on}
use Rattle.containers.specs.within.Going.{IsRead, at_end}
use Rattle.containers.specs.Rest.{ItemReader}
use Rattle.containers.specs.within.Parts.{IsCut, IsHeldOn, IsTaken, IsWhole}
use Rattle.containers.specs.within.Resting.{IsResting, Rests}
use Rattle.containers.proofs.Steps.{short, too_long, cut, whole, none_held, over}
use Rattle.containers.proofs.Turning.{item_rests, item_taken, next_item, opened}

-- ---- a length and a body

pub len_front : (front body : List ℕ) → length front ≡ 4 → len_of (front ++ body) ≡ len_of front
len_front front body four = rw (take-append-le 4 front body (omega arith)) refl

pub behind_front : (front body : List ℕ) → length front ≡ 4 → drop 4 (front ++ body) ≡ body
behind_front front body four = drop_at front body 4 four

pub whole_is : (front body : List ℕ) → length front ≡ 4 → len_of front ≤ LONGEST_ITEM → length body ≡ len_of front → IsWhole (front ++ body)
whole_is front body four within all =
    let len : len_of (front ++ body) ≡ len_of front = len_front front body four in
    record {
      long = omega (arith, length-append front body);
      within = rw len within;
      all = rw len (omega (arith, length-append front body));
    }

pub cut_is : (front body : List ℕ) → length front ≡ 4 → len_of front ≤ LONGEST_ITEM → length body < len_of front → IsCut (front ++ body)
cut_is front body four within few long =
    let len : len_of (front ++ body) ≡ len_of front = len_front front body four in
    (rw len within, rw len (omega (arith, length-append front body)))

pub short_is : (front : List ℕ) → length front < 4 → IsCut front
short_is front few long = absurd (omega arith)

-- ---- where bytes lead

-- bytes that only join those that are held
pub held_alike : {A : Type 0} (magic : List ℕ) (reads : List ℕ → List ℕ → Result A Cause) (old : State A) (rest : List ℕ) (new : State A) (after : List ℕ) → IsHeldOn old rest new after → go_on magic reads old rest ≡ go_on magic reads new after
held_alike {A} magic reads old rest new after h =
    sym (ap (λ (s : State A). go_on magic reads s after) h.new_is ∙ ap (λ (t : List ℕ). reads_on magic reads old.left old.last old.items t) h.moved)

pub taken_goes : {A : Type 0} (magic : List ℕ) (reads : List ℕ → List ℕ → Result A Cause) (n : ℕ) (old : State A) (rest : List ℕ) (new : State A) (after : List ℕ) → old.left ≡ Some n → 0 < n → IsTaken reads n old rest new after → go_on magic reads old rest ≡ go_on magic reads new after
taken_goes {A} magic reads n old rest new after stage lt t =
    item_taken magic reads old n rest t.text after t.item stage lt t.whole t.moved t.read ∙ ap (λ (s : State A). go_on magic reads s after) (sym t.new_is)

rests_empty : {A : Type 0} (magic : List ℕ) (n : ℕ) (last : List ℕ) (items : List A) → Rests magic (Some n) last items []
rests_empty magic zero last items = refl
rests_empty magic (suc n) last items = λ long. absurd (omega arith)

pub taken_rests : {A : Type 0} (magic : List ℕ) (reads : List ℕ → List ℕ → Result A Cause) (n : ℕ) (old : State A) (rest : List ℕ) (new : State A) (after : List ℕ) → IsTaken reads n old rest new after → IsResting magic new
taken_rests magic reads n old rest new after t = rw t.new_is (rests_empty magic (n - 1) (drop 4 t.text) _)

-- an item that is whole is longer than what was held of it
pub taken_falls : {A : Type 0} (reads : List ℕ → List ℕ → Result A Cause) (n : ℕ) (old : State A) (rest : List ℕ) (new : State A) (after : List ℕ) → IsCut old.held → IsTaken reads n old rest new after → length after < length rest
taken_falls reads n old rest new after is_cut t =
    let lengths : length t.text + length after ≡ length old.held + length rest = sym (length-append t.text after) ∙ ap length t.moved ∙ length-append old.held rest in
    elim (cases_lt (length old.held) 4) [
      | inl lt ↦ omega (arith, lengths, t.whole.long)
      | inr le ↦
          let fronts : take 4 old.held ≡ take 4 t.text = sym (take-append-le 4 old.held rest le) ∙ ap (take 4) (sym t.moved) ∙ take-append-le 4 t.text after t.whole.long in
          let len : len_of old.held ≡ len_of t.text = rw fronts refl in
          omega (arith, lengths, t.whole.all, len, (is_cut le).1)
    ]

-- ---- what is wrong whatever the items are

abbrev failed : ImportFault → Result (State Fields) ImportFault
failed f = Err f

fault-inj : (f g : ImportFault) → failed f ≡ failed g → f ≡ g
fault-inj f g e = cc

two_faults : (k : ℕ) (f : ImportFault) → failed (fault_at k cause.BadTag) ≡ failed f → failed (fault_at k cause.Trailing) ≡ failed f → ⊥
two_faults k f a b =
    let wrong : cause.BadTag ≡ cause.Trailing = ap (λ (x : ImportFault). x.cause) (fault-inj (fault_at k cause.BadTag) f a) ∙ sym (ap (λ (x : ImportFault). x.cause) (fault-inj (fault_at k cause.Trailing) f b)) in
    absurd cc

pub whole_of_items : (magic : List ℕ) (n : ℕ) (old : State Fields) (rest text after : List ℕ) → old.left ≡ Some n → 0 < n → IsWhole text → text ++ after ≡ old.held ++ rest → IsOfItems (λ reads. go_on magic reads old rest)
whole_of_items magic n old rest text after stage lt w moved f all =
    let one : ItemReader = λ last t. Err cause.BadTag in
    let other : ItemReader = λ last t. Err cause.Trailing in
    let a = sym (opened magic one old n rest text after stage lt w moved) ∙ all one in
    let b = sym (opened magic other old n rest text after stage lt w moved) ∙ all other in
    two_faults (length old.items) f a b

pub cut_of_items : (magic : List ℕ) (n : ℕ) (old : State Fields) (rest : List ℕ) → old.left ≡ Some n → 0 < n → IsCut (old.held ++ rest) → IsOfItems (λ reads. go_on magic reads old rest)
cut_of_items magic n old rest stage lt is_cut f all =
    let any : ItemReader = λ last t. Err cause.BadTag in
    let wrong = sym (next_item magic any old n (old.held ++ rest) stage lt ∙ item_rests any (n - 1) old.last old.items (old.held ++ rest) is_cut) ∙ all any in
    absurd cc

-- ---- faults of later items

abbrev Falls : ItemReader → ℕ → Type 0
Falls reads n = (last : List ℕ) (items : List Fields) (bytes : List ℕ) (f : ImportFault) → at_end (items_on reads n last items bytes) ≡ Err f → length items ≤ f.item

abbrev faulted : ImportFault → Result (List Fields) ImportFault
faulted f = Err f

at_fault : (k : ℕ) (c : Cause) (f : ImportFault) → faulted (fault_at k c) ≡ faulted f → k ≤ f.item
at_fault k c f e = let same : k ≡ f.item = cc in omega (arith, same)

behind_falls : (reads : ItemReader) (n : ℕ) → Falls reads n → (items : List Fields) (text rest : List ℕ) (r : Result Fields Cause) (f : ImportFault)
    → at_end (told_as (fault_at (length items)) r >>= λ item. items_on reads n text (items ++ item ∷ []) rest) ≡ Err f → length items ≤ f.item
behind_falls reads n falls items text rest (Ok item) f e = let later = falls text (items ++ item ∷ []) rest f e in omega (arith, later, length-append items (item ∷ []))
behind_falls reads n falls items text rest (Err c) f e = at_fault (length items) c f e

none_falls : (reads : ItemReader) → Falls reads zero
none_falls reads last items [] f e = let wrong = sym (ap at_end (none_held reads zero last items)) ∙ e in absurd cc
none_falls reads last items (b ∷ bytes) f e = at_fault (length items) cause.Trailing f (sym (ap at_end (over reads last items b bytes)) ∙ e)

one_falls : (reads : ItemReader) (n : ℕ) → Falls reads n → Falls reads (suc n)
one_falls reads n falls last items bytes f e =
    elim (cases_lt (length bytes) 4) [
      | inl lt ↦ at_fault (length items) cause.Truncated f (sym (ap at_end (short reads n last items bytes lt)) ∙ e)
      | inr le ↦
          elim (cases_lt LONGEST_ITEM (len_of bytes)) [
            | inl past ↦ at_fault (length items) cause.TooLong f (sym (ap at_end (too_long reads n last items bytes le past)) ∙ e)
            | inr within ↦
                elim (cases_lt (length (drop 4 bytes)) (len_of bytes)) [
                  | inl lt ↦ at_fault (length items) cause.Truncated f (sym (ap at_end (cut reads n last items bytes le within lt)) ∙ e)
                  | inr long ↦
                      let text : List ℕ = take (len_of bytes) (drop 4 bytes) in
                      behind_falls reads n falls items text (drop (len_of bytes) (drop 4 bytes)) (reads last text) f (sym (ap at_end (whole reads n last items bytes le within long)) ∙ e)
                ]
          ]
    ]

items_fall : (reads : ItemReader) (n : ℕ) → Falls reads n
items_fall reads zero = none_falls reads
items_fall reads (suc n) = one_falls reads n (items_fall reads n)

read_behind : (reads : ItemReader) (n : ℕ) (items : List Fields) (text rest : List ℕ) (r : Result Fields Cause) → (length items ≡ 0 → IsRead r)
    → IsBehindFront (at_end (told_as (fault_at (length items)) r >>= λ item. items_on reads n text (items ++ item ∷ []) rest))
read_behind reads n items text rest (Ok item) first f e zeroth =
    let later = items_fall reads n text (items ++ item ∷ []) rest f e in
    absurd (omega (arith, later, zeroth, length-append items (item ∷ [])))
read_behind reads n items text rest (Err c) first f e zeroth =
    let number : length items ≡ f.item = cc in
    let same : c ≡ f.cause = cc in
    let read = first (number ∙ zeroth) c refl in
    (read.0, sym same ∙ read.1)

-- Where the first item is read, or the item is a later one, nothing is wrong in front.
pub item_behind : (magic : List ℕ) (reads : ItemReader) (n : ℕ) (old : State Fields) (rest text after : List ℕ) → old.left ≡ Some n → 0 < n → IsWhole text → text ++ after ≡ old.held ++ rest → (length old.items ≡ 0 → IsRead (reads old.last (drop 4 text)))
    → IsBehindFront (at_end (go_on magic reads old rest))
item_behind magic reads n old rest text after stage lt w moved first f e =
    read_behind reads (n - 1) old.items (drop 4 text) after (reads old.last (drop 4 text)) first f (sym (ap at_end (opened magic reads old n rest text after stage lt w moved)) ∙ e)
