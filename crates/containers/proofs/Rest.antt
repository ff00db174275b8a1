-- What the rest of a container makes.
use Rattle.std.proofs.Common.{◌≡◌, ◌∙◌, ℕ, zero, suc, ◌+◌, ◌<◌, ◌≤◌, Bool, true, false, List, [], ◌∷◌, ◌++◌, length, Result, Ok, Err, refl, sym, ap, subst, arith}
use Rattle.std.specs.Prelude.{◌==◌}
use Rattle.std.specs.Int.{w64}
use Rattle.std.specs.Str.{bytes_eq}
use Rattle.std.proofs.lemmas.List.{length-append}
use Rattle.std.proofs.lemmas.Bool.{eq-eqb, ne_eqb}
use Rattle.outcome.specs.Outcome.{◌>>=◌, told_as}
use Rattle.log_chain.specs.declared.fault.FieldFault.{FieldFault}
use Rattle.log_chain.specs.declared.fault.FieldFault.TheVariants as field
use Rattle.log_chain.specs.Fields.{bytes_at, number_at, take_at}
use Rattle.item_forms.specs.declared.limits.TheConstants.{LONGEST_ITEM}
use Rattle.containers.specs.declared.fault.Cause.{Cause}
use Rattle.containers.specs.declared.fault.Cause.TheVariants as cause
use Rattle.containers.specs.declared.fault.ImportFault.{ImportFault}
use Rattle.containers.specs.Container.{Refusal, as_fault, container_of, import_of, items_at, of_field, of_item, refused_unless}
use Rattle.containers.specs.Refusals.{IsBehindFirst, fault_at}
use Rattle.containers.specs.Rest.{ended, rest_of}

abbrev pub Reading : Type 0 → Type 0
Reading A = List ℕ → List ℕ → Result A Cause

abbrev told : {A : Type 0} → Result (List A) Refusal → Result (List A) ImportFault
told r = told_as as_fault r

-- ---- the header

abbrev pub count_behind : {A : Type 0} → Reading A → Result (ℕ × List ℕ) FieldFault → Result (List A) Refusal
count_behind reads r = told_as (of_field 0) r >>= λ count. items_at reads count.0 [] [] count.1 >>= ended

abbrev pub magic_behind : {A : Type 0} → List ℕ → Reading A → Result (List ℕ × List ℕ) FieldFault → Result (List A) Refusal
magic_behind magic reads r = told_as (of_field 0) r >>= λ front. refused_unless (of_item 0 cause.BadMagic) (bytes_eq front.0 magic) >>= λ _. count_behind reads (number_at w64 front.1)

pub header_opened : {A : Type 0} (magic bytes : List ℕ) (reads : Reading A) → container_of magic reads bytes ≡ magic_behind magic reads (take_at 8 bytes)
unfolding container_of
header_opened magic bytes reads = refl

known : {A : Type 0} (magic bytes front rest : List ℕ) (reads : Reading A) → take_at 8 bytes ≡ Ok (front, rest) → bytes_eq front magic ≡ true → import_of magic reads bytes ≡ told (count_behind reads (number_at w64 rest))
known magic bytes front rest reads taken same =
    ap told (header_opened magic bytes reads ∙ ap (magic_behind magic reads) taken)
    ∙ ap (λ (b : Bool). told (refused_unless (of_item 0 cause.BadMagic) b >>= λ _. count_behind reads (number_at w64 rest))) same

pub counted : {A : Type 0} (magic bytes front rest behind : List ℕ) (count : ℕ) (reads : Reading A) → take_at 8 bytes ≡ Ok (front, rest) → bytes_eq front magic ≡ true → number_at w64 rest ≡ Ok (count, behind) → import_of magic reads bytes ≡ rest_of reads count [] [] behind
counted {A} magic bytes front rest behind count reads taken same number = known magic bytes front rest reads taken same ∙ ap (λ (r : Result (ℕ × List ℕ) FieldFault). told (count_behind {A = A} reads r)) number

pub no_count : {A : Type 0} (magic bytes front rest : List ℕ) (e : FieldFault) (reads : Reading A) → take_at 8 bytes ≡ Ok (front, rest) → bytes_eq front magic ≡ true → number_at w64 rest ≡ Err e → import_of magic reads bytes ≡ Err (as_fault (of_field 0 e))
no_count {A} magic bytes front rest e reads taken same number = known magic bytes front rest reads taken same ∙ ap (λ (r : Result (ℕ × List ℕ) FieldFault). told (count_behind {A = A} reads r)) number

pub no_magic : {A : Type 0} (magic bytes : List ℕ) (e : FieldFault) (reads : Reading A) → take_at 8 bytes ≡ Err e → import_of magic reads bytes ≡ Err (as_fault (of_field 0 e))
no_magic magic bytes e reads taken = ap told (header_opened magic bytes reads ∙ ap (magic_behind magic reads) taken)

pub other_magic : {A : Type 0} (magic bytes front rest : List ℕ) (reads : Reading A) → take_at 8 bytes ≡ Ok (front, rest) → bytes_eq front magic ≡ false → import_of magic reads bytes ≡ Err (fault_at 0 cause.BadMagic)
other_magic magic bytes front rest reads taken same =
    ap told (header_opened magic bytes reads ∙ ap (magic_behind magic reads) taken)
    ∙ ap (λ (b : Bool). told (refused_unless (of_item 0 cause.BadMagic) b >>= λ _. count_behind reads (number_at w64 rest))) same

-- ---- the next text

abbrev pub Read : Type 0
Read = Result (List ℕ × List ℕ) FieldFault

abbrev pub from_text : {A : Type 0} → Reading A → ℕ → List ℕ → List A → Read → Result (List A × List ℕ) Refusal
from_text reads n last before r = told_as (of_field (length before)) r >>= λ text. told_as (of_item (length before)) (reads last text.0) >>= λ item. items_at reads n text.0 (before ++ item ∷ []) text.1

pub opened : {A : Type 0} (reads : Reading A) (n : ℕ) (last : List ℕ) (before : List A) (bytes : List ℕ) → items_at reads (suc n) last before bytes ≡ from_text reads n last before (bytes_at LONGEST_ITEM bytes)
unfolding items_at
opened reads n last before bytes = refl

no_text : {A : Type 0} (reads : Reading A) (n : ℕ) (last : List ℕ) (before : List A) (r : Read) (f : ImportFault)
    → told_as (λ x. as_fault (of_field (length before) x)) r ≡ Err f → told_as as_fault (from_text reads n last before r >>= ended) ≡ Err f
no_text reads n last before (Ok x) f e = absurd cc
no_text reads n last before (Err x) f e = cc e

pub text_refused : {A : Type 0} (reads : Reading A) (n k : ℕ) (last : List ℕ) (before : List A) (bytes : List ℕ) (f : ImportFault)
    → k ≡ length before → told_as (λ x. as_fault (of_field k x)) (bytes_at LONGEST_ITEM bytes) ≡ Err f → rest_of reads (suc n) last before bytes ≡ Err f
text_refused {A} reads n k last before bytes f count e =
    ap (λ (r : Result (List A × List ℕ) Refusal). told_as as_fault (r >>= ended)) (opened reads n last before bytes)
    ∙ no_text reads n last before (bytes_at LONGEST_ITEM bytes) f (subst (λ (m : ℕ). told_as (λ x. as_fault (of_field m x)) (bytes_at LONGEST_ITEM bytes) ≡ Err f) count e)

-- an item's text, whatever it is read as
text_read : {A : Type 0} (reads : Reading A) (n : ℕ) (last text : List ℕ) (before : List A) (bytes rest : List ℕ) (r : Result A Cause) → bytes_at LONGEST_ITEM bytes ≡ Ok (text, rest) → reads last text ≡ r
    → rest_of reads (suc n) last before bytes ≡ told_as as_fault ((told_as (of_item (length before)) r >>= λ item. items_at reads n text (before ++ item ∷ []) rest) >>= ended)
text_read {A} reads n last text before bytes rest r stands read =
    ap (λ (x : Result (List A × List ℕ) Refusal). told_as as_fault (x >>= ended)) (opened reads n last before bytes)
    ∙ ap (λ (x : Read). told_as as_fault (from_text reads n last before x >>= ended)) stands
    ∙ ap (λ (x : Result A Cause). told_as as_fault ((told_as (of_item (length before)) x >>= λ item. items_at reads n text (before ++ item ∷ []) rest) >>= ended)) read

pub item_read : {A : Type 0} (reads : Reading A) (n : ℕ) (last text : List ℕ) (before : List A) (bytes rest : List ℕ) (x : A) → bytes_at LONGEST_ITEM bytes ≡ Ok (text, rest) → reads last text ≡ Ok x
    → rest_of reads (suc n) last before bytes ≡ rest_of reads n text (before ++ x ∷ []) rest
item_read reads n last text before bytes rest x stands read = text_read reads n last text before bytes rest (Ok x) stands read

pub item_refused : {A : Type 0} (reads : Reading A) (n k : ℕ) (last text : List ℕ) (before : List A) (bytes rest : List ℕ) (c : Cause) → bytes_at LONGEST_ITEM bytes ≡ Ok (text, rest) → k ≡ length before → reads last text ≡ Err c
    → rest_of reads (suc n) last before bytes ≡ Err (fault_at k c)
item_refused reads n k last text before bytes rest c stands count read =
    text_read reads n last text before bytes rest (Err c) stands read ∙ ap (λ (m : ℕ). Err (fault_at m c)) (sym count)

-- ---- the fault is at no item before those that were read

abbrev IsFrom : {A : Type 0} → Reading A → ℕ → Type 0
IsFrom {A} reads n = (last : List ℕ) (before : List A) (bytes : List ℕ) (f : ImportFault) → rest_of reads n last before bytes ≡ Err f → length before ≤ f.item

told_at : (n : ℕ) (c : Cause) (f : ImportFault) → fault_at n c ≡ f → n ≤ f.item
told_at n c f same = let at : n ≡ f.item = ap (λ (x : ImportFault). x.item) same in omega (arith, at)

from_end : {A : Type 0} (before : List A) (bytes : List ℕ) (none : Bool) (f : ImportFault) → told_as as_fault (refused_unless (of_item (length before) cause.Trailing) none >>= λ _. Ok before) ≡ Err f → length before ≤ f.item
from_end before bytes true f e = absurd cc
from_end before bytes false f e = told_at (length before) cause.Trailing f (cc e)

from_item : {A : Type 0} (reads : Reading A) (n : ℕ) → IsFrom reads n → (text rest : List ℕ) (before : List A) (reading : Result A Cause) (f : ImportFault)
    → told_as as_fault ((told_as (of_item (length before)) reading >>= λ item. items_at reads n text (before ++ item ∷ []) rest) >>= ended) ≡ Err f → length before ≤ f.item
from_item reads n more text rest before (Ok item) f e =
    let later = more text (before ++ item ∷ []) rest f e in
    let count : length (before ++ item ∷ []) ≡ length before + 1 = length-append before (item ∷ []) in
    omega (arith, later, count)
from_item reads n more text rest before (Err c) f e = told_at (length before) c f (cc e)

from_read : {A : Type 0} (reads : Reading A) (n : ℕ) → IsFrom reads n → (last : List ℕ) (before : List A) (r : Read) (f : ImportFault)
    → told_as as_fault (from_text reads n last before r >>= ended) ≡ Err f → length before ≤ f.item
from_read reads n more last before (Ok text) f e = from_item reads n more text.0 text.1 before (reads last text.0) f e
from_read reads n more last before (Err field.Truncated) f e = told_at (length before) cause.Truncated f (cc e)
from_read reads n more last before (Err field.TooLong) f e = told_at (length before) cause.TooLong f (cc e)

pub is_from : {A : Type 0} (reads : Reading A) (n : ℕ) → IsFrom reads n
unfolding items_at
is_from reads zero last before bytes f e = from_end before bytes (length bytes == 0) f e
is_from reads (suc n) last before bytes f e = from_read reads n (is_from reads n) last before (bytes_at LONGEST_ITEM bytes) f e

-- behind an item that was read, memory may run out
pub behind_first : {A : Type 0} (reads : Reading A) (n : ℕ) (last : List ℕ) (before : List A) (bytes : List ℕ) → 0 < length before → IsBehindFirst (rest_of reads n last before bytes)
behind_first reads n last before bytes some f e = let least = is_from reads n last before bytes f e in omega (arith, least, some)

-- ---- the end

end_of : {A : Type 0} → List A → Bool → Result (List A) ImportFault
end_of before none = told_as as_fault (refused_unless (of_item (length before) cause.Trailing) none >>= λ _. Ok before)

pub at_end : {A : Type 0} (reads : Reading A) (last : List ℕ) (before : List A) (bytes : List ℕ) → length bytes ≡ 0 → rest_of reads 0 last before bytes ≡ Ok before
unfolding items_at end_of
at_end reads last before bytes none = ap (end_of before) (eq-eqb (length bytes) 0 none)

pub trailing : {A : Type 0} (reads : Reading A) (last : List ℕ) (before : List A) (bytes : List ℕ) (n : ℕ) → 0 < length bytes → length before ≡ n → rest_of reads 0 last before bytes ≡ Err (fault_at n cause.Trailing)
unfolding items_at end_of
trailing reads last before bytes n some count = ap (end_of before) (ne_eqb (length bytes) 0 (λ e. absurd (omega (arith, some, e)))) ∙ ap (λ (m : ℕ). Err (fault_at m cause.Trailing)) count
