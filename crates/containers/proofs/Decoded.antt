-- Items that are decoded, and items that are checked.
use Rattle.std.proofs.Common.{◌≡◌, ◌∙◌, ℕ, zero, suc, Bool, true, false, List, [], ◌∷◌, ◌++◌, length, Option, Some, None, Result, Ok, Err, refl, sym, ap, subst, arith}
use Rattle.std.specs.Prelude.{◌==◌}
use Rattle.std.specs.List.{All}
use Rattle.std.specs.Int.{w64}
use Rattle.std.specs.Str.{bytes_eq}
use Rattle.std.proofs.lemmas.List.Elements.{All-pop}
use Rattle.outcome.specs.Outcome.{◌>>=◌, told_as}
use Rattle.outcome.proofs.Steps.{Ok-inj}
use Rattle.log_chain.specs.History.{unless}
use Rattle.log_chain.specs.declared.fault.FieldFault.{FieldFault}
use Rattle.log_chain.specs.Fields.{bytes_at, number_at, take_at}
use Rattle.authenticators.specs.Directory.{Listing}
use Rattle.item_forms.specs.declared.fault.DecodeFault.{DecodeFault}
use Rattle.item_forms.specs.declared.forms.Fields.{Fields}
use Rattle.item_forms.specs.declared.limits.TheConstants.{LONGEST_ITEM}
use Rattle.item_forms.specs.Reading.{item_of}
use Rattle.evidence_item.specs.declared.fault.ItemFault.{ItemFault}
use Rattle.evidence_item.specs.Validity.{fault_of}
use Rattle.containers.specs.declared.fault.Cause.{Cause}
use Rattle.containers.specs.declared.fault.Cause.TheVariants as cause
use Rattle.containers.specs.declared.fault.ImportFault.{ImportFault}
use Rattle.containers.specs.CheckedItems.{checked_of, is_before}
use Rattle.containers.specs.Container.{Refusal, as_fault, import_of, items_at, of_item, refused_unless}
use Rattle.containers.specs.DecodedItems.{decoded_of}
use Rattle.containers.specs.Refusals.{IsBehindFirst, of_checking, of_reading}
use Rattle.containers.specs.Rest.{ItemReader, ended, rest_of}
use Rattle.containers.proofs.CheckedLists.{above_none}
use Rattle.containers.proofs.Rest.{Read, behind_first, count_behind, from_text, header_opened, item_read, magic_behind}

-- a text that is read, in its place
pub item_decoded : (last text : List ℕ) (x : Fields) → item_of text ≡ Ok x → is_before last text ≡ true → decoded_of last text ≡ Ok x
unfolding decoded_of
item_decoded last text x read before =
    ap (λ (r : Result Fields DecodeFault). told_as of_reading r >>= λ item. refused_unless cause.NotAscending (is_before last text) >>= λ _. Ok item) read
    ∙ ap (λ (b : Bool). refused_unless cause.NotAscending b >>= λ _. Ok x) before

-- what a text is read as, where it is in its place
passes : (b : Bool) (x y : Fields) → ◌≡◌ {A = Result Fields Cause} (refused_unless cause.NotAscending b >>= λ _. Ok x) (Ok y) → (x ≡ y) × (b ≡ true)
passes true x y e = (Ok-inj {E = Cause} x y e, refl)
passes false x y e = absurd cc

decoded_from : (b : Bool) (r : Result Fields DecodeFault) (y : Fields) → (told_as of_reading r >>= λ item. refused_unless cause.NotAscending b >>= λ _. Ok item) ≡ Ok y → (r ≡ Ok y) × (b ≡ true)
decoded_from b (Ok x) y e = let p = passes b x y e in (ap (λ (z : Fields). Ok z) p.0, p.1)
decoded_from b (Err f) y e = absurd cc

pub decoded_is : (last text : List ℕ) (item : Fields) → decoded_of last text ≡ Ok item → (item_of text ≡ Ok item) × (is_before last text ≡ true)
unfolding decoded_of
decoded_is last text item e = decoded_from (is_before last text) (item_of text) item e

-- where the first item is read, no fault stands before the next one
pub first_behind : (n : ℕ) (text bytes rest : List ℕ) (x : Fields) → bytes_at LONGEST_ITEM bytes ≡ Ok (text, rest) → item_of text ≡ Ok x → IsBehindFirst (rest_of decoded_of (suc n) [] [] bytes)
first_behind n text bytes rest x stands read =
    subst (λ (r : Result (List Fields) ImportFault). IsBehindFirst r) (sym (item_read decoded_of n [] text [] bytes rest x stands (item_decoded [] text x read (above_none text x read))))
    (behind_first decoded_of n text (x ∷ []) rest (omega arith))

-- ---- one item by two readings

abbrev checked_behind : Listing → Bool → Result Fields DecodeFault → Result Fields Cause
checked_behind ds b r = told_as of_reading r >>= λ item. refused_unless cause.NotAscending b >>= λ _. told_as of_checking (unless (fault_of ds item) item)

abbrev decoded_behind : Bool → Result Fields DecodeFault → Result Fields Cause
decoded_behind b r = told_as of_reading r >>= λ item. refused_unless cause.NotAscending b >>= λ _. Ok item

same_valid : (o : Option ItemFault) (x y : Fields) → told_as of_checking (unless o x) ≡ Ok y → ◌≡◌ {A = Result Fields Cause} (Ok x) (Ok y)
same_valid None x y e = e
same_valid (Some f) x y e = absurd cc

decodes : (ds : Listing) (b : Bool) (r : Result Fields DecodeFault) (y : Fields) → checked_behind ds b r ≡ Ok y → decoded_behind b r ≡ Ok y
decodes ds true (Ok x) y e = same_valid (fault_of ds x) x y e
decodes ds false (Ok x) y e = absurd cc
decodes ds b (Err f) y e = absurd cc

checks : (ds : Listing) (b : Bool) (r : Result Fields DecodeFault) (y : Fields) → fault_of ds y ≡ None → decoded_behind b r ≡ Ok y → checked_behind ds b r ≡ Ok y
checks ds true (Ok x) y valid e =
    let same : x ≡ y = Ok-inj {E = Cause} x y e in
    ap (λ (z : Fields). told_as of_checking (unless (fault_of ds z) z)) same ∙ ap (λ (o : Option ItemFault). told_as of_checking (unless o y)) valid
checks ds false (Ok x) y valid e = absurd cc
checks ds b (Err f) y valid e = absurd cc

-- What the one reads and what passes, the other reads.
abbrev Yields : (Fields → Type 0) → ItemReader → ItemReader → Type 0
Yields Passes one other = (last text : List ℕ) (x : Fields) → Passes x → one last text ≡ Ok x → other last text ≡ Ok x

pub is_decoded : (ds : Listing) → Yields (λ x. Unit {0}) (checked_of ds) decoded_of
unfolding checked_of decoded_of
is_decoded ds last text x passes e = decodes ds (is_before last text) (item_of text) x e

pub is_checked : (ds : Listing) → Yields (λ x. fault_of ds x ≡ None) decoded_of (checked_of ds)
unfolding checked_of decoded_of
is_checked ds last text x passes e = checks ds (is_before last text) (item_of text) x passes e

-- ---- all of them

module _ (Passes : Fields → Type 0) (one other : ItemReader) (yields : Yields Passes one other) where
  -- those that were read before are among all
  abbrev Keeps : ℕ → Type 0
  Keeps n = (last : List ℕ) (before : List Fields) (bytes : List ℕ) (out : List Fields × List ℕ) → items_at one n last before bytes ≡ Ok out → All Passes out.0 → All Passes before

  keeps_item : (n : ℕ) → Keeps n → (text rest : List ℕ) (before : List Fields) (r : Result Fields Cause) (out : List Fields × List ℕ) → (told_as (of_item (length before)) r >>= λ item. items_at one n text (before ++ item ∷ []) rest) ≡ Ok out → All Passes out.0 → All Passes before
  keeps_item n more text rest before (Ok x) out e all = (All-pop Passes (before ++ x ∷ []) before (Some x) refl (more text (before ++ x ∷ []) rest out e all)).0
  keeps_item n more text rest before (Err c) out e all = absurd cc

  keeps_text : (n : ℕ) → Keeps n → (last : List ℕ) (before : List Fields) (r : Read) (out : List Fields × List ℕ) → from_text one n last before r ≡ Ok out → All Passes out.0 → All Passes before
  keeps_text n more last before (Ok text) out e all = keeps_item n more text.0 text.1 before (one last text.0) out e all
  keeps_text n more last before (Err f) out e all = absurd cc

  keeps : (n : ℕ) → Keeps n
  unfolding items_at
  keeps zero last before bytes out e all = subst (All Passes) (sym (ap (λ (o : List Fields × List ℕ). o.0) (Ok-inj {E = Refusal} (before, bytes) out e))) all
  keeps (suc n) last before bytes out e all = keeps_text n (keeps n) last before (bytes_at LONGEST_ITEM bytes) out e all

  abbrev Alike : ℕ → Type 0
  Alike n = (last : List ℕ) (before : List Fields) (bytes : List ℕ) (out : List Fields × List ℕ) → items_at one n last before bytes ≡ Ok out → All Passes out.0 → items_at other n last before bytes ≡ Ok out

  alike_item : (n : ℕ) → Alike n → (last text rest : List ℕ) (before : List Fields) (r : Result Fields Cause) (out : List Fields × List ℕ) → one last text ≡ r → (told_as (of_item (length before)) r >>= λ item. items_at one n text (before ++ item ∷ []) rest) ≡ Ok out → All Passes out.0
      → (told_as (of_item (length before)) (other last text) >>= λ item. items_at other n text (before ++ item ∷ []) rest) ≡ Ok out
  alike_item n more last text rest before (Ok x) out read e all =
      let passes : Passes x = (All-pop Passes (before ++ x ∷ []) before (Some x) refl (keeps n text (before ++ x ∷ []) rest out e all)).1 in
      ap (λ (r : Result Fields Cause). told_as (of_item (length before)) r >>= λ item. items_at other n text (before ++ item ∷ []) rest) (yields last text x passes read)
      ∙ more text (before ++ x ∷ []) rest out e all
  alike_item n more last text rest before (Err c) out read e all = absurd cc

  alike_text : (n : ℕ) → Alike n → (last : List ℕ) (before : List Fields) (r : Read) (out : List Fields × List ℕ) → from_text one n last before r ≡ Ok out → All Passes out.0 → from_text other n last before r ≡ Ok out
  alike_text n more last before (Ok text) out e all = alike_item n more last text.0 text.1 before (one last text.0) out refl e all
  alike_text n more last before (Err f) out e all = absurd cc

  alike : (n : ℕ) → Alike n
  unfolding items_at
  alike zero last before bytes out e all = e
  alike (suc n) last before bytes out e all = alike_text n (alike n) last before (bytes_at LONGEST_ITEM bytes) out e all

  -- ---- with the end and the header

  ends_so : (o : List Fields × List ℕ) (b : Bool) (items : List Fields) → told_as as_fault (refused_unless (of_item (length o.0) cause.Trailing) b >>= λ _. Ok o.0) ≡ Ok items → items ≡ o.0
  ends_so o true items e = sym (Ok-inj {E = ImportFault} o.0 items e)
  ends_so o false items e = absurd cc

  alike_end : (n : ℕ) (bytes : List ℕ) (r : Result (List Fields × List ℕ) Refusal) (items : List Fields) → items_at one n [] [] bytes ≡ r → told_as as_fault (r >>= ended) ≡ Ok items → All Passes items → told_as as_fault (items_at other n [] [] bytes >>= ended) ≡ Ok items
  alike_end n bytes (Ok out) items read e all =
      let same : items ≡ out.0 = ends_so out (length out.1 == 0) items e in
      ap (λ (r : Result (List Fields × List ℕ) Refusal). told_as as_fault (r >>= ended)) (alike n [] [] bytes out read (subst (All Passes) same all)) ∙ e
  alike_end n bytes (Err f) items read e all = absurd cc

  alike_count : (r : Result (ℕ × List ℕ) FieldFault) (items : List Fields) → told_as as_fault (count_behind one r) ≡ Ok items → All Passes items → told_as as_fault (count_behind other r) ≡ Ok items
  alike_count (Ok count) items e all = alike_end count.0 count.1 (items_at one count.0 [] [] count.1) items refl e all
  alike_count (Err f) items e all = absurd cc

  alike_known : (b : Bool) (r : Result (ℕ × List ℕ) FieldFault) (items : List Fields) → told_as as_fault (refused_unless (of_item 0 cause.BadMagic) b >>= λ _. count_behind one r) ≡ Ok items → All Passes items
      → told_as as_fault (refused_unless (of_item 0 cause.BadMagic) b >>= λ _. count_behind other r) ≡ Ok items
  alike_known true r items e all = alike_count r items e all
  alike_known false r items e all = absurd cc

  alike_magic : (magic : List ℕ) (r : Read) (items : List Fields) → told_as as_fault (magic_behind magic one r) ≡ Ok items → All Passes items → told_as as_fault (magic_behind magic other r) ≡ Ok items
  alike_magic magic (Ok front) items e all = alike_known (bytes_eq front.0 magic) (number_at w64 front.1) items e all
  alike_magic magic (Err f) items e all = absurd cc

  pub import_alike : (magic bytes : List ℕ) (items : List Fields) → import_of magic one bytes ≡ Ok items → All Passes items → import_of magic other bytes ≡ Ok items
  import_alike magic bytes items e all =
      ap (λ (r : Result (List Fields) Refusal). told_as as_fault r) (header_opened magic bytes other)
      ∙ alike_magic magic (take_at 8 bytes) items (sym (ap (λ (r : Result (List Fields) Refusal). told_as as_fault r) (header_opened magic bytes one)) ∙ e) all
