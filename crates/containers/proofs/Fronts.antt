-- What a text shows whatever its items are, and what the end of a whole text shows.
use Rattle.std.proofs.Common.{◌≡◌, ℕ, zero, suc, ◌≤◌, Bool, true, false, List, [], ◌∷◌, ◌++◌, length, take, drop, Option, Some, None, Result, Ok, Err, refl, sym, ap, ◌∙◌, ◌⊎◌, inl, inr}
use Rattle.std.specs.Prelude.{IfOk}
use Rattle.std.specs.Int.{w64, from_be_bytes}
use Rattle.std.specs.Str.{bytes_eq}
use Rattle.std.proofs.lemmas.Bool.{cases_lt}
use Rattle.item_forms.specs.declared.forms.Fields.{Fields}
use Rattle.item_forms.specs.declared.limits.TheConstants.{LONGEST_ITEM}
use Rattle.containers.specs.declared.fault.Cause.{Cause}
use Rattle.containers.specs.declared.fault.Cause.TheVariants as cause
use Rattle.containers.specs.declared.fault.ImportFault.{ImportFault}
use Rattle.outcome.specs.Outcome.{told_as}
use Rattle.containers.specs.Container.{as_fault, fed_with, import_of}
use Rattle.containers.specs.Refusals.{IsOfItems, Refuses, fault_at}
use Rattle.containers.specs.Stages.{State, begun, len_of, items_on, state_of, go_on}
use Rattle.containers.specs.within.Going.{at_end}
use Rattle.containers.specs.Rest.{ItemReader}
use Rattle.containers.specs.within.Seen.{fed_of}
use Rattle.containers.proofs.Ending.{container_ends}
use Rattle.containers.proofs.Fed.{kept}
use Rattle.containers.proofs.Joining.{then_more, state_joined}
use Rattle.containers.proofs.Staying.{kept_is}
use Rattle.containers.proofs.Steps.{short, too_long, cut, whole, none_held, over, in_magic, bad_magic, in_count, counted}

abbrev stated : State Fields → Result (State Fields) ImportFault
stated s = Ok s

abbrev failed : ImportFault → Result (State Fields) ImportFault
failed f = Err f

-- an item's reading that tells this fault of each
abbrev refusing : Cause → ItemReader
refusing c = λ last text. Err c

-- Where the text leads it leads whatever the items are; or it has an item.
abbrev LeadsSo : (ItemReader → Result (State Fields) ImportFault) → State Fields → Type 0
LeadsSo led s = ((r : ItemReader) → led r ≡ Ok s) ⊎ ((c : Cause) → led (refusing c) ≡ Err (fault_at 0 c))

items_lead : (n : ℕ) (bytes : List ℕ) (reads : ItemReader) (s : State Fields) → items_on reads n [] [] bytes ≡ Ok s → LeadsSo (λ r. items_on r n [] [] bytes) s
items_lead zero [] reads s e = inl (λ r. none_held r zero [] [] ∙ sym (none_held reads zero [] []) ∙ e)
items_lead zero (b ∷ bytes) reads s e = let wrong = sym (over reads [] [] b bytes) ∙ e in absurd cc
items_lead (suc n) bytes reads s e =
    elim (cases_lt (length bytes) 4) [
      | inl lt ↦ inl (λ r. short r n [] [] bytes lt ∙ sym (short reads n [] [] bytes lt) ∙ e)
      | inr le ↦
          elim (cases_lt LONGEST_ITEM (len_of bytes)) [
            | inl past ↦ let wrong = sym (too_long reads n [] [] bytes le past) ∙ e in absurd cc
            | inr within ↦
                elim (cases_lt (length (drop 4 bytes)) (len_of bytes)) [
                  | inl lt ↦ inl (λ r. cut r n [] [] bytes le within lt ∙ sym (cut reads n [] [] bytes le within lt) ∙ e)
                  | inr long ↦ inr (λ c. whole (refusing c) n [] [] bytes le within long)
                ]
          ]
    ]

header_leads : (magic bytes : List ℕ) (reads : ItemReader) (s : State Fields) (m : Bool) → 8 ≤ length bytes → bytes_eq (take 8 bytes) magic ≡ m → state_of magic reads bytes ≡ Ok s → LeadsSo (λ r. state_of magic r bytes) s
header_leads magic bytes reads s false le m e = let wrong = sym (bad_magic magic reads bytes le m) ∙ e in absurd cc
header_leads magic bytes reads s true le m e =
    elim (cases_lt (length (drop 8 bytes)) 8) [
      | inl lt ↦ inl (λ r. in_count magic r bytes le m lt ∙ sym (in_count magic reads bytes le m lt) ∙ e)
      | inr long ↦
          elim (items_lead (from_be_bytes w64 (take 8 (drop 8 bytes))) (drop 8 (drop 8 bytes)) reads s (sym (counted magic reads bytes le m long) ∙ e)) [
            | inl all ↦ inl (λ r. counted magic r bytes le m long ∙ all r)
            | inr one ↦ inr (λ c. counted magic (refusing c) bytes le m long ∙ one c)
          ]
    ]

text_leads : (magic bytes : List ℕ) (reads : ItemReader) (s : State Fields) → state_of magic reads bytes ≡ Ok s → LeadsSo (λ r. state_of magic r bytes) s
text_leads magic bytes reads s e =
    elim (cases_lt (length bytes) 8) [
      | inl lt ↦ inl (λ r. in_magic magic r bytes lt ∙ sym (in_magic magic reads bytes lt) ∙ e)
      | inr le ↦ header_leads magic bytes reads s (bytes_eq (take 8 bytes) magic) le refl e
    ]

-- ---- a piece more

fed_is : (magic : List ℕ) (r : ItemReader) (text piece : List ℕ) → fed_with magic r piece (Ok text) ≡ kept (text ++ piece) (then_more magic r piece (state_of magic r text))
fed_is magic r text piece = kept_is magic r (text ++ piece) ∙ ap (kept (text ++ piece)) (state_joined magic r text piece)

kept_fault : (text : List ℕ) (led : Result (State Fields) ImportFault) (f : ImportFault) → kept text led ≡ Err f → led ≡ Err f
kept_fault text (Ok s) f e = absurd cc
kept_fault text (Err g) f e = let same : g ≡ f = cc in ap failed same

cause_of : (k : ℕ) (c : Cause) (f : ImportFault) → failed (fault_at k c) ≡ failed f → c ≡ f.cause
cause_of k c f e = let same : fault_at k c ≡ f = cc in ap (λ (x : ImportFault). x.cause) same

-- No fault stands whatever the items are, where none does from where the text led.
pub fed_of_items : (magic : List ℕ) (reads : ItemReader) (text piece : List ℕ) (s : State Fields) → state_of magic reads text ≡ Ok s → IsOfItems (λ r. go_on magic r s piece) → IsOfItems (λ r. fed_with magic r piece (Ok text))
fed_of_items magic reads text piece s led h f all =
    elim (text_leads magic text reads s led) [
      | inl alike ↦ h f (λ r. sym (ap (then_more magic r piece) (alike r)) ∙ kept_fault (text ++ piece) (then_more magic r piece (state_of magic r text)) f (sym (fed_is magic r text piece) ∙ all r))
      | inr one ↦
          let told : (c : Cause) → c ≡ f.cause = λ c. cause_of 0 c f (sym (ap (then_more magic (refusing c) piece) (one c)) ∙ kept_fault (text ++ piece) (then_more magic (refusing c) piece (state_of magic (refusing c) text)) f (sym (fed_is magic (refusing c) text piece) ∙ all (refusing c))) in
          let wrong : cause.BadTag ≡ cause.Trailing = told cause.BadTag ∙ sym (told cause.Trailing) in
          absurd cc
    ]

pub fed_memory : (magic : List ℕ) (reads : ItemReader) (refused : Option ImportFault) (text piece : List ℕ) (s : State Fields) (c : Cause) → refused ≡ None → IfOk (fed_of refused text) (λ t. state_of magic reads t ≡ Ok s) → (c ≡ cause.Memory → IsOfItems (λ r. go_on magic r s piece))
    → IfOk (fed_of refused text) (λ t. c ≡ cause.Memory → IsOfItems (λ r. fed_with magic r piece (fed_of refused text)))
fed_memory magic reads (Some f) text piece s c none led h = tt
fed_memory magic reads None text piece s c none led h = λ memory. fed_of_items magic reads text piece s led (h memory)

-- ---- a whole text

-- what a text is read as is what its end makes of where it led
pub import_is : (magic : List ℕ) (reads : ItemReader) (bytes : List ℕ) (s : State Fields) → s ≡ begun [] → import_of magic reads bytes ≡ at_end (go_on magic reads s bytes)
import_is magic reads bytes s e = ap (told_as as_fault) (container_ends magic reads bytes) ∙ ap (λ (t : State Fields). at_end (go_on magic reads t bytes)) (sym e)

pub import_refused : (magic : List ℕ) (reads : ItemReader) (bytes : List ℕ) (s : State Fields) (f : ImportFault) → s ≡ begun [] → Refuses f (go_on magic reads s bytes) → Refuses f (import_of magic reads bytes)
import_refused magic reads bytes s f e (inl memory) = inl memory
import_refused magic reads bytes s f e (inr is) = inr (import_is magic reads bytes s e ∙ ap at_end is)
