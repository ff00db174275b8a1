-- Before a header is whole nothing takes memory.
use Rattle.std.proofs.Common.{◌≡◌, ◌≢◌, ℕ, ◌≤◌, ◌<◌, Bool, true, false, List, [], ◌++◌, length, take, Option, Some, None, Result, Ok, Err, refl, sym, ap, subst, ◌∙◌, ◌⊎◌, inl, inr, arith}
use Rattle.std.specs.Prelude.{IfOk}
use Rattle.std.specs.Str.{bytes_eq}
use Rattle.std.proofs.lemmas.Bool.{cases_lt}
use Rattle.std.proofs.lemmas.List.{length-append, length-drop}
use Rattle.outcome.proofs.Steps.{Ok-inj}
use Rattle.item_forms.specs.declared.forms.Fields.{Fields}
use Rattle.containers.specs.declared.fault.Cause.{Cause}
use Rattle.containers.specs.declared.fault.Cause.TheVariants as cause
use Rattle.containers.specs.declared.fault.ImportFault.{ImportFault}
use Rattle.containers.specs.Refusals.{IsBehindFront, IsOfItems, fault_at, of_checking}
use Rattle.containers.specs.Stages.{State, begun, go_on, state_of}
use Rattle.containers.specs.within.Going.{IsPastHeader, at_end}
use Rattle.containers.specs.Rest.{ItemReader}
use Rattle.containers.specs.within.Seen.{IsParted, fed_of, with_more}
use Rattle.containers.proofs.Steps.{in_magic, bad_magic, in_count}
use Rattle.evidence_item.specs.declared.fault.ItemFault.{ItemFault}
use Rattle.evidence_item.specs.declared.fault.ItemFault.TheVariants as checking

-- ---- one piece

not_of_checking : (e : ItemFault) → cause.Truncated ≢ of_checking e
not_of_checking checking.UnknownNode e = absurd cc
not_of_checking checking.SelfMessage e = absurd cc
not_of_checking checking.EmptySegment e = absurd cc
not_of_checking checking.BadStart e = absurd cc
not_of_checking checking.BadRange e = absurd cc
not_of_checking checking.BadSignature e = absurd cc
not_of_checking checking.Memory e = absurd cc

-- the end of a text whose header is cut off would tell so
pub past_header : (led : Result (State Fields) ImportFault) → IsBehindFront (at_end led) → IsPastHeader led
past_header led front held e =
    let told = front (fault_at 0 cause.Truncated) (ap at_end e) refl in
    not_of_checking told.0 told.1

-- bytes of a body are held behind the header alone
pub past_header_held : (led : Result (State Fields) ImportFault) (s : State Fields) (front old body : List ℕ) → led ≡ Ok (with_more s body) → IsParted s.left front (old ++ body) → 0 < length body → IsPastHeader led
past_header_held led s front old body same parted some held e =
    let states : with_more s body ≡ begun held = Ok-inj {E = ImportFault} (with_more s body) (begun held) (sym same ∙ e) in
    let left : s.left ≡ None = ap (λ (t : State Fields). t.left) states in
    let none : old ++ body ≡ [] = subst (λ (l : Option ℕ). IsParted l front (old ++ body)) left parted in
    absurd (omega (arith, length-append old body, ap length none, some))

-- ---- the text so far

-- The header is cut off, or a fault stands whatever the items are.
front_state : (magic bytes : List ℕ) → length bytes < 16 → ((r : ItemReader) → state_of magic r bytes ≡ Ok (begun bytes)) ⊎ ((r : ItemReader) → state_of magic r bytes ≡ Err (fault_at 0 cause.BadMagic))
front_state magic bytes few =
    elim (cases_lt (length bytes) 8) [
      | inl lt ↦ inl (λ r. in_magic magic r bytes lt)
      | inr le ↦ known (bytes_eq (take 8 bytes) magic) le refl
    ]
  where
    known : (m : Bool) → 8 ≤ length bytes → bytes_eq (take 8 bytes) magic ≡ m → ((r : ItemReader) → state_of magic r bytes ≡ Ok (begun bytes)) ⊎ ((r : ItemReader) → state_of magic r bytes ≡ Err (fault_at 0 cause.BadMagic))
    known true le m = inl (λ r. in_count magic r bytes le m (omega (arith, length-drop 8 bytes)))
    known false le m = inr (λ r. bad_magic magic r bytes le m)

at_header : (magic : List ℕ) (r : ItemReader) (text piece : List ℕ) (s : State Fields) → s ≡ begun text → go_on magic r s piece ≡ state_of magic r (text ++ piece)
at_header magic r text piece s e = ap (λ (t : State Fields). go_on magic r t piece) e

pub header_whole : (magic : List ℕ) (reads : ItemReader) (text piece : List ℕ) (s : State Fields) → state_of magic reads text ≡ Ok s → IsOfItems (λ r. go_on magic r s piece) → (s.left ≡ None → IsPastHeader (go_on magic reads s piece)) → 16 ≤ length (text ++ piece)
header_whole magic reads text piece s led of_items past =
    elim (cases_lt (length (text ++ piece)) 16) [
      | inr le ↦ le
      | inl lt ↦
          elim (front_state magic text (omega (arith, length-append text piece))) [
            | inr bad ↦ let wrong = sym (bad reads) ∙ led in absurd cc
            | inl front ↦
                let is : s ≡ begun text = Ok-inj {E = ImportFault} s (begun text) (sym led ∙ front reads) in
                elim (front_state magic (text ++ piece) lt) [
                  | inl more ↦ absurd (past (ap (λ (t : State Fields). t.left) is) (text ++ piece) (at_header magic reads text piece s is ∙ more reads))
                  | inr bad ↦ absurd (of_items (fault_at 0 cause.BadMagic) (λ r. at_header magic r text piece s is ∙ bad r))
                ]
          ]
    ]

pub fed_header : (magic : List ℕ) (reads : ItemReader) (refused : Option ImportFault) (text piece : List ℕ) (s : State Fields) (c : Cause) → refused ≡ None → IfOk (fed_of refused text) (λ t. state_of magic reads t ≡ Ok s)
    → (c ≡ cause.Memory → IsOfItems (λ r. go_on magic r s piece)) → (s.left ≡ None → c ≡ cause.Memory → IsPastHeader (go_on magic reads s piece)) → IfOk (fed_of refused text) (λ t. c ≡ cause.Memory → 16 ≤ length (t ++ piece))
fed_header magic reads (Some f) text piece s c none led h past = tt
fed_header magic reads None text piece s c none led h past = λ memory. header_whole magic reads text piece s led (h memory) (λ left. past left memory)
