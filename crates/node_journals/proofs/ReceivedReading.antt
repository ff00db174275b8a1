-- A message that was received, as it is read of a record: what stands behind its length is a send challenge.
use Rattle.std.proofs.Common.{◌≡◌, ℕ, ◌<◌, eqb, cond, false, Bool, List, [], ◌∷◌, length, Some, Result, Ok, Err, refl, sym, ap, subst, ◌∙◌, arith}
use Rattle.std.specs.Prelude.{suc, IfErr, IsOk}
use Rattle.std.proofs.lemmas.Bool.Decides.{nat_tests}
use Rattle.outcome.specs.Bytes.{IsBytes}
use Rattle.outcome.specs.Outcome.{◌>>=◌, told_as}
use Rattle.log_chain.specs.declared.fault.FieldFault.{FieldFault}
use Rattle.log_chain.specs.Fields.{Read, take_at}
use Rattle.messages.specs.declared.message.Message.{Message}
use Rattle.item_forms.specs.declared.fault.DecodeFault.{DecodeFault}
use Rattle.item_forms.specs.declared.forms.Fields.{Fields}
use Rattle.item_forms.specs.declared.forms.Fields.TheVariants as form
use Rattle.item_forms.specs.FramedItems.{FramedItemsReadBack, framed_at}
use Rattle.item_forms.specs.Spelling.{tag_of}
use Rattle.node_journals.specs.declared.fault.RecordFault.{RecordFault}
use Rattle.node_journals.specs.declared.fault.RecordFault.TheVariants.{Trailing}
use Rattle.node_journals.specs.declared.recorded.Recorded.{Recorded}
use Rattle.node_journals.specs.declared.recorded.Recorded.TheVariants.{Received}
use Rattle.node_journals.specs.Records.{ended, message_in, received_at}
use Rattle.node_journals.specs.Refusals.{of_field, of_item}

is_send : (x : Fields) → tag_of x ≡ 4 → (m : Message) × (x ≡ form.Send m)
is_send (form.Auth a) e = absurd (omega (arith, e))
is_send (form.Segment s) e = absurd (omega (arith, e))
is_send (form.Audit c) e = absurd (omega (arith, e))
is_send (form.Send m) e = (m, refl)
is_send (form.Ack a) e = absurd (omega (arith, e))

-- behind the entropy stands a send challenge, and behind it this
pub received_as : FramedItemsReadBack → (bytes entropy behind : List ℕ) (x : Fields) (left : List ℕ) → IsBytes behind → take_at 32 bytes ≡ Ok (entropy, behind) → framed_at (Some 4) behind ≡ Ok (x, left)
    → (m : Message) × (received_at bytes ≡ Ok (Received m entropy, left))
unfolding received_at
received_as items bytes entropy behind x left fits first second =
    let s = is_send x (items.found (Some 4) behind x left fits second).1 in (
      s.0,
      ap (λ (r : Read (List ℕ) FieldFault). told_as of_field r >>= λ entropy. told_as of_item (framed_at (Some 4) entropy.1) >>= λ item. message_in item.0 >>= λ message. Ok (Received message entropy.0, item.1)) first
          ∙ ap (λ (r : Read Fields DecodeFault). told_as of_item r >>= λ item. message_in item.0 >>= λ message. Ok (Received message entropy, item.1)) second
          ∙ ap (λ (y : Fields). message_in y >>= λ message. Ok (Received message entropy, left)) s.1,
    )

not_none : (n : ℕ) → eqb (suc n) 0 ≡ false
not_none n = grind (arith, nat_tests)

-- where bytes are left, that is told, and else the record is read
pub left_over : (r : Read Recorded RecordFault) (x : Recorded) (left : List ℕ) → r ≡ Ok (x, left) → 0 < length left → ended r ≡ Err Trailing
left_over r x [] e more = absurd (omega (arith, more))
left_over r x (byte ∷ left) e more = ap ended e ∙ ap (λ (b : Bool). cond b (Ok x) (Err Trailing)) (not_none (length left))

pub none_left : (r : Read Recorded RecordFault) (x : Recorded) (left : List ℕ) → r ≡ Ok (x, left) → length left ≡ 0 → IsOk (ended r)
none_left r x [] e none = subst (λ (s : Read Recorded RecordFault). IsOk (ended s)) (sym e) refl
none_left r x (byte ∷ left) e none = absurd (omega (arith, none))

pub told_anyway : {A E : Type 0} (r : Result A E) (P : E → Type 0) (Q : Type 0) → Q → IfErr r (λ e. P e → Q)
told_anyway (Ok x) P Q q = tt
told_anyway (Err e) P Q q = λ p. q
