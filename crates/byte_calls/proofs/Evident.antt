-- An acknowledgement that is evidence is the item that was read.
use Rattle.std.proofs.Common.{◌≡◌, ℕ, List, Result, Ok, Err, IfOk, ap, ◌∙◌}
use Rattle.std.specs.Prelude.{is_some}
use Rattle.outcome.specs.Outcome.{Gives}
use Rattle.outcome.proofs.Steps.{Ok-inj, guard_false}
use Rattle.authenticators.specs.Directory.{Listing}
use Rattle.item_forms.specs.declared.forms.AckItem.{AckItem}
use Rattle.item_forms.specs.declared.forms.Fields.{Fields}
use Rattle.item_forms.specs.declared.forms.Fields.TheVariants as form
use Rattle.item_forms.specs.Spelling.{spelling}
use Rattle.evidence_item.specs.Validity.{fault_of}
use Rattle.byte_calls.specs.declared.refusal.Refusal.{Refusal}
use Rattle.byte_calls.specs.declared.refusal.Refusal.TheVariants as refusal
use Rattle.byte_calls.specs.Nodes.{evident_in}

evident_is : (ds : Listing) (x : Fields) (a : AckItem) → evident_in ds x ≡ Ok a → x ≡ form.Ack a
unfolding evident_in
evident_is ds (form.Auth b) a e = absurd cc
evident_is ds (form.Segment b) a e = absurd cc
evident_is ds (form.Audit b) a e = absurd cc
evident_is ds (form.Send b) a e = absurd cc
evident_is ds (form.Ack b) a e =
    let done = guard_false (is_some (fault_of ds (form.Ack b))) refusal.BadAck (Ok b) a e in
    ap (λ (x : AckItem). form.Ack x) (Ok-inj {E = Refusal} b a done.1)

pub spelled_so : (r : Result AckItem Refusal) (ds : Listing) (x : Fields) (text : List ℕ)
    → text ≡ spelling x → Gives refusal.Memory (λ (a : AckItem). a) r (evident_in ds x) → IfOk r (λ a. text ≡ spelling (form.Ack a))
spelled_so (Ok a) ds x text is given = is ∙ ap spelling (evident_is ds x a given)
spelled_so (Err e) ds x text is given = tt
