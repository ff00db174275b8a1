-- Parts of a form that are gone over.
use Rattle.std.proofs.Common.{◌≡◌, List, ℕ, Some, Result, Ok, Err, refl}
use Rattle.outcome.specs.Bytes.{IsBytes}
use Rattle.authenticators.specs.declared.authenticator.Authenticator.{Authenticator}
use Rattle.item_forms.specs.declared.fault.DecodeFault.{DecodeFault}
use Rattle.item_forms.specs.declared.forms.Fields.{Fields}
use Rattle.item_forms.specs.declared.forms.Fields.TheVariants as form
use Rattle.item_forms.specs.declared.forms.Segment.{Segment}
use Rattle.item_forms.specs.FramedItems.{FramedItemsReadBack, HasTag, framed_at}
use Rattle.item_forms.specs.Skipping.{Skips}
use Rattle.proofs.specs.ProofTexts.{as_auth, as_segment, auth_part_at, segment_part_at}

is_auth : (x : Fields) → HasTag (Some 1) x → (a : Authenticator) × (as_auth x ≡ Ok a)
is_auth (form.Auth a) h = (a, refl)
is_auth (form.Segment s) h = absurd cc
is_auth (form.Audit c) h = absurd cc
is_auth (form.Send m) h = absurd cc
is_auth (form.Ack a) h = absurd cc

is_segment : (x : Fields) → HasTag (Some 2) x → (s : Segment) × (as_segment x ≡ Ok s)
is_segment (form.Auth a) h = absurd cc
is_segment (form.Segment s) h = (s, refl)
is_segment (form.Audit c) h = absurd cc
is_segment (form.Send m) h = absurd cc
is_segment (form.Ack a) h = absurd cc

pub auth_skipped : FramedItemsReadBack → (r : Result (Unit {0}) DecodeFault) (bytes left : List ℕ) → IsBytes bytes → Skips r left (framed_at (Some 1) bytes) → Skips r left (auth_part_at bytes)
unfolding auth_part_at
auth_skipped law (Ok done) bytes left fits t =
    let a = is_auth t.0 (law.found (Some 1) bytes t.0 left fits t.1).1 in
    (a.0, rw (t.1, a.1) refl)
auth_skipped law (Err e) bytes left fits is = rw is refl

pub segment_skipped : FramedItemsReadBack → (r : Result (Unit {0}) DecodeFault) (bytes left : List ℕ) → IsBytes bytes → Skips r left (framed_at (Some 2) bytes) → Skips r left (segment_part_at bytes)
unfolding segment_part_at
segment_skipped law (Ok done) bytes left fits t =
    let s = is_segment t.0 (law.found (Some 2) bytes t.0 left fits t.1).1 in
    (s.0, rw (t.1, s.1) refl)
segment_skipped law (Err e) bytes left fits is = rw is refl
