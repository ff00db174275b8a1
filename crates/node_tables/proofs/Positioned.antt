-- The positions of an item, and the statements that stand there.
use Rattle.std.proofs.Common.{◌≡◌, ℕ, ◌+◌, ◌-◌, ◌<◌, Bool, true, false, List, length, Option, Some, None, refl, sym, ◌∙◌, arith}
use Rattle.std.specs.Prelude.{◌==◌, slice_get}
use Rattle.std.proofs.lemmas.Bool.Decides.{Decides-eqb}
use Rattle.std.proofs.lemmas.Option.{slice_get_within}
use Rattle.log_chain.specs.declared.entry.Entry.{Entry}
use Rattle.authenticators.specs.declared.authenticator.Authenticator.{Authenticator}
use Rattle.item_forms.specs.declared.forms.Fields.{Fields}
use Rattle.item_forms.specs.declared.forms.Fields.TheVariants as form
use Rattle.item_forms.specs.declared.forms.Segment.{Segment}
use Rattle.evidence_item.specs.declared.findings.Findings.{Findings}
use Rattle.evidence_item.specs.declared.findings.Findings.TheVariants as found
use Rattle.evidence_item.specs.declared.findings.SegmentFindings.{SegmentFindings}
use Rattle.kept_items.specs.Positions.{either_at, in_segment, positions, quote_at, quote_by, stated_in}

either_within : (a b : Option Authenticator) (k : ℕ) (c : Authenticator) → either_at a b k ≡ Some c → k < 2
either_within a b k c h = by_case (k == 0) refl
  where
    second : (e : Bool) → (k == 0) ≡ false → (k == 1) ≡ e → k < 2
    second true z o = let at = (Decides-eqb k 1).0 o in omega (arith, at)
    second false z o = let none : either_at a b k ≡ None = rw (z, o) refl in absurd (cc (none, h))

    by_case : (e : Bool) → (k == 0) ≡ e → k < 2
    by_case true z = let at = (Decides-eqb k 0).0 z in omega (arith, at)
    by_case false z = second (k == 1) z refl

only_within : (a : Option Authenticator) (k : ℕ) (c : Authenticator) → either_at a None k ≡ Some c → k < 1
only_within a k c h = by_case (k == 0) refl
  where
    second : (e : Bool) → (k == 0) ≡ false → (k == 1) ≡ e → k < 1
    second true z o = let none : either_at a None k ≡ None = rw (z, o) refl in absurd (cc (none, h))
    second false z o = let none : either_at a None k ≡ None = rw (z, o) refl in absurd (cc (none, h))

    by_case : (e : Bool) → (k == 0) ≡ e → k < 1
    by_case true z = let at = (Decides-eqb k 0).0 z in omega (arith, at)
    by_case false z = second (k == 1) z refl

quoted_within : (o : Option Entry) (h : Option (Option (List ℕ))) (a : Authenticator) → quote_by o h ≡ Some a → (e : Entry) × (o ≡ Some e)
quoted_within None h a is = absurd cc
quoted_within (Some e) h a is = (e, refl)

segment_within : (s : Segment) (f : SegmentFindings) (k : ℕ) (a : Authenticator) → in_segment s f k ≡ Some a → k < length s.entries + 1
segment_within s f k a h = by_case (k == 0) refl
  where
    by_case : (e : Bool) → (k == 0) ≡ e → k < length s.entries + 1
    by_case true z = let at = (Decides-eqb k 0).0 z in omega (arith, at)
    by_case false z =
        let same : in_segment s f k ≡ quote_at s f (k - 1) = rw z refl in
        let (e, is) = quoted_within (slice_get s.entries (k - 1)) (slice_get f.quotes (k - 1)) a (sym same ∙ h) in
        let lt = slice_get_within s.entries (k - 1) e is in
        omega (arith, lt)

-- A statement stands at a position that the item has.
pub within : (x : Fields) (f : Option Findings) (k : ℕ) (a : Authenticator) → stated_in x f k ≡ Some a → k < positions x
within (form.Auth b) f k a h = only_within (Some b) k a h
within (form.Segment s) (Some (found.Segment f)) k a h = segment_within s f k a h
within (form.Segment s) (Some (found.Send g)) k a h = absurd cc
within (form.Segment s) (Some (found.Ack g i)) k a h = absurd cc
within (form.Segment s) None k a h = absurd cc
within (form.Audit c) f k a h = either_within _ _ k a h
within (form.Send m) (Some (found.Send g)) k a h = only_within _ k a h
within (form.Send m) (Some (found.Segment f)) k a h = absurd cc
within (form.Send m) (Some (found.Ack g i)) k a h = absurd cc
within (form.Send m) None k a h = absurd cc
within (form.Ack b) (Some (found.Ack g i)) k a h = either_within _ _ k a h
within (form.Ack b) (Some (found.Segment f)) k a h = absurd cc
within (form.Ack b) (Some (found.Send g)) k a h = absurd cc
within (form.Ack b) None k a h = absurd cc
