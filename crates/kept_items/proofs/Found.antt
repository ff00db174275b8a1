-- What was found whole can be kept.
use Rattle.std.proofs.Common.{◌≡◌, ℕ, List, [], ◌∷◌, length, Option, Some, None, refl, sym, ap, ◌∙◌, suc}
use Rattle.std.specs.Prelude.{IfSome}
use Rattle.log_chain.specs.declared.entry.Entry.{Entry}
use Rattle.authenticators.specs.Directory.{Listing}
use Rattle.replay_verifier.specs.Deviation.{quoted_hashes}
use Rattle.item_forms.specs.declared.forms.Fields.{Fields}
use Rattle.item_forms.specs.declared.forms.Fields.TheVariants as form
use Rattle.evidence_item.specs.declared.findings.Findings.{Findings}
use Rattle.evidence_item.specs.Checking.{AreFindings, IsFound, findings_of}
use Rattle.kept_evidence.specs.Kept.{found_hashes}
use Rattle.kept_evidence.specs.Telling.{found_quotes}
use Rattle.kept_items.specs.Keeping.{CanBeKeptWith, CheckedItemsCanBeKept, FoundItemsCanBeKept}

as_many : (ds : Listing) (me : ℕ) (es : List Entry) → length (quoted_hashes ds me es) ≡ length es
as_many ds me [] = refl
as_many ds me (e ∷ es) = ap suc (as_many ds me es)

by_fields : (ds : Listing) (x : Fields) (f : Option Findings) → f ≡ findings_of ds x → CanBeKeptWith x f
by_fields ds (form.Auth a) f is = tt
by_fields ds (form.Segment s) f is = record {
  hashed = ap found_hashes is;
  quoted = ap (λ (g : Option Findings). length (found_quotes g)) is ∙ as_many ds s.node s.entries;
}
by_fields ds (form.Audit c) f is = tt
by_fields ds (form.Send m) f is = tt
by_fields ds (form.Ack a) f is = tt

pub can_be_kept : FoundItemsCanBeKept
can_be_kept ds c is = by_fields ds c.item.fields c.findings is

own : (ds : Listing) (x : Fields) (f : Option Findings) → IfSome f (AreFindings ds x) → IsFound x f → CanBeKeptWith x f
own ds (form.Auth a) f are is = tt
own ds (form.Segment s) None are is = absurd cc
own ds (form.Segment s) (Some f) are is = by_fields ds (form.Segment s) (Some f) (sym are)
own ds (form.Audit c) f are is = tt
own ds (form.Send m) f are is = tt
own ds (form.Ack a) f are is = tt

pub checked_can_be_kept : CheckedItemsCanBeKept
checked_can_be_kept ds c are is = own ds c.item.fields c.findings are is
