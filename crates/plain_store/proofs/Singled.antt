-- What is found among the statements and the segments of one node is found among all, and what is not found is nowhere.
use Rattle.std.proofs.Common.{◌≡◌, ℕ, Bool, true, false, List, refl}
use Rattle.std.specs.Prelude.{Option, Some, None, IfNone, IfSome, MatchOption}
use Rattle.std.specs.List.{Contains, list_any}
use Rattle.std.proofs.lemmas.List.Folds.{list_any-from_Any}
use Rattle.authenticators.specs.declared.authenticator.Authenticator.{Authenticator}
use Rattle.authenticators.specs.StatementSet.{IsPart}
use Rattle.item_forms.specs.declared.forms.Fields.{Fields}
use Rattle.item_forms.specs.declared.forms.Fields.TheVariants as form
use Rattle.item_forms.specs.Groups.{IsInGroup, Segments}
use Rattle.proofs.specs.Contradictions.{contradicts}
use Rattle.evidence_item.specs.Checking.{Checked}
use Rattle.kept_evidence.specs.Kept.{IsGroupOf}
use Rattle.kept_evidence.specs.Telling.{DeviatesNowhere, IsDenial, IsDeviation, IsKeptOf, IsSegmentOf, IsUndenied, denies, deviates, is_denied}

-- ---- what a search finds or not

pub on_none : {A : Type 0} (o : Option A) (P R : Type 0) (Q : A → Type 0) → MatchOption o P Q → (P → R) → IfNone o R
on_none None P R Q h f = f h
on_none (Some x) P R Q h f = tt

pub on_some : {A : Type 0} (o : Option A) (P : Type 0) (Q R : A → Type 0) → MatchOption o P Q → ((x : A) → Q x → R x) → IfSome o R
on_some None P Q R h f = tt
on_some (Some x) P Q R h f = f x h

-- ---- tests that no element passes

fails : {X : Type 0} (p : X → Bool) (xs : List X) (x : X) (b : Bool) → p x ≡ b → list_any p xs ≡ false → Contains xs x → p x ≡ false
fails p xs x false is none has = is
fails p xs x true is none has = let any : list_any p xs ≡ true = list_any-from_Any p xs (has.0, x, has.1, has.2, is) in absurd (cc (any, none))

-- Where no element passes the test, this one does not.
pub not_passed : {X : Type 0} (p : X → Bool) (xs : List X) (x : X) → list_any p xs ≡ false → Contains xs x → p x ≡ false
not_passed p xs x none has = fails p xs x (p x) refl none has

-- ---- segments

grouped : (j : ℕ) (x : Fields) → IsSegmentOf j x → IsInGroup (Segments j) x
grouped j (form.Auth a) h = h
grouped j (form.Segment s) h = h
grouped j (form.Audit c) h = h
grouped j (form.Send m) h = h
grouped j (form.Ack a) h = h

of_group : (j : ℕ) (x : Fields) → IsInGroup (Segments j) x → IsSegmentOf j x
of_group j (form.Auth a) h = h
of_group j (form.Segment s) h = h
of_group j (form.Audit c) h = h
of_group j (form.Send m) h = h
of_group j (form.Ack a) h = h

module _ (j : ℕ) (kept segments : List Checked) (group : IsGroupOf (Segments j) kept segments) where
  in_group : (c : Checked) → IsKeptOf j kept c → Contains segments c
  in_group c h = (group c).1 (h.contains, grouped j c.item.fields h.segment)

  is_kept : (c : Checked) → Contains segments c → IsKeptOf j kept c
  is_kept c has = let both = (group c).0 has in record { contains = both.0; segment = of_group j c.item.fields both.1 }

  pub deviates_nowhere : list_any (λ (c : Checked). deviates c.verdict) segments ≡ false → DeviatesNowhere j kept
  deviates_nowhere none c h = not_passed (λ (k : Checked). deviates k.verdict) segments c none (in_group c h)

  pub is_deviation : (c : Checked) → Contains segments c → deviates c.verdict ≡ true → IsDeviation j kept c
  is_deviation c has h = record { segment = is_kept c has; verdict = h }

  module _ (held statements : List Authenticator) (part : IsPart (λ x. x.node ≡ j) held statements) where
    undenied_by : (x : Fields) → IsSegmentOf j x → is_denied statements x ≡ false → (a : Authenticator) → Contains statements a → denies a x ≡ false
    undenied_by (form.Auth b) h none a has = absurd h
    undenied_by (form.Segment s) h none a has = not_passed (λ (b : Authenticator). contradicts b.seq b.hash s) statements a none has
    undenied_by (form.Audit b) h none a has = absurd h
    undenied_by (form.Send b) h none a has = absurd h
    undenied_by (form.Ack b) h none a has = absurd h

    pub undenied : list_any (λ (c : Checked). is_denied statements c.item.fields) segments ≡ false → IsUndenied j held kept
    undenied none c h a has of =
        undenied_by c.item.fields h.segment (not_passed (λ (k : Checked). is_denied statements k.item.fields) segments c none (in_group c h)) a ((part.members a).1 (has, of))

    pub is_denial : (a : Authenticator) (c : Checked) → Contains statements a → Contains segments c → denies a c.item.fields ≡ true → IsDenial j held kept a c
    is_denial a c in_statements in_segments h =
        let both = (part.members a).0 in_statements in
        record { statement = both.0; of = both.1; segment = is_kept c in_segments; contradicts = h }
