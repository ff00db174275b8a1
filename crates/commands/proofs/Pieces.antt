-- The text of a store that is read in pieces.
use Rattle.std.proofs.Common.{◌≡◌, ℕ, List, ◌++◌, Result, Ok, Err, sym, ap, subst, ◌∙◌, inl, inr, append_assoc}
use Rattle.outcome.proofs.Steps.{Ok-inj}
use Rattle.authenticators.specs.Directory.{Listing}
use Rattle.item_forms.specs.declared.forms.Fields.{Fields}
use Rattle.containers.specs.declared.fault.ImportFault.{ImportFault}
use Rattle.containers.specs.CheckedItems.{checked_of}
use Rattle.containers.specs.Container.{CutOff, Faulty, Refusal, container_of, kept_on}
use Rattle.containers.specs.Refusals.{Refuses}
use Rattle.evidence.specs.Importing.{RefusedPiecesStay, fed_by, import_set}
use Rattle.evidence.specs.Exports.{magic_of}

kept_text : (text t : List ℕ) (r : Result (List Fields) Refusal) → kept_on text r ≡ Ok t → text ≡ t
kept_text text t (Ok items) e = Ok-inj {E = ImportFault} text t e
kept_text text t (Err (CutOff n)) e = Ok-inj {E = ImportFault} text t e
kept_text text t (Err (Faulty f)) e = absurd cc

-- so far, and the piece
pub fed_more : (ds : Listing) (before piece t : List ℕ) (fed : Result (List ℕ) ImportFault) → fed ≡ Ok before → fed_by (checked_of ds) piece fed ≡ Ok t → before ++ piece ≡ t
fed_more ds before piece t fed is e =
    kept_text (before ++ piece) t (container_of (magic_of (before ++ piece)) (checked_of ds) (before ++ piece)) (ap (fed_by (checked_of ds) piece) (sym is) ∙ e)

-- a piece that is refused
pub refused_on : RefusedPiecesStay → (ds : Listing) (text before rest piece left : List ℕ) (fed : Result (List ℕ) ImportFault) (f : ImportFault) → fed ≡ Ok before → before ++ rest ≡ text → piece ++ left ≡ rest
    → Refuses f (fed_by (checked_of ds) piece fed) → Refuses f (import_set ds text)
refused_on law ds text before rest piece left fed f is whole split (inl memory) = inl memory
refused_on law ds text before rest piece left fed f is whole split (inr e) =
    let told = law ds (before ++ piece) left f (ap (fed_by (checked_of ds) piece) (sym is) ∙ e) in
    let all : (before ++ piece) ++ left ≡ text = append_assoc before piece left ∙ ap (λ (x : List ℕ). before ++ x) split ∙ whole in
    inr (subst (λ (x : List ℕ). import_set ds x ≡ Err f) all told)
