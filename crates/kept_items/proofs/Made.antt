-- A kept segment is the checked item that it was made of.
use Rattle.std.proofs.Common.{◌≡◌, ℕ, suc, List, [], ◌∷◌, length, Option, Some, refl, sym, ap, subst, ◌∙◌}
use Rattle.log_chain.specs.Chain.{entry_hash, hashes}
use Rattle.replay_verifier.specs.declared.verdict.Verdict.{Verdict}
use Rattle.item_forms.specs.declared.forms.Fields.{Fields}
use Rattle.item_forms.specs.declared.forms.Fields.TheVariants as form
use Rattle.item_forms.specs.declared.forms.Segment.{Segment}
use Rattle.item_forms.specs.Pieces.{Piece, same_piece}
use Rattle.evidence_item.specs.declared.findings.Findings.{Findings}
use Rattle.evidence_item.specs.declared.findings.Findings.TheVariants as found
use Rattle.evidence_item.specs.declared.findings.SegmentFindings.{SegmentFindings}
use Rattle.evidence_item.specs.Checking.{Checked}
use Rattle.kept_entries.specs.Shared.{SharedEntry, entries_of, hashes_of}
use Rattle.log_chain.specs.declared.entry.Entry.{Entry}
use Rattle.kept_items.specs.Keeping.{CanBeKeptWith, IsFoundSegment}
use Rattle.kept_items.specs.within.Parts.{fields_of, findings_in}
use Rattle.kept_items.specs.within.Shared.{quotes_of, shared_of}
use Rattle.kept_items.proofs.Entries.{entries_are, hashes_are, quotes_are}

-- each entry has a hash
each_hashed : (prev : List ℕ) (es : List Entry) → length (hashes prev es) ≡ length es
each_hashed prev [] = refl
each_hashed prev (e ∷ es) = ap suc (each_hashed (entry_hash prev e) es)

given : (a b : List (List ℕ)) → Some a ≡ Some b → a ≡ b
given a b is = cc

-- what can be kept of the item is what was found of the segment
pub found_is : (x : Fields) (g : Option Findings) (s : Segment) (f : SegmentFindings) → x ≡ form.Segment s → g ≡ Some (found.Segment f) → CanBeKeptWith x g → IsFoundSegment s (Some (found.Segment f))
found_is x g s f is same can = subst (λ (h : Option Findings). IsFoundSegment s h) same (subst (λ (y : Fields). CanBeKeptWith y g) is can)

module _ (s : Segment) (f : SegmentFindings) (can : IsFoundSegment s (Some (found.Segment f))) (shared : List SharedEntry) (is : shared ≡ shared_of s.prev s.entries f.hashes f.quotes) where
  hashed : f.hashes ≡ hashes s.prev s.entries
  hashed = given _ _ can.hashed

  many : length f.hashes ≡ length s.entries
  many = ap length hashed ∙ each_hashed s.prev s.entries

  same_entries : entries_of shared ≡ s.entries
  same_entries = ap entries_of is ∙ entries_are s.prev s.entries f.hashes f.quotes many can.quoted

  same_hashes : hashes_of shared ≡ f.hashes
  same_hashes = ap hashes_of is ∙ hashes_are s.prev s.entries f.hashes f.quotes many can.quoted

  pub fields_are : fields_of s.node s.prev shared s.sig ≡ form.Segment s
  fields_are = ap (λ (es : List Entry). form.Segment (record { node = s.node; prev = s.prev; entries = es; sig = s.sig })) same_entries

  pub findings_are : findings_in shared ≡ Some (found.Segment f)
  findings_are =
      ap (λ (hs : List (List ℕ)). Some (found.Segment (record { hashes = hs; quotes = quotes_of shared }))) same_hashes
      ∙ ap (λ (qs : List (Option (List ℕ))). Some (found.Segment (record { hashes = f.hashes; quotes = qs }))) (ap quotes_of is ∙ quotes_are s.prev s.entries f.hashes f.quotes many can.quoted)

  pub hashed_are : hashes_of shared ≡ hashes s.prev (entries_of shared)
  hashed_are = same_hashes ∙ hashed ∙ ap (hashes s.prev) (sym same_entries)

-- Checked items with the same fields, verdict and findings are one.
pub one_checked : (a b : Checked) → a.item.fields ≡ b.item.fields → a.verdict ≡ b.verdict → a.findings ≡ b.findings → a ≡ b
one_checked a b fields verdict findings =
    ap (λ (x : Piece). record { item = x; verdict = a.verdict; findings = a.findings }) (same_piece a.item b.item fields)
    ∙ ap (λ (v : Option Verdict). record { item = b.item; verdict = v; findings = a.findings }) verdict
    ∙ ap (λ (f : Option Findings). record { item = b.item; verdict = b.verdict; findings = f }) findings
