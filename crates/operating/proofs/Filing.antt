-- Parts that are written one after the other.
use Rattle.std.proofs.Common.{◌≡◌, ◌≢◌, ◌+◌, ◌<◌, ◌≤◌, ◌⊎◌, ◌∙◌, ℕ, List, Option, inl, inr, sym, ap, subst, arith}
use Rattle.std.proofs.lemmas.Bool.{cases_lt}
use Rattle.std.specs.Io.KnownBytes.{Appends}
use Rattle.evidence.specs.Exports.{export_of}
use Rattle.evidence_set.specs.ItemSets.{Items}
use Rattle.shards.specs.declared.dealing.Dealing.{Dealing}
use Rattle.commands.specs.declared.fault.Fault.{Fault}
use Rattle.commands.specs.declared.fault.Fault.TheVariants as fault
use Rattle.operating.specs.Dealt.{AreFiled, AreFiledUpTo, Filed, IsOfWriting, LeavesParts, part_at}

module _ (dealing : Dealing) (X : Items) (n : ℕ) (old mid new : Filed) where
  -- the files of the first parts stay as they were written, and that of the next is written
  pub filed_on : AreFiled dealing X n old mid → ((k : ℕ) → n ≤ k → mid.files k ≡ old.files k) → Appends (mid.files n) (new.files n) (export_of (part_at dealing X n)) → ((k : ℕ) → k ≢ n → new.files k ≡ mid.files k) → AreFiled dealing X (n + 1) old new
  filed_on before rest own others k less = by (cases_lt k n)
    where
      by : (k < n) ⊎ (n ≤ k) → Appends (old.files k) (new.files k) (export_of (part_at dealing X k))
      by (inl below) = let apart : k ≢ n = omega (arith, below) in subst (λ (file : Option (List ℕ)). Appends (old.files k) file (export_of (part_at dealing X k))) (sym (others k apart)) (before k below)
      by (inr above) =
          let same : n ≡ k = omega (arith, less, above) in
          let here = subst (λ (file : Option (List ℕ)). Appends file (new.files n) (export_of (part_at dealing X n))) (rest n (omega arith)) own in
          subst (λ (j : ℕ). Appends (old.files j) (new.files j) (export_of (part_at dealing X j))) same here

  -- those behind it are as they were
  pub left_on : ((k : ℕ) → n ≤ k → mid.files k ≡ old.files k) → ((k : ℕ) → k ≢ n → new.files k ≡ mid.files k) → (k : ℕ) → n + 1 ≤ k → new.files k ≡ old.files k
  left_on rest others k behind = let apart : k ≢ n = omega (arith, behind) in others k apart ∙ rest k (omega (arith, behind))

  -- the first parts are left where the next was not written
  pub left_by : AreFiled dealing X n old mid → ((k : ℕ) → n ≤ k → mid.files k ≡ old.files k) → ((k : ℕ) → k ≢ n → new.files k ≡ mid.files k) → (f : Fault) → (new ≡ mid) ⊎ (f ≡ fault.WriteFailed) → LeavesParts dealing X f old new
  left_by before rest others f (inl same) = (n, inl (subst (λ (last : Filed). AreFiledUpTo dealing X n n old last) (sym same) (record { filed = before; others = rest })))
  left_by before rest others f (inr failed) =
      let stay : (k : ℕ) → k < n → Appends (old.files k) (new.files k) (export_of (part_at dealing X k)) = λ k below. let apart : k ≢ n = omega (arith, below) in subst (λ (file : Option (List ℕ)). Appends (old.files k) file (export_of (part_at dealing X k))) (sym (others k apart)) (before k below) in
      (n, inr (failed, record { filed = stay; others = left_on rest others }))

-- the first n parts are left where those are filed, and no others
pub left_whole : (dealing : Dealing) (X : Items) (n : ℕ) (old new : Filed) (f : Fault) → AreFiled dealing X n old new → ((k : ℕ) → n ≤ k → new.files k ≡ old.files k) → LeavesParts dealing X f old new
left_whole dealing X n old new f filed others = (n, inl (record { filed = filed; others = others }))

-- files that are the same show the same
pub seen_same : {F : Type 0} (seen : F → Filed) (new old : F) (f : Fault) → (new ≡ old) ⊎ (f ≡ fault.WriteFailed) → (seen new ≡ seen old) ⊎ (f ≡ fault.WriteFailed)
seen_same seen new old f (inl same) = inl (ap seen same)
seen_same seen new old f (inr failed) = inr failed

-- a write that failed behind others that did not
pub later_writing : (old mid new : Filed) (f : Fault) → mid.failures ≡ old.failures → IsOfWriting mid new f → IsOfWriting old new f
later_writing old mid new f quiet (inl memory) = inl memory
later_writing old mid new f quiet (inr (failed, more)) = inr (failed, omega (arith, more, quiet))
