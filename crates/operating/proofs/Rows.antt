-- A map with the indication of each listed node has the rows of the standings.
use Rattle.std.proofs.Common.{◌≡◌, ℕ, List, [], ◌∷◌, ◌++◌, append_assoc, codes, decimal, get_or, refl, sym, ap, subst, ◌∙◌}
use Rattle.std.specs.Prelude.{is_some, All, Contains, IsSome, Option, Some, map, ◌↔◌}
use Rattle.std.specs.BTreeMap.{BTreeMap, IsOrdered, get, keys}
use Rattle.std.specs.List.{AllByRecursion, flat_map}
use Rattle.std.specs.List.Sorted.{IsStrictlyIncreasing}
use Rattle.std.specs.Ordering.{nat_cmp}
use Rattle.std.proofs.lemmas.Cmp.{nat_cmp_total}
use Rattle.std.proofs.lemmas.List.Elements.{All-from_recursion, Contains-get_or, recursion_from_All}
use Rattle.std.proofs.lemmas.Map.Keys.{IsStrictlyIncreasing-from_sorted}
use Rattle.std.proofs.lemmas.Map.Lookups.{exact_unsigned}
use Rattle.std.proofs.lemmas.Map.Views.{btree_map_contains_key_iff, btree_map_get_iff}
use Rattle.authenticators.specs.Directory.{Listing, is_listed, keys_at}
use Rattle.replay_verifier.specs.Meaning.{Meaning}
use Rattle.evidence_set.specs.declared.indication.Indication.{Indication}
use Rattle.evidence_set.specs.Indications.{IsIndication}
use Rattle.evidence_set.specs.Names.{name_of}
use Rattle.evidence.specs.Contents.{Contents}
use Rattle.answers.specs.declared.standings.Standing.{Standing}
use Rattle.answers.specs.Lines.{standing_line}
use Rattle.localities.specs.Known.{KnownAsExpected, is_known}
use Rattle.commands.specs.Reports.{IsReport, line_of}
use Rattle.operating.specs.declared.scope.Scope.TheVariants as scope
use Rattle.operating.specs.Questions.{AreStandings, IsStanding, StandingsAreReports, asked}

-- the other is there where the one is
some_same : {A B : Type 0} (a : Option A) (b : Option B) → is_some a ≡ is_some b → IsSome a → IsSome b
some_same a b e h = sym e ∙ h

pub standings : {S : Type 0} (program : Meaning S) (s : Contents) (m : BTreeMap ℕ Standing) → IsOrdered nat_cmp m
    → ((n : ℕ) → is_some (get nat_cmp m n) ≡ is_listed s.directory n)
    → ((n : ℕ) (x : Standing) → get nat_cmp m n ≡ Some x → IsStanding program s n x)
    → AreStandings program s m.entries
standings program s m ordered listed right = record {
  ascending = IsStrictlyIncreasing-from_sorted (keys m) ordered;
  complete = λ n.
      let found = btree_map_contains_key_iff nat_cmp_total exact_unsigned m n in
      (λ h. some_same _ _ (listed n) (found.1 h), λ h. found.0 (some_same _ _ (sym (listed n)) h));
  right = λ k d lt. right (get_or m.entries k d).0 (get_or m.entries k d).1 ((btree_map_get_iff nat_cmp_total exact_unsigned m ordered (get_or m.entries k d).0 (get_or m.entries k d).1).1 (Contains-get_or m.entries k d lt));
}

-- ---- lines

regrouped : (number blank word end : List ℕ) → number ++ blank ++ word ++ end ≡ number ++ (blank ++ word ++ end)
regrouped number blank word end = append_assoc (number ++ blank) word end ∙ append_assoc number blank (word ++ end) ∙ ap (λ (l : List ℕ). number ++ l) (sym (append_assoc blank word end))

both : (a b c d : List ℕ) → a ≡ b → c ≡ d → a ++ c ≡ b ++ d
both a b c d h k = ap (λ (l : List ℕ). l ++ c) h ∙ ap (λ (l : List ℕ). b ++ l) k

-- a row as the report has it, and one of the report with whether anything is known of its node
told : ℕ × Standing → ℕ × Indication
told row = (row.0, row.1.indication)

known : Contents → ℕ × Indication → ℕ × Standing
known s row = (row.0, record { indication = row.1; known = is_known s.directory s.items row.0 })

told_number : (row : ℕ × Standing) → (told row).0 ≡ row.0
unfolding told
told_number row = refl

known_number : (s : Contents) (row : ℕ × Indication) → (known s row).0 ≡ row.0
unfolding known
known_number s row = refl

same_line : (row : ℕ × Standing) → standing_line row ≡ line_of (told row)
unfolding told
same_line row = regrouped (decimal row.0) (codes " ") (name_of row.1.indication) (codes "\n")

same_lines : (rows : List (ℕ × Standing)) → flat_map standing_line rows ≡ flat_map line_of (map told rows)
same_lines [] = refl
same_lines (row ∷ rows) = both (standing_line row) (line_of (told row)) (flat_map standing_line rows) (flat_map line_of (map told rows)) (same_line row) (same_lines rows)

back : (s : Contents) (rows : List (ℕ × Indication)) → map told (map (known s) rows) ≡ rows
unfolding told known
back s [] = refl
back s (row ∷ rows) = ap (λ (more : List (ℕ × Indication)). row ∷ more) (back s rows)

-- a filter that keeps all
all_kept : (rows : List (ℕ × Standing)) → asked scope.All rows ≡ rows
all_kept [] = refl
all_kept (row ∷ rows) = ap (λ (more : List (ℕ × Standing)). row ∷ more) (all_kept rows)

-- ---- rows that are changed in what stands beside the number

module _ {A B : Type 0} (f : ℕ × A → ℕ × B) (same : (row : ℕ × A) → (f row).0 ≡ row.0) where
  numbers_stay : (rows : List (ℕ × A)) → map (λ (row : ℕ × B). row.0) (map f rows) ≡ map (λ (row : ℕ × A). row.0) rows
  numbers_stay [] = refl
  numbers_stay (row ∷ rows) = ap (λ (n : ℕ). n ∷ map (λ (r : ℕ × B). r.0) (map f rows)) (same row) ∙ ap (λ (ns : List ℕ). row.0 ∷ ns) (numbers_stay rows)

  still_listed : (ds : Listing) (rows : List (ℕ × A)) → ((n : ℕ) → Contains (map (λ (row : ℕ × A). row.0) rows) n ↔ IsSome (keys_at ds n)) → (n : ℕ) → Contains (map (λ (row : ℕ × B). row.0) (map f rows)) n ↔ IsSome (keys_at ds n)
  still_listed ds rows complete n = subst (λ (ns : List ℕ). Contains ns n ↔ IsSome (keys_at ds n)) (sym (numbers_stay rows)) (complete n)

  each_right : (P : ℕ × A → Type 0) (Q : ℕ × B → Type 0) → ((row : ℕ × A) → P row → Q (f row)) → (rows : List (ℕ × A)) → AllByRecursion P rows → AllByRecursion Q (map f rows)
  each_right P Q step [] h = tt
  each_right P Q step (row ∷ rows) h = (step row h.0, each_right P Q step rows h.1)

  all_right : (P : ℕ × A → Type 0) (Q : ℕ × B → Type 0) → ((row : ℕ × A) → P row → Q (f row)) → (rows : List (ℕ × A)) → All P rows → All Q (map f rows)
  all_right P Q step rows all = All-from_recursion Q (map f rows) (each_right P Q step rows (recursion_from_All P rows all))

-- ---- the report has the same rows, in the same lines

module _ {S : Type 0} (program : Meaning S) (s : Contents) where
  abbrev IsRow : ℕ × Standing → Type 0
  IsRow row = IsStanding program s row.0 row.1

  abbrev IsTold : ℕ × Indication → Type 0
  IsTold row = IsIndication s.directory program s.items row.0 row.1

  row_told : (row : ℕ × Standing) → IsRow row → IsTold (told row)
  unfolding told
  row_told row h = h.indication

  row_known : KnownAsExpected → (row : ℕ × Indication) → IsTold row → IsRow (known s row)
  unfolding known
  row_known knows row h = record { indication = h; known = knows.test s.directory s.items row.0 }

  report_of : (rows : List (ℕ × Standing)) (text : List ℕ) → AreStandings program s rows → text ≡ flat_map standing_line (asked scope.All rows) → IsReport program s text
  report_of rows text are written = record {
    rows = map told rows;
    ascending = subst IsStrictlyIncreasing (sym (numbers_stay told told_number rows)) are.ascending;
    complete = still_listed told told_number s.directory rows are.complete;
    right = all_right told told_number IsRow IsTold row_told rows are.right;
    spelled = written ∙ ap (flat_map standing_line) (all_kept rows) ∙ same_lines rows;
  }

  standings_of : KnownAsExpected → (text : List ℕ) → IsReport program s text → (rows : List (ℕ × Standing)) × AreStandings program s rows × (text ≡ flat_map standing_line (asked scope.All rows))
  standings_of knows text report =
      let rows = map (known s) report.rows in (
        rows,
        record {
          ascending = subst IsStrictlyIncreasing (sym (numbers_stay (known s) (known_number s) report.rows)) report.ascending;
          complete = still_listed (known s) (known_number s) s.directory report.rows report.complete;
          right = all_right (known s) (known_number s) IsTold IsRow (row_known knows) report.rows report.right;
        },
        report.spelled ∙ sym (ap (flat_map line_of) (back s report.rows)) ∙ sym (same_lines rows) ∙ ap (flat_map standing_line) (sym (all_kept rows)),
      )

pub reports : {S : Type 0} → KnownAsExpected → StandingsAreReports S
reports knows program name c (text, ending) = (
  λ h. (report_of program c.contents h.0 text h.1 h.2, h.3),
  λ h. let r = standings_of program c.contents knows text h.0 in (r.0, r.1, r.2, h.1),
)
