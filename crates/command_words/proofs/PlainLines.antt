-- Plain lines: what clap finds in them.
use Rattle.std.proofs.Common.{◌≡◌, ◌∙◌, ℕ, Bool, false, true, ap, arith, codes, inl, inr, refl, subst, sym, List, [], ◌∷◌, Option, Some, None, option_map}
use Rattle.std.specs.Prelude.{option_and_then}
use Rattle.clap.proofs.OnLiterals.{clap_on_literals}
use Rattle.clap.specs.Words.{Row, Text, one_of}
use Rattle.command_words.specs.CommandLine.{IsNumber, Names, flag_in, found_in, word_faults}
use Rattle.command_words.specs.PlainLines.{IsPlainLine, IsPlainName, IsTaken, flag_text}
use Rattle.commands.specs.declared.task.Task.{Task}
use Rattle.commands.specs.declared.task.Task.TheVariants.{Check, Merge, Prove, Run, Status}

abbrev relay : Option Text
relay = Some (codes "relay")

-- the words name the command, and have the flag or not
record IsNamed (program : Text) (flag : Option Text) (words : List Text) (name : Text) (flagged : Bool) : Type 0 where
  faults : word_faults program flag words ≡ []
  named : option_map (λ p. p.0) (found_in program flag words) ≡ Some name
  found : flag_in program flag words ≡ Some (flag_text flagged)

-- what clap finds of the workers: one, where they are not said
abbrev workers_in : Text → Option Text → List Text → Option Text
workers_in program flag words = option_and_then (λ p. one_of (codes "workers") p.1) (found_in program flag words)

-- ---- the lines: of a program without a flag, and of one with it

status_alone : (program first : Text) → IsNamed program None (first ∷ codes "status" ∷ []) (codes "status") false
unfolding clap_on_literals word_faults found_in
status_alone program first = record { faults = refl; named = refl; found = refl }

status_unflagged : (program first : Text) → IsNamed program relay (first ∷ codes "status" ∷ []) (codes "status") false
unfolding clap_on_literals word_faults found_in
status_unflagged program first = record { faults = refl; named = refl; found = refl }

status_flagged : (program first : Text) → IsNamed program relay (first ∷ codes "status" ∷ codes "--relay" ∷ []) (codes "status") true
unfolding clap_on_literals word_faults found_in
status_flagged program first = record { faults = refl; named = refl; found = refl }

merge_alone : (program first : Text) → IsNamed program None (first ∷ codes "merge" ∷ []) (codes "merge") false
unfolding clap_on_literals word_faults found_in
merge_alone program first = record { faults = refl; named = refl; found = refl }

merge_unflagged : (program first : Text) → IsNamed program relay (first ∷ codes "merge" ∷ []) (codes "merge") false
unfolding clap_on_literals word_faults found_in
merge_unflagged program first = record { faults = refl; named = refl; found = refl }

merge_flagged : (program first : Text) → IsNamed program relay (first ∷ codes "merge" ∷ codes "--relay" ∷ []) (codes "merge") true
unfolding clap_on_literals word_faults found_in
merge_flagged program first = record { faults = refl; named = refl; found = refl }

check_alone : (program first : Text) → IsNamed program None (first ∷ codes "check" ∷ []) (codes "check") false
unfolding clap_on_literals word_faults found_in
check_alone program first = record { faults = refl; named = refl; found = refl }

check_unflagged : (program first : Text) → IsNamed program relay (first ∷ codes "check" ∷ []) (codes "check") false
unfolding clap_on_literals word_faults found_in
check_unflagged program first = record { faults = refl; named = refl; found = refl }

check_flagged : (program first : Text) → IsNamed program relay (first ∷ codes "check" ∷ codes "--relay" ∷ []) (codes "check") true
unfolding clap_on_literals word_faults found_in
check_flagged program first = record { faults = refl; named = refl; found = refl }

run_alone : (program first : Text) → IsNamed program None (first ∷ codes "run" ∷ []) (codes "run") false
unfolding clap_on_literals word_faults found_in
run_alone program first = record { faults = refl; named = refl; found = refl }

run_unflagged : (program first : Text) → IsNamed program relay (first ∷ codes "run" ∷ []) (codes "run") false
unfolding clap_on_literals word_faults found_in
run_unflagged program first = record { faults = refl; named = refl; found = refl }

run_flagged : (program first : Text) → IsNamed program relay (first ∷ codes "run" ∷ codes "--relay" ∷ []) (codes "run") true
unfolding clap_on_literals word_faults found_in
run_flagged program first = record { faults = refl; named = refl; found = refl }

workers_alone : (program first : Text) → workers_in program None (first ∷ codes "run" ∷ []) ≡ Some (codes "1")
unfolding clap_on_literals found_in
workers_alone program first = refl

workers_unflagged : (program first : Text) → workers_in program relay (first ∷ codes "run" ∷ []) ≡ Some (codes "1")
unfolding clap_on_literals found_in
workers_unflagged program first = refl

workers_flagged : (program first : Text) → workers_in program relay (first ∷ codes "run" ∷ codes "--relay" ∷ []) ≡ Some (codes "1")
unfolding clap_on_literals found_in
workers_flagged program first = refl

-- ---- what they ask for

-- a command's arguments stand beside its name
rows_beside : (o : Option (Text × List Row)) (name : Text) → option_map (λ p. p.0) o ≡ Some name → (rows : List Row) × (o ≡ Some (name, rows))
rows_beside None name e = absurd cc
rows_beside (Some p) name e = let same : p.0 ≡ name = cc in (p.1, ap (λ (n : Text). Some (n, p.1)) same)

module _ (program : Text) (flag : Option Text) where
  asks_for : (words : List Text) (name : Text) (task : Task) (flagged : Bool) → ((rows : List Row) → found_in program flag words ≡ Some (name, rows) → Names name rows task) → IsNamed program flag words name flagged → IsTaken program flag words task flagged
  asks_for words name task flagged names taken =
      let found = rows_beside (found_in program flag words) name taken.named in
      record { faults = taken.faults; asks = (name, found.0, found.1, names found.0 found.1); found = taken.found }

  is_one : IsNumber (codes "1") 1
  is_one = (((omega arith, (omega arith, tt)), omega arith), refl)

  run_asks : (words : List Text) (flagged : Bool) → IsNamed program flag words (codes "run") flagged → workers_in program flag words ≡ Some (codes "1") → IsTaken program flag words (Run 1) flagged
  run_asks words flagged taken workers =
      asks_for words _ (Run 1) flagged (λ rows here. (refl, (codes "1", sym (ap (option_and_then (λ p. one_of (codes "workers") p.1)) here) ∙ workers, is_one))) taken

  -- all commands of a line of so many words, where each literal name is taken
  by_task : (line : Text → List Text) (flagged : Bool) → IsNamed program flag (line (codes "status")) (codes "status") flagged → IsNamed program flag (line (codes "merge")) (codes "merge") flagged → IsNamed program flag (line (codes "check")) (codes "check") flagged → IsNamed program flag (line (codes "run")) (codes "run") flagged → workers_in program flag (line (codes "run")) ≡ Some (codes "1") → (name : Text) (task : Task) → IsPlainName name task → IsTaken program flag (line name) task flagged
  by_task line flagged status merge check run workers name Status is = subst (λ (n : Text). IsTaken program flag (line n) Status flagged) (sym is) (asks_for _ _ Status flagged (λ rows here. refl) status)
  by_task line flagged status merge check run workers name Merge is = subst (λ (n : Text). IsTaken program flag (line n) Merge flagged) (sym is) (asks_for _ _ Merge flagged (λ rows here. refl) merge)
  by_task line flagged status merge check run workers name (Prove n) is = absurd is
  by_task line flagged status merge check run workers name Check is = subst (λ (n : Text). IsTaken program flag (line n) Check flagged) (sym is) (asks_for _ _ Check flagged (λ rows here. refl) check)
  by_task line flagged status merge check run workers name (Run n) is =
      subst (λ (k : ℕ). IsTaken program flag (line name) (Run k) flagged) (sym is.1)
      (subst (λ (t : Text). IsTaken program flag (line t) (Run 1) flagged) (sym is.0) (run_asks _ flagged run workers))

  on_words : (words line : List Text) (task : Task) (flagged b : Bool) → words ≡ line → flagged ≡ b → IsTaken program flag line task b → IsTaken program flag words task flagged
  on_words words line task flagged b is same taken = subst (λ (f : Bool). IsTaken program flag words task f) (sym same) (subst (λ (ws : List Text). IsTaken program flag ws task b) (sym is) taken)

pub plain_lines : (program : Text) (words : List Text) (task : Task) → IsPlainLine words task false → IsTaken program None words task false
plain_lines program words task (first, name, is, inl line) =
    on_words program None words _ task false false line.0 refl (by_task program None (λ t. first ∷ t ∷ []) false (status_alone program first) (merge_alone program first) (check_alone program first) (run_alone program first) (workers_alone program first) name task is)
plain_lines program words task (first, name, is, inr line) = absurd cc

pub flagged_lines : (program : Text) (words : List Text) (task : Task) (flagged : Bool) → IsPlainLine words task flagged → IsTaken program relay words task flagged
flagged_lines program words task flagged (first, name, is, inl line) =
    on_words program relay words _ task flagged false line.0 line.1 (by_task program relay (λ t. first ∷ t ∷ []) false (status_unflagged program first) (merge_unflagged program first) (check_unflagged program first) (run_unflagged program first) (workers_unflagged program first) name task is)
flagged_lines program words task flagged (first, name, is, inr line) =
    on_words program relay words _ task flagged true line.0 line.1 (by_task program relay (λ t. first ∷ t ∷ codes "--relay" ∷ []) true (status_flagged program first) (merge_flagged program first) (check_flagged program first) (run_flagged program first) (workers_flagged program first) name task is)
