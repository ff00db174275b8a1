-- The number of a command that takes one, as clap finds it.
use Rattle.std.proofs.Common.{◌≡◌, ◌∙◌, ℕ, ap, arith, codes, refl, slice_index, subst, sym, Option, Some, None, Err, List, ◌∷◌}
use Rattle.std.specs.Str.Parse.{ParsesUnsigned}
use Rattle.clap.specs.Words.{Row, Text, one_of}
use Rattle.command_words.specs.CommandLine.{HasNumber, IsNumber, Names}
use Rattle.commands.specs.declared.task.Task.{Task}
use Rattle.commands.specs.declared.task.Task.TheVariants.{Check, Merge, Prove, Run, Status}

-- a number that was read of an argument is that of its text
has_number : (id : Text) (rows : List Row) (n : ℕ) → (one_of id rows ≡ None → ◌≡◌ {A = Option ℕ} (Some n) None) → ((t : Text) → one_of id rows ≡ Some t → IsNumber t n) → HasNumber id rows n
has_number id rows n none some = go (one_of id rows) refl
  where
    go : (o : Option Text) → one_of id rows ≡ o → HasNumber id rows n
    go None e = absurd (cc (none e))
    go (Some t) e = (t, e, some t e)

-- The command of this name asks for the task of the argument's number, and no other task has the name.
pub record TakesNumber (command id : Text) (task_of : ℕ → Task) : Type 0 where
  pub made : (rows : List Row) (n : ℕ) → HasNumber id rows n → Names command rows (task_of n)
  pub only : (rows : List Row) (task : Task) → Names command rows task → (n : ℕ) × (task ≡ task_of n) × HasNumber id rows n

-- ---- what is read of such a command

module _ (command id : Text) (task_of : ℕ → Task) (takes : TakesNumber command id task_of) (name : Text) (rows : List Row) (is : name ≡ command) where
  -- A number that was read makes the task,
  pub named : (n : ℕ) → (one_of id rows ≡ None → ◌≡◌ {A = Option ℕ} (Some n) None) → ((t : Text) → one_of id rows ≡ Some t → IsNumber t n) → Names name rows (task_of n)
  named n none some = subst (λ (c : Text). Names c rows (task_of n)) (sym is) (takes.made rows n (has_number id rows n none some))

  -- the only task with these words is it,
  pub only_number : (n : ℕ) → ((t : Text) → one_of id rows ≡ Some t → IsNumber t n) → (task : Task) → Names name rows task → Some (task_of n) ≡ Some task
  only_number n read task names =
      let other = takes.only rows task (subst (λ (c : Text). Names c rows task) is names) in
      let same : n ≡ other.0 = (read other.2.0 other.2.1).1 ∙ sym other.2.2.1 in
      ap (λ (k : ℕ). Some (task_of k)) same ∙ ap (λ (t : Task). Some t) (sym other.1)

  -- and where none was read there is none.
  pub no_number : {E : Type 0} → ((t : Text) → one_of id rows ≡ Some t → (e : E) × ParsesUnsigned 32 10 t (Err e)) → (task : Task) → Names name rows task → None ≡ Some task
  no_number read task names =
      let other = takes.only rows task (subst (λ (c : Text). Names c rows task) is names) in
      absurd ((read other.2.0 other.2.1).1 other.2.2.0)

-- ---- the two commands: each begins with a byte of its own

first_byte : (name : Text) (a b : ℕ) (s t : Text) → name ≡ a ∷ s → name ≡ b ∷ t → a ≡ b
first_byte name a b s t is other = ap (λ (l : Text). slice_index l 0) (sym is ∙ other)

only_prove : (name : Text) (rows : List Row) → name ≡ codes "prove" → (task : Task) → Names name rows task → (n : ℕ) × (task ≡ Prove n) × HasNumber (codes "NODE") rows n
only_prove name rows is Status h = let e : 112 ≡ 115 = first_byte name _ _ _ _ is h in absurd (omega (arith, e))
only_prove name rows is Merge h = let e : 112 ≡ 109 = first_byte name _ _ _ _ is h in absurd (omega (arith, e))
only_prove name rows is (Prove n) h = (n, refl, h.1)
only_prove name rows is Check h = let e : 112 ≡ 99 = first_byte name _ _ _ _ is h in absurd (omega (arith, e))
only_prove name rows is (Run n) h = let e : 112 ≡ 114 = first_byte name _ _ _ _ is h.0 in absurd (omega (arith, e))

pub proving : TakesNumber (codes "prove") (codes "NODE") (λ n. Prove n)
proving = record { made = λ rows n h. (refl, h); only = λ rows task h. only_prove _ rows refl task h }

only_run : (name : Text) (rows : List Row) → name ≡ codes "run" → (task : Task) → Names name rows task → (n : ℕ) × (task ≡ Run n) × HasNumber (codes "workers") rows n
only_run name rows is Status h = let e : 114 ≡ 115 = first_byte name _ _ _ _ is h in absurd (omega (arith, e))
only_run name rows is Merge h = let e : 114 ≡ 109 = first_byte name _ _ _ _ is h in absurd (omega (arith, e))
only_run name rows is (Prove n) h = let e : 114 ≡ 112 = first_byte name _ _ _ _ is h.0 in absurd (omega (arith, e))
only_run name rows is Check h = let e : 114 ≡ 99 = first_byte name _ _ _ _ is h in absurd (omega (arith, e))
only_run name rows is (Run n) h = (n, refl, h.1)

pub running : TakesNumber (codes "run") (codes "workers") (λ n. Run n)
running = record { made = λ rows n h. (refl, h); only = λ rows task h. only_run _ rows refl task h }
