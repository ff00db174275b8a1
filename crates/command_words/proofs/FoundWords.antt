-- What is read of clap's matches is what clap finds in the words.
use Rattle.std.proofs.Common.{◌≡◌, ◌∙◌, Bool, false, true, ◌&&◌, ap, ap₂, refl, subst, sym, List, Option, Some, None, option_map}
use Rattle.std.specs.Prelude.{option_and_then}
use Rattle.clap.specs.Matches.{subcommand_name_of}
use Rattle.clap.specs.Words.{App, HasMatchesOf, Row, Text, is_simple, is_simple_and_free, subcommand_of, subcommand_rows_of}
use Rattle.clap.specs.declared.parser.matches.ArgMatches.{ArgMatches}
use Rattle.command_words.specs.CommandLine.{AsksFor, Names, flag_in, flag_of, found_in, plain, program_of, prove, run}
use Rattle.commands.specs.declared.task.Task.{Task}

both_first : (a b : Bool) → (a && b) ≡ true → a ≡ true
both_first true b is = refl
both_first false b is = is

-- a name and rows that are told apart stand together
together : {A : Type 0} (o : Option A) (h : A → Text × List Row) (name : Text) (rows : List Row) → Some name ≡ option_map (λ b. (h b).0) o → Some rows ≡ option_map (λ (p : Text × List Row). p.1) (option_map h o) → option_map h o ≡ Some (name, rows)
together None h name rows n r = absurd cc
together (Some b) h name rows n r =
    let same : (h b).0 ≡ name = cc in
    let others : (h b).1 ≡ rows = cc in
    ap₂ (λ (x : Text) (y : List Row). Some (x, y)) same others

one_pair : (p q : Text × List Row) → ◌≡◌ {A = Option (Text × List Row)} (Some p) (Some q) → p ≡ q
one_pair p q e = cc

module _ (program : Text) (flag : Option Text) (a : App) (words : List Text) (m : ArgMatches) (name : Text) (rows : List Row) (is : a ≡ program_of program flag) (simple : is_simple_and_free (program_of program flag) ≡ true) (has : HasMatchesOf a words m) (n : Some name ≡ subcommand_name_of m) (r : Some rows ≡ option_map (λ (p : Text × List Row). p.1) (subcommand_rows_of m)) where
  found_is : subcommand_rows_of m ≡ found_in program flag words
  unfolding found_in
  found_is = (has (ap is_simple is ∙ both_first (is_simple (program_of program flag)) _ simple)).1 ∙ ap (λ (b : App). subcommand_of b words) is

  here : found_in program flag words ≡ Some (name, rows)
  here = sym found_is ∙ together _ _ name rows n r

  -- What has this name and these arguments is what the words ask for,
  pub asked : (t : Task) → Names name rows t → AsksFor program flag words t
  asked t names = (name, rows, here, names)

  -- and nothing else is.
  pub named_here : (t : Task) → AsksFor program flag words t → Names name rows t
  named_here t asks = subst (λ (p : Text × List Row). Names p.0 p.1 t) (one_pair (asks.0, asks.1) (name, rows) (sym asks.2 ∙ here)) asks.3

  -- The flag is found among the command's arguments.
  pub flag_here : flag_in program flag words ≡ flag_of flag rows
  flag_here = ap (option_and_then (λ p. flag_of flag p.1)) here

-- ---- the commands are plain: they have no argument of all commands beneath them

pub plain_is_plain : (flag : Option Text) (name : Text) → (plain flag name).top.is_plain ≡ true
plain_is_plain None name = refl
plain_is_plain (Some f) name = refl

pub prove_is_plain : (flag : Option Text) → (prove flag).top.is_plain ≡ true
prove_is_plain None = refl
prove_is_plain (Some f) = refl

pub run_is_plain : (flag : Option Text) → (run flag).top.is_plain ≡ true
run_is_plain None = refl
run_is_plain (Some f) = refl
