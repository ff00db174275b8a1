-- The words of the command line of a program with the five commands. They are the program's command in clap's terms, what clap refuses of
-- the words, and what the words ask for. A program may have a flag of its own, with which its nodes run another program.
use Rattle.std.specs.Prelude.{◌≡◌, ℕ, true, codes, pos, List, [], ◌∷◌, Option, Some, None, Ok, fold, option_and_then, option_map}
use Rattle.std.specs.Str.Parse.{ParsesUnsigned}
use Rattle.clap.specs.Simple.{on_top}
use Rattle.clap.specs.Words.{App, Kinds, Row, Rule, Text, fault_of, new_app, new_rule, one_of, subcommand_of, with_rule, with_subcommand}
use Rattle.clap.specs.declared.builder.ArgAction.TheVariants.{SetTrue}
use Rattle.clap.specs.declared.builder.ValueParser.TheVariants.{Signed}
use Rattle.parallel_checking.specs.declared.limits.TheConstants.{MOST_WORKERS}
use Rattle.commands.specs.declared.task.Task.{Task}
use Rattle.commands.specs.declared.task.Task.TheVariants.{Check, Merge, Prove, Run, Status}
use Rattle.command_words.specs.declared.words.Flag.{Flag}

-- The name of a program's flag, if it has one.
abbrev pub flag_name : Option Flag → Option Text
flag_name flag = option_map (λ (f : Flag). f.name.now) flag

-- A flag of this name.
abbrev pub flag_rule : Text → Rule
flag_rule name = record (new_rule name) { long = Some name; action = Some SetTrue }

-- The command with the flag, if the program has one.
abbrev pub with_flag : Option Text → App → App
with_flag None command = command
with_flag (Some name) command = with_rule command (flag_rule name)

-- The argument NODE, a number of 32 bits.
abbrev pub node : Rule
node = record (new_rule (codes "NODE")) { parser = Some (Signed (pos 0) (pos 4294967295)); required = true }

-- The option `--workers N`, a number from 1 to `MOST_WORKERS`. It is 1 if the option is not given.
abbrev pub workers : Rule
workers =
    record (new_rule (codes "workers")) { long = Some (codes "workers"); value_names = 1; parser = Some (Signed (pos 1) (pos MOST_WORKERS)); defaults = codes "1" ∷ [] }

-- A command with the flag alone.
abbrev pub plain : Option Text → Text → App
plain flag name = with_flag flag (new_app name)

-- The command `prove`.
abbrev pub prove : Option Text → App
prove flag = with_flag flag (with_rule (new_app (codes "prove")) node)

-- The command `run`.
abbrev pub run : Option Text → App
run flag = with_flag flag (with_rule (new_app (codes "run")) workers)

-- The program of this name, which wants a command.
abbrev pub alone : Text → App
alone name = on_top (λ s. record s { subcommand_required = true; arg_required_else_help = true }) (new_app name)

-- The commands beneath it.
abbrev pub commands : Option Text → List App
commands flag = plain flag (codes "status") ∷ plain flag (codes "merge") ∷ prove flag ∷ plain flag (codes "check") ∷ run flag ∷ []

-- The program of this name, with this flag or none.
abbrev pub program_of : Text → Option Text → App
program_of name flag = fold (λ a command. with_subcommand a command.top) (alone name) (commands flag)

-- The kinds that the fault of the words may have. There are none if the words ask for a command.
unfoldable pub word_faults : Text → Option Text → List Text → Kinds
word_faults name flag words = fault_of (program_of name flag) words

-- ---- what they ask for

-- The command that clap finds in the words, and what it finds of the command's arguments.
unfoldable pub found_in : Text → Option Text → List Text → Option (Text × List Row)
found_in name flag words = subcommand_of (program_of name flag) words

-- The text is a number of 32 bits, in decimal digits.
abbrev pub IsNumber : Text → ℕ → Type 0
IsNumber text n = ParsesUnsigned {E = Unit {0}} 32 10 text (Ok n)

-- What is found of the argument is the text of this number.
abbrev pub HasNumber : Text → List Row → ℕ → Type 0
HasNumber id rows n = (text : Text) × (one_of id rows ≡ Some text) × IsNumber text n

-- A command of this name, with these arguments, is the task.
abbrev pub Names : Text → List Row → Task → Type 0
Names name rows Status = name ≡ codes "status"
Names name rows Merge = name ≡ codes "merge"
Names name rows (Prove n) = (name ≡ codes "prove") × HasNumber (codes "NODE") rows n
Names name rows Check = name ≡ codes "check"
Names name rows (Run n) = (name ≡ codes "run") × HasNumber (codes "workers") rows n

-- The words ask for the task.
abbrev pub AsksFor : Text → Option Text → List Text → Task → Type 0
AsksFor name flag words task = (command : Text) × (rows : List Row) × (found_in name flag words ≡ Some (command, rows)) × Names command rows task

-- What is found of the flag among a command's arguments. It is `true` if the flag is there, and else `false`, also if the program has no
-- flag.
abbrev pub flag_of : Option Text → List Row → Option Text
flag_of None rows = Some (codes "false")
flag_of (Some f) rows = one_of f rows

-- What is found of the flag in what clap finds in the words.
abbrev pub flag_in : Text → Option Text → List Text → Option Text
flag_in name flag words = option_and_then (λ p. flag_of flag p.1) (found_in name flag words)
