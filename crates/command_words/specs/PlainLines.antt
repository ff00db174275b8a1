-- Plain lines: the program's name and a command, alone or with a flag.
use Rattle.std.specs.Prelude.{◌≡◌, ◌⊎◌, Bool, false, true, codes, List, [], ◌∷◌, Option, Some, None}
use Rattle.clap.specs.Words.{Text}
use Rattle.commands.specs.declared.task.Task.{Task}
use Rattle.commands.specs.declared.task.Task.TheVariants.{Check, Merge, Prove, Run, Status}
use Rattle.command_words.specs.CommandLine.{AsksFor, flag_in, word_faults}

-- A command that needs no other word. `run` has one worker then.
abbrev pub IsPlainName : Text → Task → Type 0
IsPlainName name Status = name ≡ codes "status"
IsPlainName name Merge = name ≡ codes "merge"
IsPlainName name (Prove n) = ⊥
IsPlainName name Check = name ≡ codes "check"
IsPlainName name (Run n) = (name ≡ codes "run") × (n ≡ 1)

-- The words are the program's name and such a command, alone or with the flag.
abbrev pub IsPlainLine : List Text → Task → Bool → Type 0
IsPlainLine words task flagged =
    (first : Text) × (name : Text) × IsPlainName name task × (((words ≡ first ∷ name ∷ []) × (flagged ≡ false)) ⊎ ((words ≡ first ∷ name ∷ codes "--relay" ∷ []) × (flagged ≡ true)))

-- What clap finds of a flag that is there, or that is not.
abbrev pub flag_text : Bool → Text
flag_text true = codes "true"
flag_text false = codes "false"

-- The words of a program of this name, with this flag or none, have no fault. They ask for the task, with the flag or without it.
pub record IsTaken (program : Text) (flag : Option Text) (words : List Text) (task : Task) (flagged : Bool) : Type 0 where
  pub faults : word_faults program flag words ≡ []
  pub asks : AsksFor program flag words task
  pub found : flag_in program flag words ≡ Some (flag_text flagged)

-- ---- laws, which `laws` proves

-- A program without a flag takes each plain line without one, whatever its name.
abbrev pub PlainLinesAreTaken : Type 0
PlainLinesAreTaken = (program : Text) (words : List Text) (task : Task) → IsPlainLine words task false → IsTaken program None words task false

-- A program with the flag `--relay` takes each plain line, whatever the program's name.
abbrev pub FlaggedLinesAreTaken : Type 0
FlaggedLinesAreTaken = (program : Text) (words : List Text) (task : Task) (flagged : Bool) → IsPlainLine words task flagged → IsTaken program (Some (codes "relay")) words task flagged
