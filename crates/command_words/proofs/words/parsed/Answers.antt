use Rattle.std.proofs.Common.{◌≡◌, ◌∙◌, ap, rules, subst, sym, List, Option}
use Rattle.clap.specs.Words.{App, HasKind, Kinds, Text, fault_of, is_simple_and_free}
use Rattle.clap.specs.declared.error.Error.{Error}
use Rattle.command_words.specs.CommandLine.{program_of, word_faults}
use Rattle.command_words.proofs.FoundWords.{asked, flag_here, named_here}
use Rattle.command_words.proofs.words.parsed.Goals as goal

of_program : (name : Text) (flag : Option Text) (a : App) (words : List Text) → a ≡ program_of name flag → fault_of a words ≡ word_faults name flag words
unfolding word_faults
of_program name flag a words is = ap (λ (a : App). fault_of a words) is

told : (name : Text) (flag : Option Text) (a : App) (words : List Text) (e : Error) → a ≡ program_of name flag → HasKind (fault_of a words) e → HasKind (word_faults name flag words) e
told name flag a words e is h = subst (λ (ks : Kinds). HasKind ks e) (of_program name flag a words is) h

-- ---- refused words

pub returns-in_err-matches-clause-faults : goal.returns-in_err-matches-clause-faults
returns-in_err-matches-clause-faults c =
    let is = c.in_ok-command.ensures in
    let kinds = told _ _ _ _ c.in_err-matches.field-0.0 is (c.in_err-matches.ensures.kinds (ap is_simple_and_free is ∙ c.requires.simple)) in
    search rules

-- ---- words that ask for nothing

pub returns-in_default-task_of-clause-faults : goal.returns-in_default-task_of-clause-faults
returns-in_default-task_of-clause-faults c =
    let is = c.in_ok-command.ensures in
    sym (of_program _ _ _ _ is) ∙ c.in_ok-matches.ensures.kinds (ap is_simple_and_free is ∙ c.requires.simple)

pub returns-in_default-task_of-clause-found : goal.returns-in_default-task_of-clause-found
returns-in_default-task_of-clause-found c = λ t asks.
    let none = c.in_default-task_of.ensures.only t (named_here _ _ _ _ c.in_ok-matches.matches _ _ c.in_ok-command.ensures c.requires.simple c.in_ok-matches.ensures.matches c.in-Some.ensures.name c.in-Some.ensures.rows t asks) in
    absurd cc

-- ---- words that ask for a task

pub returns-clause-faults : goal.returns-clause-faults
returns-clause-faults c =
    let is = c.in_ok-command.ensures in
    sym (of_program _ _ _ _ is) ∙ c.in_ok-matches.ensures.kinds (ap is_simple_and_free is ∙ c.requires.simple)

pub returns-clause-task : goal.returns-clause-task
returns-clause-task c =
    asked _ _ _ _ c.in_ok-matches.matches _ _ c.in_ok-command.ensures c.requires.simple c.in_ok-matches.ensures.matches c.in-Some.ensures.name c.in-Some.ensures.rows c.in-Some-task_of.task c.in-Some-task_of.ensures.named

pub returns-clause-flagged : goal.returns-clause-flagged
returns-clause-flagged c = λ e.
    let here = flag_here _ _ _ _ c.in_ok-matches.matches _ _ c.in_ok-command.ensures c.requires.simple c.in_ok-matches.ensures.matches c.in-Some.ensures.name c.in-Some.ensures.rows in
    c.is_flagged-flagged.ensures.on (sym here ∙ e)

pub returns-clause-plain : goal.returns-clause-plain
returns-clause-plain c = λ e.
    let here = flag_here _ _ _ _ c.in_ok-matches.matches _ _ c.in_ok-command.ensures c.requires.simple c.in_ok-matches.ensures.matches c.in-Some.ensures.name c.in-Some.ensures.rows in
    c.is_flagged-flagged.ensures.off (sym here ∙ e)
