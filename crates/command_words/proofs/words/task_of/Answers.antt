use Rattle.std.proofs.Common.{◌∙◌, codes}
use Rattle.clap.specs.Words.{found_of, rows_of}
use Rattle.clap.proofs.WalkLemmas.{one_text-rows}
use Rattle.command_words.proofs.Numbers.{named, no_number, only_number, proving, running}
use Rattle.command_words.proofs.words.task_of.Goals as goal

-- ---- `prove`

pub returns-in-Some-clause-named : goal.returns-in-Some-clause-named
returns-in-Some-clause-named c =
    let found = found_of c.args.options.now in
    let same = one_text-rows found (codes "NODE") in
    named _ _ _ proving c.args.name.now (rows_of found) c.in-prove.is c.in-Some.node (λ e. c.in-Some.ensures.none (same ∙ e)) (λ t e. (c.in-Some.ensures.value t (same ∙ e)).0)

pub returns-in-Some-clause-only : goal.returns-in-Some-clause-only
returns-in-Some-clause-only c =
    let found = found_of c.args.options.now in
    let same = one_text-rows found (codes "NODE") in
    only_number _ _ _ proving c.args.name.now (rows_of found) c.in-prove.is c.in-Some.node (λ t e. (c.in-Some.ensures.value t (same ∙ e)).0)

pub returns-in-None-clause-only : goal.returns-in-None-clause-only
returns-in-None-clause-only c =
    let found = found_of c.args.options.now in
    let same = one_text-rows found (codes "NODE") in
    no_number _ _ _ proving c.args.name.now (rows_of found) c.in-prove.is (λ t e. let read = c.in-None.ensures.value t (same ∙ e) in (read.0, read.1.0))

-- ---- `run`

pub returns-in-Some-get_one-clause-named : goal.returns-in-Some-get_one-clause-named
returns-in-Some-get_one-clause-named c =
    let found = found_of c.args.options.now in
    let same = one_text-rows found (codes "workers") in
    named _ _ _ running c.args.name.now (rows_of found) c.in-run.is c.in-Some-get_one.workers (λ e. c.in-Some-get_one.ensures.none (same ∙ e)) (λ t e. (c.in-Some-get_one.ensures.value t (same ∙ e)).0)

pub returns-in-Some-get_one-clause-only : goal.returns-in-Some-get_one-clause-only
returns-in-Some-get_one-clause-only c =
    let found = found_of c.args.options.now in
    let same = one_text-rows found (codes "workers") in
    only_number _ _ _ running c.args.name.now (rows_of found) c.in-run.is c.in-Some-get_one.workers (λ t e. (c.in-Some-get_one.ensures.value t (same ∙ e)).0)

pub returns-in-None-get_one-clause-only : goal.returns-in-None-get_one-clause-only
returns-in-None-get_one-clause-only c =
    let found = found_of c.args.options.now in
    let same = one_text-rows found (codes "workers") in
    no_number _ _ _ running c.args.name.now (rows_of found) c.in-run.is (λ t e. let read = c.in-None-get_one.ensures.value t (same ∙ e) in (read.0, read.1.0))
