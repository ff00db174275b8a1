use Rattle.std.proofs.Common.{List, ℕ, Result, subst, sym}
use Rattle.std.specs.Prelude.{MatchResult}
use Rattle.judge.specs.Judging.{Exposes, Refuses}
use Rattle.judge.specs.Programs.{meaning_of}
use Rattle.judge.specs.declared.programs.Followed.{Followed}
use Rattle.judge.specs.declared.refusal.Refusal.{Refusal}
use Rattle.judge.proofs.programs.judge_by.Goals as goal

abbrev Judged : List ℕ → List ℕ → Result ℕ Refusal → Followed → Type 0
Judged directory proof result p = MatchResult result (Exposes (meaning_of p) directory proof) (Refuses (meaning_of p) directory proof)

pub returns-in-Tally : goal.returns-in-Tally
returns-in-Tally c = subst (Judged c.args.directory.now c.args.proof.now c.judge.result) (sym c.in-Tally.is) c.judge.ensures

pub returns-in-Relay : goal.returns-in-Relay
returns-in-Relay c = subst (Judged c.args.directory.now c.args.proof.now c.judge-in-Relay.result) (sym c.in-Relay.is) c.judge-in-Relay.ensures

pub returns-in-Mailbox : goal.returns-in-Mailbox
returns-in-Mailbox c = subst (Judged c.args.directory.now c.args.proof.now c.judge-in-Mailbox.result) (sym c.in-Mailbox.is) c.judge-in-Mailbox.ensures
