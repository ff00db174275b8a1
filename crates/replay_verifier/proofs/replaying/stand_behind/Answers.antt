use Rattle.std.proofs.Common.{ap, ◌∙◌, subst}
use Rattle.replay_verifier.specs.declared.verdict.Verdict.TheVariants as verdict
use Rattle.replay_verifier.specs.Conforming.{setting_of}
use Rattle.replay_verifier.specs.Deviation.{IsVerdict}
use Rattle.replay_verifier.specs.within.Courses.{ended, position_of}
use Rattle.replay_verifier.proofs.Judging.{bytes_each}
use Rattle.replay_verifier.proofs.OnePlace.{not_both}
use Rattle.replay_verifier.proofs.States.{IsSound}
use Rattle.replay_verifier.proofs.Standings.{conforms_told, nowhere, stands}
use Rattle.replay_verifier.proofs.replaying.stand_behind.Goals as goal

pub returns-in_default : goal.returns-in_default
returns-in_default g c =
    nowhere g.P.Program.is_state (setting_of c.args.directory.now c.args.me g.P.Program.means) (record { me = c.node_fits.ensures; lawful = g.met.P.Program.lawful }) c.args.prev
    c.args.entries.now c.in_ok-course.course (bytes_each c.args.entries.now c.are_bytes.ensures) c.in_ok-course.ensures.verdict c.in_ok-course.ensures.position c.in_default.not-Stands

pub returns-in-Conforms : goal.returns-in-Conforms
returns-in-Conforms g c =
    let z = setting_of c.args.directory.now c.args.me g.P.Program.means in
    let sound : IsSound g.P.Program.is_state z = record { me = c.node_fits.ensures; lawful = g.met.P.Program.lawful } in
    let log = c.args.entries.now in
    let right = conforms_told g.P.Program.is_state z sound c.args.prev log c.in_ok-with_repeats.field-0 (bytes_each log c.are_bytes.ensures)
    (c.in_ok-course.ensures.verdict ∙ ap ended c.in-Stands.is) c.in_ok-with_repeats.ensures in
    stands g.P.Program.is_state z sound c.args.prev log c.in-Stands.standing c.into_stand.ensures.0 c.into_stand.result
    (subst (IsVerdict z c.args.prev log) c.in-Conforms.is right) (c.in_ok-course.ensures.position ∙ ap position_of c.in-Stands.is) c.into_stand.ensures.1

pub returns-in-Deviates : goal.returns-in-Deviates
returns-in-Deviates g c = λ h.
    let z = setting_of c.args.directory.now c.args.me g.P.Program.means in
    let sound : IsSound g.P.Program.is_state z = record { me = c.node_fits.ensures; lawful = g.met.P.Program.lawful } in
    let log = c.args.entries.now in
    let right = conforms_told g.P.Program.is_state z sound c.args.prev log c.in_ok-with_repeats.field-0 (bytes_each log c.are_bytes.ensures)
    (c.in_ok-course.ensures.verdict ∙ ap ended c.in-Stands.is) c.in_ok-with_repeats.ensures in
    absurd (not_both z c.args.prev log c.in-Deviates.at c.in-Deviates.reason (subst (IsVerdict z c.args.prev log) c.in-Deviates.is right) h)
