use Rattle.std.proofs.Common.{◌≡◌, List, ℕ, sym, subst, ◌∙◌}
use Rattle.outcome.proofs.Steps.{Ok-inj}
use Rattle.containers.specs.declared.fault.ImportFault.{ImportFault}
use Rattle.evidence.specs.Exports.{magic_of, set_text}
use Rattle.commands.proofs.importing.import.Goals as goal

pub returns-clause-joined : goal.returns-clause-joined
returns-clause-joined g c text h =
    let (t, added, fed, is, joined) = c.in_ok-new.ensures.joined in
    let same : t ≡ text = Ok-inj {E = ImportFault} t text (sym fed ∙ c.in_ok-feed_line.ensures.fed text h) in
    (added, subst (λ (t : List ℕ). t ≡ set_text (magic_of t) added) same is, joined)
