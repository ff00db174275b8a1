use Rattle.std.proofs.Common.{◌≡◌, ◌⊎◌, inl, inr, ℕ, List, Option, None, subst}
use Rattle.bundling.specs.Handing.{RefusesMaking}
use Rattle.operating.specs.FileTexts.{Says}
use Rattle.bulwynef.specs.Programs.{meaning_of, spelling_of}
use Rattle.bulwynef.proofs.handing.bundle_of.Goals as goal

pub returns-clause-refused : goal.returns-clause-refused
returns-clause-refused g c =
    let given = c.args.handing.now in
    let second = subst (λ (files : ℕ → Option (List ℕ)). Says c.args.limits.most_bytes None (files 1) c.in_ok-proof.proof.items) c.in_ok-directory.ensures.files c.in_ok-proof.ensures.said in
    let of_proof = subst (λ (proof : List ℕ). RefusesMaking (meaning_of given.name) (spelling_of given.name) c.deref.result.now proof given.more.now c.in-Err.fault) c.deref-2.ensures.value c.in-Err.ensures in
    let refuses = subst (λ (directory : List ℕ). RefusesMaking (meaning_of given.name) (spelling_of given.name) directory c.in_ok-proof.proof.items given.more.now c.in-Err.fault) c.deref.ensures.value of_proof in
    inr (inr (c.in_ok-directory.directory.items, c.in_ok-proof.proof.items, c.in-Err.fault, c.in_ok-directory.ensures.said, second, refuses, c.refusal_of.ensures))
