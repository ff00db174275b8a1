use Rattle.std.proofs.Common.{◌≡◌, ℕ, List, None, Ok, Option, inl, inr, sym, subst}
use Rattle.std.proofs.lemmas.Result.{err_from_is_err_and}
use Rattle.commands.specs.declared.fault.Fault.{Fault}
use Rattle.proofs.specs.ProofTexts.{proof_of}
use Rattle.sentences.specs.declared.site.Input.TheVariants as kind
use Rattle.explaining.specs.Explained.{IsBasis}
use Rattle.operating.specs.ConvictingFiles.{RefusesProof, RefusesProofText}
use Rattle.operating.specs.FileTexts.{IsOfReading, IsUnsaid, Says}
use Rattle.operating.specs.GatheredFiles.{IsOfFile}
use Rattle.operating.proofs.Blames.{later_blames, own_blames}
use Rattle.bulwynef.proofs.explaining_files.proof.text_of_files.Goals as goal

pub returns-in_err-text-clause-refused : goal.returns-in_err-text-clause-refused
returns-in_err-text-clause-refused g c =
    let p = err_from_is_err_and c.from_residual-in_err-text.result c.from_residual-in_err-text.ensures.1 in
    let r = c.in_err-text.field-0.0 in
    let told = subst (λ (fs : ℕ → Option (List ℕ)). IsOfFile 1 r × IsUnsaid c.args.limits.most_bytes None (fs 1) r.fault) c.in_ok-read.ensures.files c.in_err-text.ensures.refused in
    rw (p.1, p.2) (inr (c.in_ok-read.read.directory, c.in_ok-read.ensures.said, told.0, inl told.1))

pub returns-in-Ok-clause-told : goal.returns-in-Ok-clause-told
returns-in-Ok-clause-told g c =
    let says = subst (λ (fs : ℕ → Option (List ℕ)). Says c.args.limits.most_bytes None (fs 1) c.in_ok-text.text.items) c.in_ok-read.ensures.files c.in_ok-text.ensures.said in
    let (node, x, b, is_proof, convicts, basis, explains) = c.in-Ok.ensures.told in
    let (first, directory) = c.in_ok-read.ensures.text in
    let own = c.in_ok-read.read.text.items in
    let proof = subst (λ (t : List ℕ). proof_of t ≡ Ok x) c.deref.ensures.value is_proof in
    let under = subst (λ (t : List ℕ). IsBasis c.args.explaining.now.followed.name.now own kind.Proof t b) c.deref.ensures.value basis in (
      record { directory = own; proof = c.in_ok-text.text.items; parts = x; node = node },
      record { listing = c.in_ok-read.read.directory; first = first; directory = directory; second = says; proof = proof; convicts = convicts },
      b,
      under,
      explains,
    )

pub returns-clause-refused : goal.returns-clause-refused
returns-clause-refused g c =
    let (told, file, item) = c.of_text.ensures in
    let says = subst (λ (fs : ℕ → Option (List ℕ)). Says c.args.limits.most_bytes None (fs 1) c.in_ok-text.text.items) c.in_ok-read.ensures.files c.in_ok-text.ensures.said in
    let refuses = subst (λ (t : List ℕ). RefusesProofText g.P.Program.means c.in_ok-read.read.directory t c.in-Err.fault) c.deref.ensures.value c.in-Err.ensures.told in
    inr (c.in_ok-read.read.directory, c.in_ok-read.ensures.said, (file, item), subst (λ (f : Fault). RefusesProof g.P.Program.means c.args.limits.most_bytes c.in_ok-read.read.directory ((g.O.Opener.seen c.args.opener.now).files 1) f) (sym told) (inr (c.in_ok-text.text.items, says, refuses)))

pub returns-in_err-text-clause-blamed : goal.returns-in_err-text-clause-blamed
returns-in_err-text-clause-blamed g c =
    let p = err_from_is_err_and c.from_residual-in_err-text.result c.from_residual-in_err-text.ensures.1 in
    rw (p.1, p.2) (later_blames (g.O.Opener.seen c.args.opener.now) (g.O.Opener.seen c.read_directory_file.new.opener) (g.O.Opener.seen c.read_said.new.opener) c.in_err-text.field-0.0.fault c.in_ok-read.ensures.quiet c.in_err-text.ensures.blamed)

pub returns-clause-blamed : goal.returns-clause-blamed
returns-clause-blamed g c =
    let (told, file, item) = c.of_text.ensures in
    let old = g.O.Opener.seen c.args.opener.now in
    let new = g.O.Opener.seen c.read_said.new.opener in
    subst (IsOfReading old new) (sym told) (own_blames old new c.in-Err.fault c.in-Err.ensures.own)
