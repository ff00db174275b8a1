use Rattle.std.proofs.Common.{◌∙◌, ap}
use Rattle.sha2.specs.Sha256.{sha256}
use Rattle.bulwynef.proofs.explaining_files.stores.basis_of_one.Goals as goal

pub returns : goal.returns
returns g c =
    let basis = c.in_ok-basis.ensures in (
      c.in_ok-text.ensures.length,
      record {
        program = basis.program;
        directory = basis.directory ∙ ap sha256 c.deref.ensures.value;
        input = basis.input;
        evidence = basis.evidence ∙ ap sha256 (c.deref-2.ensures.value ∙ c.in_ok-text.ensures.text);
      },
    )
