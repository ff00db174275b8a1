use Rattle.byte_calls.specs.Explanations.{sum_of}
use Rattle.byte_calls.proofs.Told.{written_under}
use Rattle.byte_calls.proofs.explaining.proof.Goals as goal

pub returns-clause-told : goal.returns-clause-told
returns-clause-told g c =
    let told = c.in_ok-conviction in
    record {
      presented = record { directory = c.in_ok-read.read; parts = c.in_ok-read.parts.parts };
      node = told.conviction.node;
      explanation = told.conviction.explanation;
      is = c.in_ok-read.ensures;
      convicts = told.ensures.told;
      written = written_under c.args.name.now c.sum_of.result (sum_of c.args.directory.now) c.in_ok-text.text.items told.conviction.explanation c.sum_of.ensures c.in_ok-text.ensures;
      explained = told.ensures.explanation;
    }
