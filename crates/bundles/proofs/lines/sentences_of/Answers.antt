use Rattle.std.proofs.Common.{arith}
use Rattle.bundles.proofs.Sentences.{one_more}
use Rattle.bundles.proofs.lines.sentences_of.Goals as goal

pub loop-more-preserved : goal.loop-more-preserved
loop-more-preserved c = record {
  found = one_more c.args.text.now c.loop-more.rest.now c.in-Some.more.now c.loop-more.count c.loop-more.invariant.found c.in-Some.ensures.sentence;
  within = omega (arith, c.loop-more.invariant.within, c.in-Some.ensures.shorter);
}
