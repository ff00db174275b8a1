use Rattle.replay_verifier.proofs.StandLaws.{stand, stands_conform, stands_leave, stands_one}
use Rattle.replay_verifier.proofs.laws.conforming_lists_stand.Goals as goal

pub returns : goal.returns
returns g c = record {
  stand = λ z prev log n h. stand z prev log n h;
  conforms = λ z prev log y r. stands_conform z prev log y r;
  one = λ z prev log x y a b. stands_one z prev log x y a b;
  position = λ z prev log y r. stands_leave z prev log y r;
}
