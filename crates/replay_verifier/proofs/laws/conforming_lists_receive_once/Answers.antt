use Rattle.replay_verifier.proofs.ComingOnce.{receives_once}
use Rattle.replay_verifier.proofs.laws.conforming_lists_receive_once.Goals as goal

pub returns : goal.returns
returns g c = λ z prev front between back d e p q h dk dr ek er from seq. receives_once front between back d e p q dk dr ek er from seq h.once
