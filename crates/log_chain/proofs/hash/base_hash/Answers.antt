use Rattle.std.proofs.Common.{refl}
use Rattle.sha2.specs.Sha256.{compress, digest_bytes, first_words, hash_after, rounds, schedule, sha256}
use Rattle.log_chain.proofs.hash.base_hash.Goals as goal

pub returns : goal.returns
unfolding first_words schedule rounds compress hash_after digest_bytes sha256
returns c = refl
