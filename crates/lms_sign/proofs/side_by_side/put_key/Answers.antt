use Rattle.std.proofs.Common.{◌≡◌, ap, length, refl, rules, take, ◌∙◌}
use Rattle.std.proofs.lemmas.List.{take_rest}
use Rattle.sha2.specs.Sha256.{sha256}
use Rattle.lms_sign.proofs.side_by_side.put_key.Goals as goal

pub returns : goal.returns
returns c =
    let n : length c.chain_place.result ≡ 22 = search rules in
    let front : take 22 c.put.new.text ≡ c.chain_place.result = rw n at c.put.ensures.front in
    ap sha256 c.put_chain_ends.ensures ∙ rw (front, c.chain_place.ensures, c.with_checksum.ensures, c.u32_at-q.ensures, c.requires.digest, take_rest c.args.signed.now.signature.now 40) refl
