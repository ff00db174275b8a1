use Rattle.std.proofs.Common.{rules, ◌≡◌, length, [], ◌∷◌, refl, ap, ◌∙◌, replicate}
use Rattle.log_chain.proofs.Chains.{four_pieces}
use Rattle.log_chain.proofs.entry.hashed_text.Goals as goal

pub returns : goal.returns
returns c =
    let len_prev : length c.prev.inside.0 ≡ 32 = search rules in
    let len_seq : length c.to_be_bytes.result ≡ 8 = ap length c.to_be_bytes.ensures in
    let len_digest : length c.args.digest ≡ 32 = search rules in
    let len : length c.put-4.new.text ≡ 73 = search rules in
    let written = four_pieces (replicate 73 0) c.put.new.text c.put-2.new.text c.put-3.new.text c.put-4.new.text c.prev.inside.0 c.to_be_bytes.result (c.args.kind ∷ []) c.args.digest len_prev len_seq len_digest c.put.ensures c.put-2.ensures c.put-3.ensures c.put-4.ensures len in
    written ∙ rw (c.prev.view_is, c.to_be_bytes.ensures) refl
