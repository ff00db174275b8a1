use Rattle.std.proofs.Common.{ℕ, ◌-◌, List, length, get_or, take, ap, ◌∙◌, arith}
use Rattle.log_chain.specs.Chain.{chain_end}
use Rattle.log_chain.specs.History.{History}
use Rattle.log_chain.proofs.Chains.{length-hashes}
use Rattle.log_chain.proofs.Rises.{kept_hash}
use Rattle.log_chain.proofs.secure_history.SecureHistory.hash_before.Goals as goal

pub index-requires : goal.index-requires
index-requires c =
    let same = ap (λ (h : History). h.entries) c.self.view_is in
    let count = ap length c.self.invariant.kept ∙ length-hashes c.self.inside.prev c.self.inside.entries.items ∙ ap length same in
    omega (arith, count)

pub returns : goal.returns
returns c =
    let place = c.args.place in
    let hash = c.index.result.now in
    let same = ap (λ (h : History). length h.entries) c.self.view_is in
    c.index.ensures
    ∙ ap (λ (hs : List (List ℕ)). get_or hs (place - 1) hash) c.self.invariant.kept
    ∙ kept_hash c.self.inside.prev c.self.inside.entries.items place hash c.if-place-eq0.false (omega (arith, same))
    ∙ ap (λ (h : History). chain_end h.prev (take place h.entries)) c.self.view_is
