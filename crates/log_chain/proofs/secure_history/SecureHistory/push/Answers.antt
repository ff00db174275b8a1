use Rattle.std.proofs.Common.{◌++◌, ◌∷◌, ℕ, List, [], ap, ◌∙◌, sym, arith}
use Rattle.log_chain.specs.Chain.{chain_end, entry_hash, hashes}
use Rattle.log_chain.specs.History.{History, append_fault}
use Rattle.log_chain.proofs.Chains.{chain_end-append, hashes-append}
use Rattle.log_chain.proofs.Finds.{allowed_above}
use Rattle.log_chain.proofs.Rises.{Rising-push}
use Rattle.log_chain.proofs.secure_history.SecureHistory.push.Goals as goal

pub invariant_of-self : goal.invariant_of-self
invariant_of-self c =
    let inside = c.self.inside in
    let es = inside.entries.items in
    let e = c.args.entry in
    let room = ap (λ (h : History). h.room) c.self.view_is in
    let allowed = ap (λ (h : History). append_fault h.entries e) c.self.view_is ∙ c.requires.allowed in
    let end_is = c.end.ensures ∙ sym (ap (λ (h : History). chain_end h.prev h.entries) c.self.view_is) in
    let hash_is = c.entry_hash-hash.ensures ∙ ap (λ (p : List ℕ). entry_hash p e) end_is in
    record {
      rising = rw c.push_reserved.ensures.items (Rising-push es e c.self.invariant.rising (allowed_above es e allowed));
      kept = c.push_reserved-2.ensures.items ∙ ap (λ (hs : List (List ℕ)). hs ++ c.entry_hash-hash.result ∷ []) c.self.invariant.kept ∙ ap (λ (x : List ℕ). hashes inside.prev es ++ x ∷ []) hash_is ∙ sym (hashes-append inside.prev es (e ∷ [])) ∙ ap (hashes inside.prev) (sym c.push_reserved.ensures.items);
      entries_room = omega (arith, room, c.self.invariant.entries_room, c.push_reserved.ensures.len, c.push_reserved.ensures.capacity, c.requires.room);
      hashes_room = omega (arith, room, c.self.invariant.hashes_room, c.push_reserved-2.ensures.len, c.push_reserved-2.ensures.capacity, c.requires.room);
    }

pub returns-clause-hash : goal.returns-clause-hash
returns-clause-hash c =
    let inside = c.self.inside in
    let es = inside.entries.items in
    let e = c.args.entry in
    let end_is = c.end.ensures ∙ sym (ap (λ (h : History). chain_end h.prev h.entries) c.self.view_is) in
    c.entry_hash-hash.ensures ∙ ap (λ (p : List ℕ). entry_hash p e) end_is ∙ sym (chain_end-append inside.prev es (e ∷ [])) ∙ ap (chain_end inside.prev) (sym c.push_reserved.ensures.items)
