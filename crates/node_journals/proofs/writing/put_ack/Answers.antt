use Rattle.std.proofs.Common.{◌≡◌, ℕ, List, ◌++◌, ◌∙◌, ap, subst}
use Rattle.log_chain.specs.Fields.{bytes_text}
use Rattle.messages.specs.declared.message.Ack.{Ack}
use Rattle.item_forms.proofs.Written.{two_texts}
use Rattle.node_journals.specs.Records.{ack_text}
use Rattle.node_journals.proofs.writing.put_ack.Goals as goal

pub returns : goal.returns
returns c =
    let old = c.args.writer.now in
    let send = two_texts old _ _ _ _ c.in_ok-u32.ensures c.in_ok-u64.ensures in
    let number = two_texts old _ _ _ _ send c.in_ok-u64-2.ensures in
    let prev = two_texts old _ _ _ _ number c.in_ok-hash.ensures in
    let sig = c.in_ok-bytes.ensures ∙ ap (λ (t : List ℕ). c.hash.new.self ++ bytes_text t) c.as_slice.ensures in
    subst (λ (x : Ack). c.bytes.new.self ≡ old ++ ack_text x) c.ack.view_is (two_texts old _ _ _ _ prev sig)
