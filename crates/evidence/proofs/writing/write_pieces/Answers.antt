use Rattle.std.proofs.Common.{◌++◌, List, [], ℕ, length, refl, subst, ap, ◌∙◌}
use Rattle.std.specs.Int.{w64, to_be_bytes}
use Rattle.std.specs.Io.KnownBytes.{Appends}
use Rattle.std.specs.List.{flat_map}
use Rattle.log_chain.specs.Fields.{bytes_text}
use Rattle.item_forms.specs.Spelling.{spelling}
use Rattle.containers.proofs.ContainerTexts.{container_written}
use Rattle.evidence.proofs.Sent.{sent_all}
use Rattle.evidence.proofs.writing.write_pieces.Goals as goal

pub returns : goal.returns
returns g c =
    let spell : g.row.T.Denot → List ℕ = λ x. spelling (g.T.HasItem.piece x).fields in
    let items = c.args.items.now in
    let counted = c.args.magic ++ to_be_bytes w64 (length items) in
    let all = ap (λ (t : List ℕ). t ++ flat_map (λ x. bytes_text (spell x)) items) c.in_ok-front.ensures in
    subst (Appends (g.W.Write.contents c.args.writer.now) (g.W.Write.contents c.send.new.writer))
    (all ∙ container_written spell c.args.magic [] c.args.magic counted (counted ++ flat_map (λ x. bytes_text (spell x)) items) (length items) items refl refl refl refl refl)
    (sent_all _ (g.W.Write.contents c.add_each.new.writer) _ c.in_ok-last.last _ c.in_ok-last.ensures c.in_ok-send.ensures)
