use Rattle.std.proofs.Common.{◌≡◌, ◌∙◌, ℕ, List, inr, refl, ap, subst}
use Rattle.std.proofs.lemmas.Result.{err_from_is_err_and}
use Rattle.std.specs.Io.KnownBytes.{Appends}
use Rattle.item_forms.specs.Pieces.{Piece}
use Rattle.evidence_set.specs.ItemSets.{insert_all, none}
use Rattle.shards.specs.Parts.{Parted, parts_of}
use Rattle.operating.specs.Dealt.{AreFiled, LeavesParts, part_lines}
use Rattle.operating.proofs.Filing.{left_whole}
use Rattle.operating.proofs.split.run.Goals as goal

pub returns-clause-done : goal.returns-clause-done
returns-clause-done g c =
    let dealt : List Piece → Parted = λ items. record { dealing = c.args.splitting.now.dealing; items = items } in
    let same : c.in-Ok.parting ≡ dealt c.in_ok-items.items.items = c.in-Ok.ensures.parted ∙ ap dealt c.deref.ensures.value in
    let filed = subst (λ (p : Parted). AreFiled p.dealing (insert_all none p.items) (parts_of p.dealing) (g.F.PartFiles.seen c.args.parts.now) (g.F.PartFiles.seen c.write_parts.new.parts)) same c.in_ok-lines.ensures.written in
    let lines = c.deref-2.ensures.value ∙ c.in_ok-lines.ensures.lines ∙ ap (λ (p : Parted). part_lines p.dealing (insert_all none p.items) (parts_of p.dealing)) same in
    let appended = subst (λ (t : List ℕ). Appends (g.W.Sink.seen c.args.writer.now).written (g.W.Sink.seen c.write.new.writer).written t) lines c.in_ok-write.ensures.written in
    (insert_all none c.in_ok-items.items.items, c.in_ok-items.ensures.items, filed, appended, refl)

pub returns-in_err-lines-clause-left : goal.returns-in_err-lines-clause-left
returns-in_err-lines-clause-left g c =
    let p = err_from_is_err_and c.from_residual-in_err-lines.result c.from_residual-in_err-lines.ensures.1 in
    let dealt : List Piece → Parted = λ items. record { dealing = c.args.splitting.now.dealing; items = items } in
    let same : c.in-Ok.parting ≡ dealt c.in_ok-items.items.items = c.in-Ok.ensures.parted ∙ ap dealt c.deref.ensures.value in
    let left = subst (λ (p : Parted). LeavesParts p.dealing (insert_all none p.items) c.in_err-lines.field-0.0.fault (g.F.PartFiles.seen c.args.parts.now) (g.F.PartFiles.seen c.write_parts.new.parts)) same c.in_err-lines.ensures.left in
    rw (p.1, p.2) (inr (insert_all none c.in_ok-items.items.items, c.in_ok-items.ensures.items, left))

pub returns-in_err-write-clause-left : goal.returns-in_err-write-clause-left
returns-in_err-write-clause-left g c =
    let p = err_from_is_err_and c.from_residual-in_err-write.result c.from_residual-in_err-write.ensures.1 in
    let dealt : List Piece → Parted = λ items. record { dealing = c.args.splitting.now.dealing; items = items } in
    let same : c.in-Ok.parting ≡ dealt c.in_ok-items.items.items = c.in-Ok.ensures.parted ∙ ap dealt c.deref.ensures.value in
    let filed = left_whole c.in-Ok.parting.dealing (insert_all none c.in-Ok.parting.items) (parts_of c.in-Ok.parting.dealing) (g.F.PartFiles.seen c.args.parts.now) (g.F.PartFiles.seen c.write_parts.new.parts) c.in_err-write.field-0.0.fault c.in_ok-lines.ensures.written c.write_parts.ensures.others in
    let left = subst (λ (p : Parted). LeavesParts p.dealing (insert_all none p.items) c.in_err-write.field-0.0.fault (g.F.PartFiles.seen c.args.parts.now) (g.F.PartFiles.seen c.write_parts.new.parts)) same filed in
    rw (p.1, p.2) (inr (insert_all none c.in_ok-items.items.items, c.in_ok-items.ensures.items, left))
