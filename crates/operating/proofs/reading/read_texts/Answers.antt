use Rattle.std.proofs.Common.{rules, inl, inr, sym, subst}
use Rattle.commands.specs.declared.fault.Fault.{Fault}
use Rattle.operating.specs.FileTexts.{IsOfReading, IsUnsaidBy, texts_of}
use Rattle.operating.proofs.Blames.{texts_refused}
use Rattle.operating.proofs.reading.read_texts.Goals as goal

pub returns-in-Ok-texts_of-clause-said : goal.returns-in-Ok-texts_of-clause-said
returns-in-Ok-texts_of-clause-said g c = record { bytes = c.in-Ok.bytes.items; all = c.in-Ok.ensures.all; within = search rules; is = c.in-Ok-texts_of.ensures }

pub returns-in-Err-clause-refused : goal.returns-in-Err-clause-refused
returns-in-Err-clause-refused g c =
    let (told, file, item) = c.of_file.ensures in
    ((file, item), subst (λ (f : Fault). IsUnsaidBy c.args.limits.most_bytes texts_of ((g.O.Opener.seen c.args.opener.now).files c.args.file) f) (sym told) (inl c.in-Err.ensures.refused))

pub returns-in-Err-clause-blamed : goal.returns-in-Err-clause-blamed
returns-in-Err-clause-blamed g c =
    let (told, file, item) = c.of_file.ensures in
    subst (IsOfReading (g.O.Opener.seen c.args.opener.now) (g.O.Opener.seen c.read_file.new.opener)) (sym told) c.in-Err.ensures.blamed

pub returns-in-Err-texts_of-clause-refused : goal.returns-in-Err-texts_of-clause-refused
returns-in-Err-texts_of-clause-refused g c =
    let (told, file, item) = c.of_file-in-Err-texts_of.ensures in
    ((file, item), subst (λ (f : Fault). IsUnsaidBy c.args.limits.most_bytes texts_of ((g.O.Opener.seen c.args.opener.now).files c.args.file) f) (sym told) (inr (c.in-Ok.bytes.items, c.in-Ok.ensures.all, search rules, c.in-Err-texts_of.ensures)))

pub returns-in-Err-texts_of-clause-blamed : goal.returns-in-Err-texts_of-clause-blamed
returns-in-Err-texts_of-clause-blamed g c =
    let (told, file, item) = c.of_file-in-Err-texts_of.ensures in
    subst (IsOfReading (g.O.Opener.seen c.args.opener.now) (g.O.Opener.seen c.read_file.new.opener)) (sym told)
    (texts_refused (g.O.Opener.seen c.args.opener.now) (g.O.Opener.seen c.read_file.new.opener) c.in-Ok.bytes.items c.in-Err-texts_of.fault c.in-Err-texts_of.ensures)
