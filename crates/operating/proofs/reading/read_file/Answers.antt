use Rattle.std.proofs.Common.{List, ℕ, Option, subst}
use Rattle.std.specs.Prelude.{IfErr, IfOk}
use Rattle.commands.specs.Devices.{IsAllOf, IsReadFault}
use Rattle.operating.proofs.Blames.{read_blames, read_quiet}
use Rattle.operating.proofs.reading.read_file.Goals as goal

pub returns-clause-all : goal.returns-clause-all
returns-clause-all g c = subst (λ (o : Option (List ℕ)). IfOk c.read_input-bytes.result (λ v. IsAllOf o v.items)) c.in-Ok.ensures.whole c.read_input-bytes.ensures.all

pub returns-clause-refused : goal.returns-clause-refused
returns-clause-refused g c = subst (λ (o : Option (List ℕ)). IfErr c.read_input-bytes.result (λ f. IsReadFault f c.args.limits.most_bytes o)) c.in-Ok.ensures.whole c.read_input-bytes.ensures.refused

pub returns-clause-blamed : goal.returns-clause-blamed
returns-clause-blamed g c =
    let (reads, ends, failures) = c.in-Ok.ensures.fresh in
    read_blames c.read_input-bytes.result c.args.limits.most_bytes (g.O.Reader.Source.seen c.in-Ok.reader).left (g.O.Reader.Source.seen c.in-Ok.reader) (g.O.Reader.Source.seen c.read_input-bytes.new.reader)
    (g.O.Opener.seen c.args.opener.now) (g.O.Opener.seen c.open.new.self) (g.O.Opener.seen c.close.new.self) reads ends failures c.read_input-bytes.ensures.refused c.read_input-bytes.ensures.failed c.in-Ok.ensures.quiet c.close.ensures.failed

pub returns-clause-quiet : goal.returns-clause-quiet
returns-clause-quiet g c =
    let (reads, ends, failures) = c.in-Ok.ensures.fresh in
    read_quiet c.read_input-bytes.result (g.O.Reader.Source.seen c.in-Ok.reader) (g.O.Reader.Source.seen c.read_input-bytes.new.reader)
    (g.O.Opener.seen c.args.opener.now) (g.O.Opener.seen c.open.new.self) (g.O.Opener.seen c.close.new.self) ends failures c.read_input-bytes.ensures.ended c.read_input-bytes.ensures.quiet c.in-Ok.ensures.quiet c.close.ensures.quiet
