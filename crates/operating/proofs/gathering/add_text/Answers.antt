use Rattle.std.proofs.Common.{◌≡◌, List, ℕ, sym, subst}
use Rattle.containers.specs.Refusals.{Refuses}
use Rattle.commands.specs.within.OwnFaults.{IsOwn}
use Rattle.commands.proofs.Refused.{cause_own}
use Rattle.evidence.specs.Exports.{magic_of, set_text}
use Rattle.evidence.specs.Importing.{import_set}
use Rattle.operating.proofs.Steps.{text_refused}
use Rattle.operating.proofs.gathering.add_text.Goals as goal

pub returns-in-Ok-clause-added : goal.returns-in-Ok-clause-added
returns-in-Ok-clause-added g c =
    let (added, is, joined) = c.in-Ok.ensures.joined in
    let text : c.args.text.items ≡ set_text (magic_of c.args.text.items) added = subst (λ (t : List ℕ). t ≡ set_text (magic_of t) added) c.new-left.ensures is in
    c.texts_are_added.ensures.adds (g.S.Evidence.contents c.args.store.now) (g.S.Evidence.contents c.import_by.new.store) c.args.text.items added text joined
    c.items_are_valid.ensures.valid c.items_are_valid.ensures.few

pub returns-clause-refused : goal.returns-clause-refused
returns-clause-refused g c =
    let (told, file, item) = c.of_reading.ensures in
    let directory = (g.S.Evidence.contents c.args.store.now).directory in
    let fault : Refuses c.in-Err.fault (import_set directory c.args.text.items) = subst (λ (t : List ℕ). Refuses c.in-Err.fault (import_set directory t)) c.new-left.ensures c.in-Err.ensures.fault in
    (file, text_refused directory c.args.text.items c.in-Err.fault c.of_reading.result told item fault)

pub returns-clause-own : goal.returns-clause-own
returns-clause-own g c =
    let (told, file, item) = c.of_reading.ensures in
    subst IsOwn (sym told) (cause_own c.in-Err.fault.cause)
