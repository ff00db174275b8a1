use Rattle.std.proofs.Common.{◌≡◌, List, ℕ, Ok, subst}
use Rattle.containers.specs.CheckedItems.{checked_of, fields_of}
use Rattle.containers.specs.Container.{import_of}
use Rattle.evidence.specs.Exports.{magic_of}
use Rattle.evidence.proofs.Importing.{text_of_items}
use Rattle.evidence.proofs.set_text.items_of.Goals as goal

pub returns-clause-ascending : goal.returns-clause-ascending
returns-clause-ascending g c =
    let read : import_of (magic_of c.args.bytes.now) (checked_of c.args.directory.now) c.args.bytes.now ≡ Ok (fields_of c.in_ok-items.items.items) =
    subst (λ (t : List ℕ). import_of t (checked_of c.args.directory.now) c.args.bytes.now ≡ Ok (fields_of c.in_ok-items.items.items)) c.magic_of.ensures c.in_ok-items.ensures.items.read
    in
    (text_of_items c.sets_have_one_text.ensures c.args.directory.now (magic_of c.args.bytes.now) c.args.bytes.now c.in_ok-items.items.items c.bytes_fit.ensures read).ascending

pub returns-clause-text : goal.returns-clause-text
returns-clause-text g c =
    let read : import_of (magic_of c.args.bytes.now) (checked_of c.args.directory.now) c.args.bytes.now ≡ Ok (fields_of c.in_ok-items.items.items) =
    subst (λ (t : List ℕ). import_of t (checked_of c.args.directory.now) c.args.bytes.now ≡ Ok (fields_of c.in_ok-items.items.items)) c.magic_of.ensures c.in_ok-items.ensures.items.read
    in
    (text_of_items c.sets_have_one_text.ensures c.args.directory.now (magic_of c.args.bytes.now) c.args.bytes.now c.in_ok-items.items.items c.bytes_fit.ensures read).text
