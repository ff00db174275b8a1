use Rattle.std.proofs.Common.{◌≡◌, ◌∙◌, List, ℕ, Ok, ap, subst}
use Rattle.outcome.specs.Bytes.{IsBytes}
use Rattle.containers.specs.CheckedItems.{checked_of, fields_of}
use Rattle.containers.specs.Container.{import_of}
use Rattle.evidence.specs.Exports.{magic_of}
use Rattle.parallel_reading.proofs.ImportedSets.{text_of_items}
use Rattle.parallel_reading.proofs.importing.items_of.Goals as goal

pub returns-clause-ascending : goal.returns-clause-ascending
returns-clause-ascending g c =
    let bytes = c.args.text.now in
    let magic : c.magic_of-magic.result ≡ magic_of bytes = c.magic_of-magic.ensures ∙ ap magic_of c.rest-bytes.ensures in
    let read : import_of (magic_of bytes) (checked_of c.args.directory.now) bytes ≡ Ok (fields_of c.in_ok-items.items.items) = subst (λ (t : List ℕ). import_of t (checked_of c.args.directory.now) bytes ≡ Ok (fields_of c.in_ok-items.items.items)) magic c.in_ok-items.ensures.items.read in
    (text_of_items c.sets_have_one_text.ensures c.args.directory.now (magic_of bytes) bytes c.in_ok-items.items.items (subst IsBytes c.rest-bytes.ensures c.bytes_fit.ensures) read).ascending

pub returns-clause-text : goal.returns-clause-text
returns-clause-text g c =
    let bytes = c.args.text.now in
    let magic : c.magic_of-magic.result ≡ magic_of bytes = c.magic_of-magic.ensures ∙ ap magic_of c.rest-bytes.ensures in
    let read : import_of (magic_of bytes) (checked_of c.args.directory.now) bytes ≡ Ok (fields_of c.in_ok-items.items.items) = subst (λ (t : List ℕ). import_of t (checked_of c.args.directory.now) bytes ≡ Ok (fields_of c.in_ok-items.items.items)) magic c.in_ok-items.ensures.items.read in
    (text_of_items c.sets_have_one_text.ensures c.args.directory.now (magic_of bytes) bytes c.in_ok-items.items.items (subst IsBytes c.rest-bytes.ensures c.bytes_fit.ensures) read).text
