use Rattle.std.proofs.Common.{◌≡◌, ◌∷◌, [], ap, refl, ◌∙◌}
use Rattle.item_forms.specs.declared.forms.Fields.TheVariants as form
use Rattle.item_forms.specs.Pieces.{Piece}
use Rattle.proofs.specs.ProofTexts.{items_of}
use Rattle.kept_evidence.proofs.Convicted.{denial_convicts, deviation_convicts, held_is_signed, two_convict}
use Rattle.kept_evidence.proofs.Exposures.{denial_exposes, deviation_exposes, two_expose, unexposed}
use Rattle.kept_evidence.proofs.Indicated.{hashes_are_there}
use Rattle.plain_store.proofs.convicting.proof.Goals as goal

pub exposure_of-requires-clause-hashes : goal.exposure_of-requires-clause-hashes
exposure_of-requires-clause-hashes g c = hashes_are_there c.args.directory.now g.P.Program.means c.args.kept.now c.requires.items

pub returns-in-None-clause-some : goal.returns-in-None-clause-some
returns-in-None-clause-some g c = (
  λ told. absurd cc,
  λ exposed. absurd (unexposed c.args.directory.now g.P.Program.means c.deviating_lists_do_not_conform.ensures c.args.kept.now c.args.held.now c.args.node c.requires c.in-None.ensures.none exposed),
)

-- ---- two statements

pub proof_of_two-requires-clause-one : goal.proof_of_two-requires-clause-one
proof_of_two-requires-clause-one g c =
    let two = rw c.in-Some-TwoHashes.field-0-is at c.in-Some-TwoHashes.ensures.some in
    held_is_signed c.args.directory.now c.valid_items_are_signed.ensures g.P.Program.means c.args.kept.now c.args.held.now c.requires c.in-Some-TwoHashes.one.now two.one

pub proof_of_two-requires-clause-other : goal.proof_of_two-requires-clause-other
proof_of_two-requires-clause-other g c =
    let two = rw c.in-Some-TwoHashes.field-0-is at c.in-Some-TwoHashes.ensures.some in
    held_is_signed c.args.directory.now c.valid_items_are_signed.ensures g.P.Program.means c.args.kept.now c.args.held.now c.requires c.in-Some-TwoHashes.other.now two.other

pub returns-in_ok-proof-in-Some-TwoHashes-clause-some : goal.returns-in_ok-proof-in-Some-TwoHashes-clause-some
returns-in_ok-proof-in-Some-TwoHashes-clause-some g c =
    let two = rw c.in-Some-TwoHashes.field-0-is at c.in-Some-TwoHashes.ensures.some in
    (λ told. two_expose c.args.directory.now g.P.Program.means c.deviating_lists_do_not_conform.ensures c.args.kept.now c.args.held.now c.args.node c.requires c.in-Some-TwoHashes.one.now c.in-Some-TwoHashes.other.now two, λ exposed. refl)

pub returns-in_ok-proof-in-Some-TwoHashes-clause-convicts : goal.returns-in_ok-proof-in-Some-TwoHashes-clause-convicts
returns-in_ok-proof-in-Some-TwoHashes-clause-convicts g c =
    let two = rw c.in-Some-TwoHashes.field-0-is at c.in-Some-TwoHashes.ensures.some in
    two_convict c.args.directory.now g.P.Program.means c.args.node c.deviating_lists_do_not_conform.ensures c.valid_items_are_signed.ensures c.args.kept.now c.args.held.now c.requires
    c.in_ok-proof-in-Some-TwoHashes.proof.parts c.in-Some-TwoHashes.one.now c.in-Some-TwoHashes.other.now c.in_ok-proof-in-Some-TwoHashes.ensures two

-- ---- a statement and a segment

pub proof_of_denial-requires-clause-statement : goal.proof_of_denial-requires-clause-statement
proof_of_denial-requires-clause-statement g c =
    let denial = rw c.in-Some-Denied.field-0-is at c.in-Some-Denied.ensures.some in
    held_is_signed c.args.directory.now c.valid_items_are_signed.ensures g.P.Program.means c.args.kept.now c.args.held.now c.requires c.in-Some-Denied.denial.statement.now denial.statement

pub returns-in_ok-proof-in-Some-Denied-clause-some : goal.returns-in_ok-proof-in-Some-Denied-clause-some
returns-in_ok-proof-in-Some-Denied-clause-some g c =
    let denial = rw c.in-Some-Denied.field-0-is at c.in-Some-Denied.ensures.some in
    (λ told. denial_exposes c.args.directory.now g.P.Program.means c.deviating_lists_do_not_conform.ensures c.args.kept.now c.args.held.now c.args.node c.requires c.in-Some-Denied.denial.statement.now c.in-Some-Denied.denial.segment.now denial, λ exposed. refl)

pub returns-in_ok-proof-in-Some-Denied-clause-convicts : goal.returns-in_ok-proof-in-Some-Denied-clause-convicts
returns-in_ok-proof-in-Some-Denied-clause-convicts g c =
    let denial = rw c.in-Some-Denied.field-0-is at c.in-Some-Denied.ensures.some in
    let d = c.in-Some-Denied.denial in
    let items : items_of c.in_ok-proof-in-Some-Denied.proof.parts ≡ form.Auth d.statement.now ∷ d.segment.now.item.fields ∷ [] = c.in_ok-proof-in-Some-Denied.ensures ∙ ap (λ (x : Piece). form.Auth d.statement.now ∷ x.fields ∷ []) c.item.ensures in
    denial_convicts c.args.directory.now g.P.Program.means c.args.node c.deviating_lists_do_not_conform.ensures c.valid_items_are_signed.ensures c.args.kept.now c.args.held.now c.requires
    c.in_ok-proof-in-Some-Denied.proof.parts d.statement.now d.segment.now items denial

-- ---- a segment

pub returns-in_ok-proof-in-Some-Deviates-clause-some : goal.returns-in_ok-proof-in-Some-Deviates-clause-some
returns-in_ok-proof-in-Some-Deviates-clause-some g c =
    let deviation = rw c.in-Some-Deviates.field-0-is at c.in-Some-Deviates.ensures.some in
    (λ told. deviation_exposes c.args.directory.now g.P.Program.means c.deviating_lists_do_not_conform.ensures c.args.kept.now c.args.held.now c.args.node c.requires c.in-Some-Deviates.segment.now deviation, λ exposed. refl)

pub returns-in_ok-proof-in-Some-Deviates-clause-convicts : goal.returns-in_ok-proof-in-Some-Deviates-clause-convicts
returns-in_ok-proof-in-Some-Deviates-clause-convicts g c =
    let deviation = rw c.in-Some-Deviates.field-0-is at c.in-Some-Deviates.ensures.some in
    let items : items_of c.in_ok-proof-in-Some-Deviates.proof.parts ≡ c.in-Some-Deviates.segment.now.item.fields ∷ [] = c.in_ok-proof-in-Some-Deviates.ensures ∙ ap (λ (x : Piece). x.fields ∷ []) c.item-in-Some-Deviates.ensures in
    deviation_convicts c.args.directory.now g.P.Program.means c.args.node c.deviating_lists_do_not_conform.ensures c.valid_items_are_signed.ensures c.args.kept.now c.args.held.now c.requires
    c.in_ok-proof-in-Some-Deviates.proof.parts c.in-Some-Deviates.segment.now items deviation
