use Rattle.std.proofs.Common.{◌≡◌, ◌∙◌, ◌-◌, suc, List, ℕ, [], Result, length, sym, ap, subst, arith}
use Rattle.std.proofs.lemmas.List.{length-map}
use Rattle.std.proofs.lemmas.Result.{err_from_is_err_and}
use Rattle.item_forms.specs.declared.forms.Fields.{Fields}
use Rattle.evidence_item.specs.Checking.{Checked}
use Rattle.containers.specs.declared.fault.ImportFault.{ImportFault}
use Rattle.containers.specs.CheckedItems.{checked_of, fields_of}
use Rattle.containers.specs.Container.{import_of}
use Rattle.containers.specs.Refusals.{IsBehindFront, Refuses}
use Rattle.containers.specs.Rest.{ItemReader, rest_of}
use Rattle.parallel_reading.specs.within.Texts.{StandsBefore}
use Rattle.parallel_reading.proofs.Front.{further, inside, still}
use Rattle.parallel_reading.proofs.reading.read_front.Goals as goal

-- the whole, by what stands behind the header
whole : (magic bytes begun rest : List ℕ) (reads : ItemReader) (count : ℕ) → begun ≡ bytes → import_of magic reads begun ≡ rest_of reads count [] [] rest → count ≡ suc (count - 1) → import_of magic reads bytes ≡ rest_of reads (suc (count - 1)) [] [] rest
whole magic bytes begun rest reads count is counted some = ap (import_of magic reads) (sym is) ∙ counted ∙ ap (λ (m : ℕ). rest_of reads m [] [] rest) some

pub returns-in_err-text-clause-refused : goal.returns-in_err-text-clause-refused
returns-in_err-text-clause-refused g c =
    let p = err_from_is_err_and c.from_residual-in_err-text.result c.from_residual-in_err-text.ensures.1 in
    let reads = checked_of c.args.directory.now in
    let count : ℕ = c.in_ok-count.count in
    let no = c.if-count-eq0.false in
    let some : count ≡ suc (count - 1) = omega (arith, no) in
    let same = whole c.args.magic.now c.args.bytes.now c.new-reader.result c.read_count.new.reader reads count c.new-reader.ensures (c.in_ok-count.ensures.counted reads) some in
    rw (p.1, p.2) (subst (λ (r : Result (List Fields) ImportFault). Refuses c.in_err-text.field-0.0 r) (sym same) (c.in_err-text.ensures.refused (count - 1)))

pub returns-in_err-text-clause-memory : goal.returns-in_err-text-clause-memory
returns-in_err-text-clause-memory g c =
    let p = err_from_is_err_and c.from_residual-in_err-text.result c.from_residual-in_err-text.ensures.1 in
    let reads = checked_of c.args.directory.now in
    let count : ℕ = c.in_ok-count.count in
    let no = c.if-count-eq0.false in
    let some : count ≡ suc (count - 1) = omega (arith, no) in
    let same = whole c.args.magic.now c.args.bytes.now c.new-reader.result c.read_count.new.reader reads count c.new-reader.ensures (c.in_ok-count.ensures.counted reads) some in
    rw (p.1, p.2) (λ memory. subst (λ (r : Result (List Fields) ImportFault). IsBehindFront r) (sym same) (c.in_err-text.ensures.memory memory (count - 1)))

pub returns-clause-front : goal.returns-clause-front
returns-clause-front g c =
    let reads = checked_of c.args.directory.now in
    let bytes = c.args.bytes.now in
    let text = c.in_ok-text.text.now in
    let rest = c.read_first.new.reader in
    let count : ℕ = c.in_ok-count.count in
    let no = c.if-count-eq0.false in
    let some : count ≡ suc (count - 1) = omega (arith, no) in
    let same = whole c.args.magic.now bytes c.new-reader.result c.read_count.new.reader reads count c.new-reader.ensures (c.in_ok-count.ensures.counted reads) some in
    let stands : StandsBefore text rest bytes = further bytes c.in_ok-count.ensures.behind.0 c.read_count.new.reader text rest (sym c.new-reader.ensures ∙ c.in_ok-count.ensures.behind.1) c.in_ok-text.ensures.stands in
    let passed : length bytes - c.left.result - length text ≡ length bytes - length rest - length text = ap (λ (n : ℕ). length bytes - n - length text) c.left.ensures in
    record {
      inside = inside text rest bytes stands (length bytes - c.left.result - length text) passed;
      one = length-map c.read_first.new.items.items (λ (x : Checked). x.item.fields) ∙ c.in_ok-text.ensures.some;
      rest = same ∙ c.in_ok-text.ensures.on (count - 1) ∙ still reads (count - 1) (fields_of c.read_first.new.items.items) text rest bytes stands (length bytes - c.left.result - length text) passed;
    }
