use Rattle.std.proofs.Common.{◌≡◌, ◌∙◌, ◌-◌, List, ℕ, length, drop, sym, ap, subst}
use Rattle.containers.specs.CheckedItems.{checked_of, fields_of}
use Rattle.containers.specs.Rest.{rest_of}
use Rattle.parallel_reading.specs.within.Texts.{StandsBefore}
use Rattle.parallel_reading.proofs.Front.{still, still_stands}
use Rattle.parallel_reading.proofs.reading.read_behind.Goals as goal

pub returns-clause-on : goal.returns-clause-on
returns-clause-on g c =
    let reads = checked_of c.args.checkers.now.directory.now in
    let bytes = c.args.bytes.now in
    let text = c.in_ok-text.text.now in
    let rest = c.read_some.new.reader in
    let behind : c.new-reader.result ≡ drop c.args.last bytes = c.new-reader.ensures ∙ c.split_at.ensures.back in
    let stands : StandsBefore text rest bytes = still_stands c.args.last text rest bytes (subst (StandsBefore text rest) behind c.in_ok-text.ensures.stands) in
    let items = fields_of c.args.items.now.items in
    ap (λ (t : List ℕ). rest_of reads c.args.left t items (drop c.args.last bytes)) (sym c.split_at.ensures.front)
    ∙ ap (λ (b : List ℕ). rest_of reads c.args.left c.split_at.result.0.now items b) (sym behind)
    ∙ c.in_ok-text.ensures.on
    ∙ still reads c.in_ok-text.left (fields_of c.read_some.new.items.items) text rest bytes stands (length bytes - c.left.result - length text) (ap (λ (n : ℕ). length bytes - n - length text) c.left.ensures)
