use Rattle.std.proofs.Common.{◌≡◌, ◌∙◌, Bool, true, false, not, List, ℕ, Err, refl, sym, ap}
use Rattle.std.specs.Str.{bytes_eq}
use Rattle.std.specs.Int.{w64}
use Rattle.containers.proofs.Passed.{bytes_taken, left_left, number_taken}
use Rattle.containers.proofs.Rest.{counted, no_count, no_magic, other_magic}
use Rattle.containers.proofs.texts.read_count.Goals as goal

is_true : (b : Bool) → not b ≡ false → b ≡ true
is_true true e = refl
is_true false e = absurd cc

is_false : (b : Bool) → not b ≡ true → b ≡ false
is_false true e = absurd cc
is_false false e = refl

pub returns-in-Err-clause-refused : goal.returns-in-Err-clause-refused
returns-in-Err-clause-refused c = λ reads. no_magic c.args.magic.now c.args.reader.now c.in-Err.fault reads c.in-Err.ensures.reads.0 ∙ ap Err (sym c.field_fault.ensures)

pub returns-then-ne-clause-refused : goal.returns-then-ne-clause-refused
returns-then-ne-clause-refused c = λ reads.
    let front = c.in-Ok.front.now in
    let differ : bytes_eq front c.as_slice.result.now ≡ false = is_false _ (sym c.ne.ensures ∙ c.if-ne.true) in
    other_magic c.args.magic.now c.args.reader.now front c.take.new.self reads c.in-Ok.ensures.reads (ap (λ (t : List ℕ). bytes_eq front t) (sym c.as_slice.ensures) ∙ differ)

pub returns-in-Ok-u64-clause-counted : goal.returns-in-Ok-u64-clause-counted
returns-in-Ok-u64-clause-counted c = λ reads.
    let front = c.in-Ok.front.now in
    let same : bytes_eq front c.as_slice.result.now ≡ true = is_true _ (sym c.ne.ensures ∙ c.if-ne.false) in
    counted c.args.magic.now c.args.reader.now front c.take.new.self c.u64.new.self c.in-Ok-u64.count reads c.in-Ok.ensures.reads (ap (λ (t : List ℕ). bytes_eq front t) (sym c.as_slice.ensures) ∙ same) c.in-Ok-u64.ensures

pub returns-in-Err-u64-clause-refused : goal.returns-in-Err-u64-clause-refused
returns-in-Err-u64-clause-refused c = λ reads.
    let front = c.in-Ok.front.now in
    let same : bytes_eq front c.as_slice.result.now ≡ true = is_true _ (sym c.ne.ensures ∙ c.if-ne.false) in
    no_count c.args.magic.now c.args.reader.now front c.take.new.self c.in-Err-u64.fault reads c.in-Ok.ensures.reads (ap (λ (t : List ℕ). bytes_eq front t) (sym c.as_slice.ensures) ∙ same) c.in-Err-u64.ensures.0 ∙ ap Err (sym c.field_fault-in-Err-u64.ensures)

pub returns-in-Ok-u64-clause-behind : goal.returns-in-Ok-u64-clause-behind
returns-in-Ok-u64-clause-behind c = left_left c.take.new.self c.u64.new.self c.args.reader.now (bytes_taken 8 c.args.reader.now c.in-Ok.front.now c.take.new.self c.in-Ok.ensures.reads) (number_taken w64 c.take.new.self c.u64.new.self c.in-Ok-u64.count c.in-Ok-u64.ensures)
