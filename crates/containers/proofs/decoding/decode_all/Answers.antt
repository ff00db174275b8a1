use Rattle.std.proofs.Common.{◌≡◌, ◌∙◌, ◌+◌, ◌-◌, ◌<◌, ◌≤◌, ⊎_elim, inl, inr, List, ℕ, [], suc, map, length, sym, ap, subst, arith}
use Rattle.std.specs.Prelude.{Result}
use Rattle.std.proofs.lemmas.List.{length-map}
use Rattle.std.proofs.lemmas.Result.{err_from_is_err_and}
use Rattle.item_forms.specs.declared.forms.Fields.{Fields}
use Rattle.item_forms.specs.Pieces.{Piece}
use Rattle.containers.specs.declared.fault.ImportFault.{ImportFault}
use Rattle.containers.specs.Container.{import_of}
use Rattle.containers.specs.DecodedItems.{decoded_of}
use Rattle.containers.specs.Refusals.{IsBehindFirst, Refuses}
use Rattle.containers.specs.Rest.{rest_of}
use Rattle.containers.proofs.Rest.{behind_first}
use Rattle.containers.proofs.decoding.decode_all.Goals as goal

-- what is left, with one item first
one_first : (n k : ℕ) (magic last bytes left : List ℕ) (before : List Fields) → import_of magic decoded_of bytes ≡ rest_of decoded_of (n - k) last before left → k < n → import_of magic decoded_of bytes ≡ rest_of decoded_of (suc (n - (k + 1))) last before left
one_first n k magic last bytes left before same below =
    let one : n - k ≡ suc (n - (k + 1)) = omega (arith, below) in
    same ∙ ap (λ (m : ℕ). rest_of decoded_of m last before left) one

pub returns-in_err-last-clause-refused : goal.returns-in_err-last-clause-refused
returns-in_err-last-clause-refused c =
    let p = err_from_is_err_and c.from_residual-in_err-last.result c.from_residual-in_err-last.ensures.1 in
    let fields : List Fields = map (λ (i : Piece). i.fields) c.loop.items.items in
    let same = one_first c.in_ok-count.count c.loop.counter c.args.magic c.loop.last.now c.args.bytes.now c.loop.reader fields c.loop.invariant.same c.loop-test.true in
    rw (p.1, p.2) (subst (λ (r : Result (List Fields) ImportFault). Refuses c.in_err-last.field-0.0 r) (sym same) (c.in_err-last.ensures.refused (c.in_ok-count.count - (c.loop.counter + 1))))

pub returns-in_err-last-clause-memory : goal.returns-in_err-last-clause-memory
returns-in_err-last-clause-memory c =
    let p = err_from_is_err_and c.from_residual-in_err-last.result c.from_residual-in_err-last.ensures.1 in
    let fields : List Fields = map (λ (i : Piece). i.fields) c.loop.items.items in
    let left : ℕ = c.in_ok-count.count - (c.loop.counter + 1) in
    let same = one_first c.in_ok-count.count c.loop.counter c.args.magic c.loop.last.now c.args.bytes.now c.loop.reader fields c.loop.invariant.same c.loop-test.true in
    rw (p.1, p.2) (λ memory. subst (λ (r : Result (List Fields) ImportFault). IsBehindFirst r) (sym same)
    (⊎_elim
    (λ (some : 0 < length c.loop.items.items). behind_first decoded_of (suc left) c.loop.last.now fields c.loop.reader (let count = length-map c.loop.items.items (λ (i : Piece). i.fields) in omega (arith, some, count)))
    (λ (none : (c.loop.last.now ≡ []) × (c.loop.items.items ≡ [])).
    subst (λ (t : List ℕ). IsBehindFirst (rest_of decoded_of (suc left) t fields c.loop.reader)) (sym none.0)
    (subst (λ (xs : List Piece). IsBehindFirst (rest_of decoded_of (suc left) [] (map (λ (i : Piece). i.fields) xs) c.loop.reader)) (sym none.1)
    (c.in_err-last.ensures.memory memory none.0 none.1 left)))
    c.loop.invariant.begun))

-- at the end
none_left : (n k : ℕ) (magic last bytes left : List ℕ) (before : List Fields) → import_of magic decoded_of bytes ≡ rest_of decoded_of (n - k) last before left → n ≤ k → import_of magic decoded_of bytes ≡ rest_of decoded_of 0 last before left
none_left n k magic last bytes left before same above =
    let none : n - k ≡ 0 = omega (arith, above) in
    same ∙ ap (λ (m : ℕ). rest_of decoded_of m last before left) none

pub returns-in_err-read_end-clause-refused : goal.returns-in_err-read_end-clause-refused
returns-in_err-read_end-clause-refused c =
    let p = err_from_is_err_and c.from_residual-in_err-read_end.result c.from_residual-in_err-read_end.ensures.1 in
    let fields : List Fields = map (λ (i : Piece). i.fields) c.loop.items.items in
    let no = c.loop-test.false in
    let above : c.in_ok-count.count ≤ c.loop.counter = omega (arith, no) in
    let same = none_left c.in_ok-count.count c.loop.counter c.args.magic c.loop.last.now c.args.bytes.now c.loop.reader fields c.loop.invariant.same above in
    let many : length fields ≡ length c.loop.items.items = length-map c.loop.items.items (λ (i : Piece). i.fields) in
    let ok = c.loop.items.ok in
    let len = c.len.ensures in
    let number : length fields ≡ c.len.result = omega (arith, ok, len, many) in
    rw (p.1, p.2) (inr (same ∙ c.in_err-read_end.ensures.refused decoded_of c.loop.last.now fields number))

pub returns-clause-items : goal.returns-clause-items
returns-clause-items c =
    let fields : List Fields = map (λ (i : Piece). i.fields) c.loop.items.items in
    let no = c.loop-test.false in
    let above : c.in_ok-count.count ≤ c.loop.counter = omega (arith, no) in
    none_left c.in_ok-count.count c.loop.counter c.args.magic c.loop.last.now c.args.bytes.now c.loop.reader fields c.loop.invariant.same above ∙ c.in_ok-read_end.ensures.read decoded_of c.loop.last.now fields

pub loop-preserved : goal.loop-preserved
loop-preserved c =
    let fields : List Fields = map (λ (i : Piece). i.fields) c.loop.items.items in
    let left : ℕ = c.in_ok-count.count - (c.loop.counter + 1) in
    record {
      same = one_first c.in_ok-count.count c.loop.counter c.args.magic c.loop.last.now c.args.bytes.now c.loop.reader fields c.loop.invariant.same c.loop-test.true ∙ c.in_ok-last.ensures.on left;
      begun = inl c.in_ok-last.ensures.some;
    }
