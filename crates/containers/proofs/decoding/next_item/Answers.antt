use Rattle.std.proofs.Common.{◌≡◌, ◌∙◌, ◌++◌, ⊎_elim, inl, inr, Err, Ok, List, ℕ, [], ◌∷◌, length, map, sym, ap, arith}
use Rattle.std.proofs.lemmas.List.{length-map, map-append}
use Rattle.std.proofs.lemmas.Result.{err_from_is_err_and}
use Rattle.item_forms.specs.declared.forms.Fields.{Fields}
use Rattle.item_forms.specs.Pieces.{Piece}
use Rattle.item_forms.specs.Reading.{item_of}
use Rattle.containers.specs.declared.fault.Cause.TheVariants as cause
use Rattle.containers.specs.DecodedItems.{decoded_of}
use Rattle.containers.proofs.CheckedLists.{some_read}
use Rattle.containers.proofs.Decoded.{decoded_is, first_behind}
use Rattle.containers.proofs.Rest.{item_read, item_refused}
use Rattle.containers.specs.Rest.{rest_of}
use Rattle.containers.proofs.decoding.next_item.Goals as goal
use Rattle.containers.proofs.decoding.next_item.Goals.{in-Ok-push, in-Err-push}

abbrev fields : List Piece → List Fields
fields items = map (λ (i : Piece). i.fields) items

pub returns-in_err-text-clause-refused : goal.returns-in_err-text-clause-refused
returns-in_err-text-clause-refused c =
    let p = err_from_is_err_and c.from_residual.result c.from_residual.ensures.1 in
    let count : length (fields c.args.items.now.items) ≡ length c.args.items.now.items = length-map c.args.items.now.items (λ (i : Piece). i.fields) in
    let number : c.len-number.result ≡ length (fields c.args.items.now.items) = let n = c.len-number.ensures in let ok = c.args.items.now.ok in omega (arith, n, ok, count) in
    rw (p.1, p.2) (λ n. inr (c.in_err-text.ensures.refused decoded_of n c.args.last.now (fields c.args.items.now.items) (sym number)))

pub returns-in-Err-clause-refused : goal.returns-in-Err-clause-refused
returns-in-Err-clause-refused c = λ n.
    let count : length (fields c.args.items.now.items) ≡ length c.args.items.now.items = length-map c.args.items.now.items (λ (i : Piece). i.fields) in
    let number : c.len-number.result ≡ length (fields c.args.items.now.items) = let n = c.len-number.ensures in let ok = c.args.items.now.ok in omega (arith, n, ok, count) in
    ⊎_elim (λ (m : c.in-Err.cause ≡ cause.Memory). inl m)
    (λ (e : decoded_of c.args.last.now c.in_ok-text.text.now ≡ Err c.in-Err.cause). inr (item_refused decoded_of n c.len-number.result c.args.last.now c.in_ok-text.text.now (fields c.args.items.now.items) c.args.reader.now c.next_text.new.reader c.in-Err.cause c.in_ok-text.ensures.text number e))
    c.in-Err.ensures.exact

pub returns-in-Err-clause-memory : goal.returns-in-Err-clause-memory
returns-in-Err-clause-memory c = λ memory none empty n.
    let x = some_read (item_of c.in_ok-text.text.now) (c.in-Err.ensures.memory memory) in
    first_behind n c.in_ok-text.text.now c.args.reader.now c.next_text.new.reader x.0 c.in_ok-text.ensures.text x.1

pub returns-clause-on : goal.returns-clause-on
returns-clause-on c =
    elim c.match-push.branch [
      | in-Ok-push w ↦
          let more : fields c.push.new.self.items ≡ fields c.args.items.now.items ++ c.in-Ok.item.fields ∷ [] = ap fields w.in-Ok-push.ensures.items ∙ map-append (λ (i : Piece). i.fields) c.args.items.now.items (c.in-Ok.item ∷ []) in
          rw w.result-is (λ n. item_read decoded_of n c.args.last.now c.in_ok-text.text.now (fields c.args.items.now.items) c.args.reader.now c.next_text.new.reader c.in-Ok.item.fields c.in_ok-text.ensures.text c.in-Ok.ensures.exact ∙ ap (λ (xs : List Fields). rest_of decoded_of n c.in_ok-text.text.now xs c.next_text.new.reader) (sym more))
      | in-Err-push w ↦ rw w.result-is tt
    ]

pub returns-clause-memory : goal.returns-clause-memory
returns-clause-memory c =
    elim c.match-push.branch [
      | in-Ok-push w ↦ rw w.result-is tt
      | in-Err-push w ↦ rw w.result-is (λ memory none empty n.
          let read : decoded_of [] c.in_ok-text.text.now ≡ Ok c.in-Ok.item.fields = ap (λ (t : List ℕ). decoded_of t c.in_ok-text.text.now) (sym none) ∙ c.in-Ok.ensures.exact in
          first_behind n c.in_ok-text.text.now c.args.reader.now c.next_text.new.reader c.in-Ok.item.fields c.in_ok-text.ensures.text (decoded_is [] c.in_ok-text.text.now c.in-Ok.item.fields read).0)
    ]
