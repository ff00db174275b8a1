use Rattle.std.proofs.Common.{◌≡◌, ◌<◌, ◌-◌, ◌⊎◌, [], length, map}
use Rattle.item_forms.specs.Pieces.{Piece}
use Rattle.containers.specs.Container.{import_of}
use Rattle.containers.specs.DecodedItems.{decoded_of}
use Rattle.containers.specs.Rest.{rest_of}
use Rattle.containers.proofs.decoding.decode_all.Given as goal

abbrev pub invariant-loop : goal.invariant-loop
invariant-loop l = record {
  same : import_of l.fn.magic decoded_of l.bytes ≡ rest_of decoded_of (l.count - l.counter) l.last (map (λ (i : Piece). i.fields) l.items.items) l.reader;
  begun : (0 < length l.items.items) ⊎ ((l.last ≡ []) × (l.items.items ≡ []));
}
