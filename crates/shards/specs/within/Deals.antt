-- Items beside the parts that they go to.
use Rattle.std.specs.Prelude.{ℕ, ◌≡◌, ◌==◌, Bool, List, map}
use Rattle.std.specs.List.{list_any}
use Rattle.std.specs.List.Sorted.{IsStrictlySortedBy}
use Rattle.item_forms.specs.declared.forms.Fields.{Fields}
use Rattle.item_forms.specs.Pieces.{Piece, by_bytes}
use Rattle.evidence_item.specs.Validity.{nodes_of}
use Rattle.localities.specs.Concerning.{named_in}
use Rattle.localities.specs.Shards.{in_turn}
use Rattle.shards.specs.declared.dealing.Dealing.{Dealing}
use Rattle.shards.specs.declared.dealing.Dealing.TheVariants.{ByNode, Extracts}

-- An item, and numbers of parts.
abbrev pub Deal : Type 0
Deal = Piece × List ℕ

-- The parts that an item goes to. One may stand there more than once.
abbrev pub numbers_of : Dealing → Fields → List ℕ
numbers_of (ByNode shards) x = map (in_turn shards) (named_in x)
numbers_of (Extracts shards) x = map (in_turn shards) (nodes_of x)

abbrev pub deal_of : Dealing → Piece → Deal
deal_of dealing x = (x, numbers_of dealing x.fields)

abbrev pub goes_to : ℕ → Deal → Bool
goes_to k d = list_any (λ n. n == k) d.1

-- The items ascend, each once. Each has its parts.
pub record AreDealt (dealing : Dealing) (deals : List Deal) : Type 0 where
  pub ascending : IsStrictlySortedBy by_bytes (map (λ (d : Deal). d.0) deals)
  pub right : deals ≡ map (deal_of dealing) (map (λ (d : Deal). d.0) deals)
