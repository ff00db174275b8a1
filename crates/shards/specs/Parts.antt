-- What is read of stores and dealt to parts.
use Rattle.std.specs.Prelude.{ℕ, ◌≡◌, Bool, List, Ok}
use Rattle.item_forms.specs.Pieces.{Piece}
use Rattle.containers.specs.Container.{import_of}
use Rattle.containers.specs.DecodedItems.{decoded_of}
use Rattle.evidence.specs.Exports.{magic_of}
use Rattle.evidence_set.specs.Valid.{fields_of}
use Rattle.evidence_set.specs.ItemSets.{Items, insert_all, none}
use Rattle.localities.specs.Parts.{part_of}
use Rattle.localities.specs.Shards.{in_turn, is_in_shard, shards_joined}
use Rattle.shards.specs.declared.dealing.Dealing.{Dealing}
use Rattle.shards.specs.declared.dealing.Dealing.TheVariants.{ByNode, Extracts}
use Rattle.shards.specs.Extracts.{is_own_shard, own_shards_joined}

-- The encoding of a store has these items, each in its place. It does not matter whether one is valid.
abbrev pub Decodes : List ℕ → List Piece → Type 0
Decodes text items = import_of (magic_of text) decoded_of text ≡ Ok (fields_of items)

-- ---- how items are dealt

-- How many parts there are.
abbrev pub parts_of : Dealing → ℕ
parts_of (ByNode shards) = shards
parts_of (Extracts shards) = shards

-- The item goes to part k. By nodes it names a node of shard k. For extracts its fields name a node of shard k.
abbrev pub is_dealt : Dealing → ℕ → Piece → Bool
is_dealt (ByNode shards) k x = is_in_shard (in_turn shards) k x
is_dealt (Extracts shards) k x = is_own_shard (in_turn shards) k x

-- All parts of a set, joined.
abbrev pub parts_joined : Dealing → Items → Items
parts_joined (ByNode shards) E = shards_joined (in_turn shards) shards E
parts_joined (Extracts shards) E = own_shards_joined (in_turn shards) shards E

-- ---- parts

-- Items, and how they are dealt to parts.
pub record Parted : Type 0 where
  pub dealing : Dealing
  pub items : List Piece

-- Part k of the set of the items. By nodes it is `shard` of `localities`, and for extracts `own_shard`.
abbrev pub part : Parted → ℕ → Items
part p k = part_of (is_dealt p.dealing k) (insert_all none p.items)
