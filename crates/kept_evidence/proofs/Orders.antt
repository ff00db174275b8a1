-- Checked items in the order of their items.
use Rattle.std.proofs.Common.{◌≡◌, true}
use Rattle.std.specs.Prelude.{None}
use Rattle.std.specs.Cmp.{Equal-is, IsTotalOrder}
use Rattle.std.specs.Ordering.{eq_by_cmp}
use Rattle.std.proofs.lemmas.Cmp.{on_total}
use Rattle.item_forms.specs.Pieces.{Piece, by_bytes}
use Rattle.item_forms.proofs.ItemOrders.{by_bytes_exact, by_bytes_total}
use Rattle.evidence_item.specs.Checking.{Checked}
use Rattle.kept_evidence.specs.Kept.{by_item}

pub by_item_total : IsTotalOrder by_item
by_item_total = on_total (λ (c : Checked). c.item) by_bytes_total

-- The item, with nothing beside it.
abbrev pub bare : Piece → Checked
bare x = record { item = x; verdict = None; findings = None }

-- Checked items that are equal in order have one item.
pub equal_items : (a b : Checked) → eq_by_cmp by_item a b ≡ true → a.item ≡ b.item
equal_items a b e = by_bytes_exact a.item b.item ((Equal-is (by_bytes a.item b.item)).0 e)
