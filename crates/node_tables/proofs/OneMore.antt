-- An item more, for all tables at once.
use Rattle.std.proofs.Common.{◌≡◌, ℕ, List, [], ◌∷◌, ◌++◌, length, Some, refl, sym, ap, subst, ◌∙◌, ◌-◌, arith, length-append}
use Rattle.std.specs.Prelude.{slice_get}
use Rattle.std.proofs.lemmas.Option.{same_Some}
use Rattle.evidence_item.specs.Checking.{Checked}
use Rattle.kept_evidence.specs.Kept.{Keeps}
use Rattle.node_tables.specs.declared.table.Table.{Table}
use Rattle.node_tables.specs.Indexed.{AreOfOthers, IsTable}
use Rattle.node_tables.specs.Rooms.{HasRoomFor}
use Rattle.node_tables.specs.Steps.{AllTables, EachBecomes}
use Rattle.node_tables.specs.within.Coming.{IsDue, ItemCame}
use Rattle.node_tables.proofs.Grown.{last_at, told_grown}
use Rattle.node_tables.proofs.Hashed.{asked_grown}
use Rattle.node_tables.proofs.Received.{receipts_before}
use Rattle.node_tables.proofs.Whole.{against_here, new_here, others_here, table_more}

module _ (others : List Checked) (x : Checked) (tables : List Table) (each : AllTables (IsTable others) tables) where
  abbrev more : List Checked
  more = others ++ x ∷ []

  all_due : (Keeps others x.item → ⊥) → AllTables (HasRoomFor x) tables → AllTables (IsDue more (length others)) tables
  all_due absent room i t at =
      let table = each i t at in
      record {
        others = record {
          kept = record { told = told_grown others x t t refl refl refl refl refl table.told; asked = asked_grown others x t table.asked };
          spans = others_here others x t.node t refl table.stands;
          against = λ m has. against_here others x t.node m ((table.unanswered m).0 has);
          new = new_here others x t table absent;
        };
        receipts = receipts_before others x t table.receipts;
        room = λ y last. subst (λ (z : Checked). HasRoomFor z t) (same_Some x y (sym (last_at others x) ∙ last)) (room i t at);
      }

  all_more : (new : List Table) → EachBecomes (ItemCame more (length others)) tables new → AllTables (IsTable more) new
  all_more new came i u at =
      let (t, in_old, item) = came i u at in
      table_more others x t u (each i t in_old) (item.step x (last_at others x)) item.kept.told item.kept.asked item.receipts

-- The last place is that behind the others.
last_place : (items others : List Checked) (x : Checked) → items ≡ others ++ x ∷ [] → length items - 1 ≡ length others
last_place items others x split = let e = ap length split ∙ length-append others (x ∷ []) in omega (arith, e)

pub last_item : (items others : List Checked) (x : Checked) → items ≡ others ++ x ∷ [] → slice_get items (length items - 1) ≡ Some x
last_item items others x split =
    ap (slice_get items) (last_place items others x split) ∙ ap (λ (l : List Checked). slice_get l (length others)) split ∙ last_at others x

-- The same of items whose last one is not in the tables yet.
module _ (items : List Checked) (tables : List Table) (are : AreOfOthers items tables) where
  moved : (P : List Checked → ℕ → Type 0) → P (are.others ++ are.last ∷ []) (length are.others) → P items (length items - 1)
  moved P h = subst (λ l. P l (length items - 1)) (sym are.split) (subst (P (are.others ++ are.last ∷ [])) (sym (last_place items are.others are.last are.split)) h)

  pub last_due : AllTables (IsDue items (length items - 1)) tables
  last_due = moved (λ l n. AllTables (IsDue l n) tables) (all_due are.others are.last tables are.each are.absent are.room)

  pub last_each : (new : List Table) → EachBecomes (ItemCame items (length items - 1)) tables new → AllTables (IsTable items) new
  last_each new = moved (λ l n. EachBecomes (ItemCame l n) tables new → AllTables (IsTable l) new) (all_more are.others are.last tables are.each new)
