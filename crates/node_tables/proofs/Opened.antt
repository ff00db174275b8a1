-- Tables with nothing.
use Rattle.std.proofs.Common.{◌≡◌, ℕ, ◌<◌, ◌≤◌, Bool, true, false, List, [], ◌∷◌, length, map, None, refl, sym, ap, subst, inl, inr, ⊎_elim, arith}
use Rattle.std.specs.Prelude.{Ok, Err, nat_eq, slice_get}
use Rattle.std.specs.List.{Contains, insert}
use Rattle.std.specs.List.Sorted.{IsBinarySearchResult}
use Rattle.std.specs.Ordering.{nat_cmp}
use Rattle.std.proofs.lemmas.Bool.Decides.{Decides-eqb}
use Rattle.authenticators.specs.Directory.{Listing, is_listed}
use Rattle.lms_sign.specs.declared.key.PublicKey.{PublicKey}
use Rattle.authenticators.proofs.AscendingLists.{members-insert, searchable, sorted-insert, sorted-nil}
use Rattle.authenticators.specs.StatementSet.{by_fields}
use Rattle.evidence_item.specs.Checking.{Checked}
use Rattle.replay_verifier.specs.Meaning.{Meaning}
use Rattle.kept_evidence.specs.Kept.{by_item}
use Rattle.kept_evidence.proofs.Members.{first, later, none_here}
use Rattle.node_tables.specs.declared.row.Row.{Row}
use Rattle.node_tables.specs.declared.sending.Sending.{Sending}
use Rattle.node_tables.specs.declared.span.Span.{Span}
use Rattle.node_tables.specs.declared.table.Table.{Table}
use Rattle.node_tables.specs.Hashed.{AreHolders, StandByPairs}
use Rattle.node_tables.specs.Indexed.{HasNode, IsIndexed, IsTable}
use Rattle.node_tables.specs.Receipts.{AscendBySending, by_sending}
use Rattle.node_tables.specs.Rows.{AreRowsOf}
use Rattle.node_tables.specs.Steps.{AllTables, AscendByNode, by_node}
use Rattle.node_tables.specs.Places.{AscendBySpelling}
use Rattle.node_tables.specs.Tables.{AreSpans, IsUpToDate}
use Rattle.node_tables.proofs.Lookup.{found}
use Rattle.node_tables.proofs.Places.{at_contains, contains_at}
use Rattle.node_tables.proofs.Stepping.{by_node_total}

-- A table with nothing says what no items say.
pub empty_table : (t : Table) → t.rows.items ≡ [] → t.receipts.sendings.items ≡ [] → t.spans.items ≡ [] → t.unanswered.items ≡ [] → t.hashes.holders.items ≡ [] → t.hashes.lasts.items ≡ [] → t.hashes.firsts.items ≡ [] → t.exposure ≡ None → IsTable [] t
empty_table t rows receipts spans unanswered holders lasts firsts exposure = record {
  told = record {
    held = [];
    rows = subst (λ (l : List Row). AreRowsOf [] l []) (sym rows) refl;
    ascending = sorted-nil by_fields;
    own = λ a has. absurd (none_here a has);
    spans = subst (λ (l : List Span). AreSpans [] t.node l) (sym spans) (λ p has. absurd (none_here p has));
    receipts = subst AscendBySending (sym receipts) (sorted-nil by_sending);
    told = subst (IsUpToDate [] [] t.spans.items) (sym exposure) (record {
      one_hash = λ a b in_a in_b clash. absurd (none_here a in_a);
      undenied = λ a p in_a in_p. absurd (none_here a in_a);
      conforming = λ p in_p. absurd (none_here p (subst (λ (l : List Span). Contains l p) spans in_p));
    });
  };
  says = λ a. (
    λ h. absurd (none_here h.0 (subst (λ (l : List Row). Contains l h.0) rows h.1)),
    λ h. absurd cc,
  );
  receipts = λ whole s. (λ h. absurd (none_here s (subst (λ (l : List Sending). Contains l s) receipts h)), λ h. absurd cc);
  stands = λ i. (λ h. absurd (none_here h.0 (subst (λ (l : List Span). Contains l h.0) spans h.1)), λ h. absurd cc);
  unanswered = λ i. (λ h. absurd (none_here i (subst (λ (l : List ℕ). Contains l i) unanswered h)), λ h. absurd cc);
  asked = record {
    spelled = subst (AscendBySpelling []) (sym unanswered) (record { named = []; names = refl; ascending = sorted-nil by_item });
    hashed = λ whole. record {
      holders = subst (AreHolders [] t.node 0 0) (sym holders) (record {
        order = λ i k d le inside. absurd (omega (arith, inside));
        each = λ m has. absurd (none_here m has);
        all = λ i k x came at. absurd cc;
        one = λ i k l m x y came_x came_y at_x at_y same. absurd cc;
        based = λ i k x came at is. absurd cc;
      });
      lasts = subst StandByPairs (sym lasts) (λ i k d le inside. absurd (omega (arith, inside)));
      firsts = subst StandByPairs (sym firsts) (λ i k d le inside. absurd (omega (arith, inside)));
      named = λ i c f g has audit named. absurd (none_here i (subst (λ (l : List ℕ). Contains l i) unanswered has));
      quiet = λ i m c has audit seg other. absurd (none_here i (subst (λ (l : List ℕ). Contains l i) unanswered has));
    };
  };
}

module _ (tables : List Table) (up : AscendByNode tables) (t : Table) where
  pub has_there : (i : ℕ) → i < length tables → IsBinarySearchResult (λ (u : Table). nat_cmp u.node t.node) tables (Ok i) → HasNode tables t.node
  has_there i inside equal = let h = (found tables t.node up (Ok i) inside equal).1 in (h.0, contains_at tables i h.0 h.1, h.2)

  module _ (i : ℕ) (inside : i ≤ length tables) (place : IsBinarySearchResult (λ (u : Table). nat_cmp u.node t.node) tables (Err i)) where
    pub ascend_more : AscendByNode (insert tables i t)
    ascend_more =
        let parts = place (searchable by_node by_node_total tables t up) in
        sorted-insert by_node by_node_total t tables i inside up parts.0 parts.1

    pub has_more : (j : ℕ) → HasNode tables j → HasNode (insert tables i t) j
    has_more j (u, has, own) = (u, (members-insert tables i t u).1 (inl has), own)

    pub has_new : HasNode (insert tables i t) t.node
    has_new = (t, (members-insert tables i t t).1 (inr refl), refl)

    pub all_more : (P : Table → Type 0) → AllTables P tables → P t → AllTables P (insert tables i t)
    all_more P all here k u at = ⊎_elim
        (λ old. let (m, there) = at_contains tables u old in all m u there)
        (λ new. subst P (sym new) here)
        ((members-insert tables i t u).0 (contains_at (insert tables i t) k u at))

listed_step : (d : ℕ × List PublicKey) (ds : Listing) (j : ℕ) (b : Bool) → nat_eq j d.0 ≡ b → (is_listed ds j ≡ true → Contains (map (λ p. p.0) ds) j) → is_listed (d ∷ ds) j ≡ true → Contains (map (λ p. p.0) (d ∷ ds)) j
listed_step d ds j true e rest h = subst (Contains (map (λ p. p.0) (d ∷ ds))) (sym ((Decides-eqb j d.0).0 e)) (first d.0 (map (λ p. p.0) ds))
listed_step d ds j false e rest h = later d.0 (map (λ p. p.0) ds) j (rest (rw e at h))

-- a node that is listed is among the nodes
pub listed_in : (ds : Listing) (j : ℕ) → is_listed ds j ≡ true → Contains (map (λ p. p.0) ds) j
listed_in [] j h = absurd cc
listed_in (d ∷ ds) j h = listed_step d ds j (nat_eq j d.0) refl (λ more. listed_in ds j more) h

-- A store without items.
pub empty_store : {S : Type 0} (ds : Listing) (program : Meaning S) (items : List Checked) (order : List ℕ) (tables : List Table) → items ≡ [] → order ≡ []
    → AscendByNode tables → ((j : ℕ) → is_listed ds j ≡ true → HasNode tables j) → AllTables (IsTable []) tables → IsIndexed ds program items order tables
empty_store ds program items order tables no_items no_order ascending listed each = record {
  ordered = record {
    kept = [];
    places = ap (map (slice_get items)) no_order;
    ascending = sorted-nil by_item;
    covers = λ c has. absurd (none_here c (subst (λ (l : List Checked). Contains l c) no_items has));
  };
  whole = λ c has. absurd (none_here c (subst (λ (l : List Checked). Contains l c) no_items has));
  ascending = ascending;
  listed = listed;
  each = subst (λ (l : List Checked). AllTables (IsTable l) tables) (sym no_items) each;
}
