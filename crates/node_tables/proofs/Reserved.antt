-- Room for the statements of an item, and for what it is beside them; promises, and taking them back.
use Rattle.std.proofs.Common.{◌≡◌, ◌≢◌, ℕ, ◌+◌, ◌-◌, ◌≤◌, ◌==◌, Bool, true, false, List, [], ◌∷◌, ◌++◌, get_or, Option, Some, None, Result, Ok, Err, refl, sym, ap, subst, ◌∙◌, ⊎_elim, arith}
use Rattle.std.specs.Prelude.{OnErr, OnOk, slice_get, slice_set}
use Rattle.std.specs.List.{Contains}
use Rattle.std.proofs.lemmas.Bool.{cases_lt}
use Rattle.std.proofs.lemmas.Bool.Decides.{Decides-eqb}
use Rattle.std.proofs.lemmas.Option.{same_Some}
use Rattle.evidence_item.specs.Checking.{Checked}
use Rattle.kept_items.specs.Keeping.{subject}
use Rattle.kept_items.specs.Positions.{positions, stated}
use Rattle.node_tables.specs.declared.table.Table.{Table}
use Rattle.node_tables.specs.Places.{bodies, is_subject, open_room, span_room}
use Rattle.node_tables.specs.Rows.{stated_by}
use Rattle.node_tables.specs.Rooms.{AreAllReleased, AreBack, AreMany, AreReady, HasRoomFor, HasRoomForAll, IsReady, IsReleased, IsRoomier, ItemRooms, KeepsPromises, Promises, TakesBack, bodies_of, rows_of, sum_of}
use Rattle.node_tables.specs.Steps.{AscendByNode, EachBecomes, position_of, room, wanted}
use Rattle.node_tables.specs.within.Coming.{BodyCame, StatementsCame}
use Rattle.node_tables.specs.within.Placing.{BodyRooms, BodyRoomsOf, subject_by}
use Rattle.node_tables.specs.within.Promising.{nothing, one_at, one_for}
use Rattle.node_tables.proofs.Hashed.{no_same, same_then}
use Rattle.node_tables.proofs.Stepping.{as_read, to_none, to_one, wanted_then}

pub roomier_still : (t : Table) → IsRoomier t t
roomier_still t = record { node = refl; rows = refl; receipts = record { whole = refl; sendings = refl }; spans = refl; unanswered = refl; hashes = no_same t.hashes; exposure = refl; room = omega arith; span_room = omega arith; open_room = omega arith }

pub roomier_then : (t u v : Table) → IsRoomier t u → IsRoomier u v → IsRoomier t v
roomier_then t u v a b = record {
  node = b.node ∙ a.node;
  rows = b.rows ∙ a.rows;
  receipts = record { whole = b.receipts.whole ∙ a.receipts.whole; sendings = b.receipts.sendings ∙ a.receipts.sendings };
  spans = b.spans ∙ a.spans;
  unanswered = b.unanswered ∙ a.unanswered;
  hashes = same_then t.hashes u.hashes v.hashes a.hashes b.hashes;
  exposure = b.exposure ∙ a.exposure;
  room = omega (arith, a.room, b.room);
  span_room = omega (arith, a.span_room, b.span_room);
  open_room = omega (arith, a.open_room, b.open_room);
}

pub each_so : (P Q : Table → Table → Type 0) → ((t u : Table) → P t u → Q t u) → (old new : List Table) → EachBecomes P old new → EachBecomes Q old new
each_so P Q so old new each i u at = let (t, in_old, p) = each i u at in (t, in_old, so t u p)

pub on_ok : {A E : Type 0} (r : Result A E) (P Q : Type 0) → OnOk r P → (P → Q) → OnOk r Q
on_ok (Ok a) P Q h f = f h
on_ok (Err e) P Q h f = tt

pub any_err : {A E : Type 0} (r : Result A E) (P : Type 0) → P → OnErr r P
any_err (Ok a) P h = tt
any_err (Err e) P h = h

pub on_err : {A E : Type 0} (r : Result A E) (P Q : Type 0) → OnErr r P → (P → Q) → OnErr r Q
on_err (Ok a) P Q h f = tt
on_err (Err e) P Q h f = f h

-- ---- how many there are of each node

pub one_here : (j : ℕ) → one_for j j ≡ 1
one_here j = let e : (j == j) ≡ true = (Decides-eqb j j).1 refl in rw e refl

pub one_elsewhere : (j i : ℕ) → i ≢ j → one_for j i ≡ 0
one_elsewhere j i other = by_case (j == i) refl
  where
    by_case : (b : Bool) → (j == i) ≡ b → one_for j i ≡ 0
    by_case true e = absurd (other (sym ((Decides-eqb j i).0 e)))
    by_case false e = rw e refl

pub subject_is : (o : Option ℕ) (j : ℕ) → o ≡ Some j → bodies o j ≡ 1
subject_is o j is = let e : is_subject j o ≡ true = ap (is_subject j) is ∙ (Decides-eqb j j).1 refl in rw e refl

is_of_subject : (o : Option ℕ) (j : ℕ) → is_subject j o ≡ true → o ≡ Some j
is_of_subject None j h = absurd cc
is_of_subject (Some k) j h = ap (λ n. Some n) ((Decides-eqb k j).0 h)

pub subject_not : (o : Option ℕ) (j : ℕ) → (o ≡ Some j → ⊥) → bodies o j ≡ 0
subject_not o j other = by_case (is_subject j o) refl
  where
    by_case : (b : Bool) → is_subject j o ≡ b → bodies o j ≡ 0
    by_case true e = absurd (other (is_of_subject o j e))
    by_case false e = rw e refl

-- ---- to the tables of one node

pub promises_still : (w b : ℕ → ℕ) (t : Table) → w t.node ≡ 0 → b t.node ≡ 0 → Promises w b t t
promises_still w b t rows own = record { roomier = roomier_still t; statements = omega (arith, rows); rows = λ h. absurd (omega (arith, rows, h)); bodies = omega (arith, own); spans = λ h. absurd (omega (arith, own, h)); unanswered = λ h. absurd (omega (arith, own, h)) }

pub back_still : (w b : ℕ → ℕ) (t : Table) → w t.node ≡ 0 → b t.node ≡ 0 → TakesBack w b t t
back_still w b t rows own = record { roomier = roomier_still t; promised = omega (arith, rows); bodies = omega (arith, own) }

-- So many are promised to the table of node j, or taken back of it, and to the others nothing.
module _ (w b : ℕ → ℕ) (m n : ℕ) (tables : List Table) (j : ℕ) (rows : w j ≡ m) (own : b j ≡ n) (other : (i : ℕ) → i ≢ j → (w i ≡ 0) × (b i ≡ 0)) where
  pub none_promised : ((t : Table) → Contains tables t → t.node ≢ j) → EachBecomes (Promises w b) tables tables
  none_promised = to_none (Promises w b) tables j (λ k t at away. promises_still w b t (other t.node away).0 (other t.node away).1)

  pub none_back : ((t : Table) → Contains tables t → t.node ≢ j) → EachBecomes (TakesBack w b) tables tables
  none_back = to_none (TakesBack w b) tables j (λ k t at away. back_still w b t (other t.node away).0 (other t.node away).1)

  module _ (up : AscendByNode tables) (i : ℕ) (d u : Table) (found : (t : Table) × (slice_get tables i ≡ Some t) × (t.node ≡ j)) where
    pub one_promised : AreMany m n (get_or tables i d) u → EachBecomes (Promises w b) tables (slice_set tables i u)
    one_promised many =
        let here = as_read tables i j d found in
        to_one (Promises w b) tables j (λ k t at away. promises_still w b t (other t.node away).0 (other t.node away).1) up i (get_or tables i d) u here
        (subst (λ h. AreMany (w h) (b h) (get_or tables i d) u) (sym here.1) (subst (λ k. AreMany k (b j) (get_or tables i d) u) (sym rows) (subst (λ k. AreMany m k (get_or tables i d) u) (sym own) many)))

    pub one_back : AreBack m n (get_or tables i d) u → EachBecomes (TakesBack w b) tables (slice_set tables i u)
    one_back back =
        let here = as_read tables i j d found in
        to_one (TakesBack w b) tables j (λ k t at away. back_still w b t (other t.node away).0 (other t.node away).1) up i (get_or tables i d) u here
        (subst (λ h. AreBack (w h) (b h) (get_or tables i d) u) (sym here.1) (subst (λ k. AreBack k (b j) (get_or tables i d) u) (sym rows) (subst (λ k. AreBack m k (get_or tables i d) u) (sym own) back)))

-- more room in one table, or none, and as much promised
module _ (tables : List Table) (j : ℕ) (up : AscendByNode tables) (i : ℕ) (d u : Table) (found : (t : Table) × (slice_get tables i ≡ Some t) × (t.node ≡ j)) where
  pub one_roomier : IsRoomier (get_or tables i d) u → EachBecomes IsRoomier tables (slice_set tables i u)
  one_roomier = to_one IsRoomier tables j (λ k t at away. roomier_still t) up i (get_or tables i d) u (as_read tables i j d found)

  pub one_kept : KeepsPromises (get_or tables i d) u → EachBecomes KeepsPromises tables (slice_set tables i u)
  one_kept = to_one KeepsPromises tables j (λ k t at away. record { promised = refl; bodies = refl }) up i (get_or tables i d) u (as_read tables i j d found)

-- ---- one promise behind another

then_kept : (w v t u r s : ℕ) → (1 ≤ w → t + w ≤ r) → t + w ≤ u → (1 ≤ v → u + v ≤ s) → r ≤ s → 1 ≤ w + v → t + (w + v) ≤ s
then_kept w v t u r s one more two up h = ⊎_elim
    (λ lt. let e = two (omega (arith, lt)) in omega (arith, e, more))
    (λ le. let e = one (omega (arith, h, le)) in omega (arith, e, le, up))
    (cases_lt 0 v)

many_then : (w b w2 b2 : ℕ) (t u v : Table) → AreMany w b t u → AreMany w2 b2 u v → AreMany (w + w2) (b + b2) t v
many_then w b w2 b2 t u v one two = record {
  roomier = roomier_then t u v one.roomier two.roomier;
  statements = omega (arith, one.statements, two.statements);
  rows = then_kept w w2 t.promised u.promised (room u) (room v) one.rows (omega (arith, one.statements)) two.rows two.roomier.room;
  bodies = omega (arith, one.bodies, two.bodies);
  spans = then_kept b b2 t.bodies u.bodies (span_room u) (span_room v) one.spans (omega (arith, one.bodies)) two.spans two.roomier.span_room;
  unanswered = then_kept b b2 t.bodies u.bodies (open_room u) (open_room v) one.unanswered (omega (arith, one.bodies)) two.unanswered two.roomier.open_room;
}

module _ (w b w2 b2 all own : ℕ → ℕ) (first : (i : ℕ) → all i ≡ w i + w2 i) (second : (i : ℕ) → own i ≡ b i + b2 i) (t u v : Table) where
  pub promises_then : Promises w b t u → Promises w2 b2 u v → Promises all own t v
  promises_then one two =
      let later : AreMany (w2 t.node) (b2 t.node) u v = subst (λ j. AreMany (w2 j) (b2 j) u v) one.roomier.node two in
      subst (λ k. AreMany k (own t.node) t v) (sym (first t.node)) (subst (λ k. AreMany (w t.node + w2 t.node) k t v) (sym (second t.node))
      (many_then (w t.node) (b t.node) (w2 t.node) (b2 t.node) t u v one later))

  pub back_then : TakesBack w b t u → TakesBack w2 b2 u v → TakesBack all own t v
  back_then one two =
      let node = one.roomier.node in
      let same : w2 u.node ≡ w2 t.node = ap w2 node in
      let also : b2 u.node ≡ b2 t.node = ap b2 node in
      record { roomier = roomier_then t u v one.roomier two.roomier; promised = omega (arith, one.promised, two.promised, same, first t.node); bodies = omega (arith, one.bodies, two.bodies, also, second t.node) }

module _ (w b : ℕ → ℕ) (t u v : Table) where
  -- What was promised and then taken back leaves as much promised as before.
  pub promised_back : Promises w b t u → TakesBack w b u v → KeepsPromises t v
  promised_back one back =
      let same : w u.node ≡ w t.node = ap w one.roomier.node in
      let also : b u.node ≡ b t.node = ap b one.roomier.node in
      record { promised = omega (arith, same, one.statements, back.promised); bodies = omega (arith, also, one.bodies, back.bodies) }

  -- Where nothing was promised, what was before is taken back.
  pub kept_released : IsRoomier t u × KeepsPromises t u → TakesBack w b u v → TakesBack w b t v
  kept_released (roomier, kept) back =
      let same : w u.node ≡ w t.node = ap w roomier.node in
      let also : b u.node ≡ b t.node = ap b roomier.node in
      record { roomier = roomier_then t u v roomier back.roomier; promised = omega (arith, same, kept.promised, back.promised); bodies = omega (arith, also, kept.bodies, back.bodies) }

-- one position behind the others
pub promise_more : (x : Checked) (k : ℕ) (t u v : Table) → Promises (wanted (stated x) k) nothing t u → Promises (one_at x k) nothing u v → Promises (wanted (stated x) (k + 1)) nothing t v
promise_more x k = promises_then (wanted (stated x) k) nothing (one_at x k) nothing (wanted (stated x) (k + 1)) nothing (λ i. wanted_then (stated x) k i) (λ i. refl)

pub release_more : (x : Checked) (k : ℕ) (t u v : Table) → TakesBack (wanted (stated x) k) nothing t u → TakesBack (one_at x k) nothing u v → TakesBack (wanted (stated x) (k + 1)) nothing t v
release_more x k = back_then (wanted (stated x) k) nothing (one_at x k) nothing (wanted (stated x) (k + 1)) nothing (λ i. wanted_then (stated x) k i) (λ i. refl)

-- ---- the whole item

-- at most what is promised is wanted
at_most : (w p r : ℕ) → (1 ≤ w → p + w ≤ r) → w ≤ r
at_most w p r h = ⊎_elim (λ lt. let e = h (omega (arith, lt)) in omega (arith, e)) (λ le. omega (arith, le)) (cases_lt 0 w)

pub ready : (x : Checked) (t u v : Table) → Promises (rows_of x) nothing t u → Promises nothing (bodies_of x) u v → IsReady x t v
ready x t u v one other =
    let many = promises_then (rows_of x) nothing nothing (bodies_of x) (rows_of x) (bodies_of x) (λ i. omega arith) (λ i. omega arith) t u v one other in
    let same : v.node ≡ t.node = many.roomier.node in
    record {
      many = many;
      enough = record {
        statements = subst (λ n. rows_of x n ≤ room v) (sym same) (at_most (rows_of x t.node) t.promised (room v) many.rows);
        body = λ own.
            let e : bodies_of x t.node ≡ 1 = subject_is (subject x.item.fields) t.node (own ∙ ap (λ n. Some n) same) in
            let spans = many.spans (omega (arith, e)) in
            let asked = many.unanswered (omega (arith, e)) in
            record { spans = omega (arith, e, spans); unanswered = omega (arith, e, asked) };
      };
    }

pub released : (x : Checked) (t u v : Table) → TakesBack (rows_of x) nothing t u → TakesBack nothing (bodies_of x) u v → IsReleased x t v
released x = back_then (rows_of x) nothing nothing (bodies_of x) (rows_of x) (bodies_of x) (λ i. omega arith) (λ i. omega arith)

-- ---- many items

pub many_none : (t : Table) → AreReady [] t t
many_none t = promises_still (sum_of rows_of []) (sum_of bodies_of []) t refl refl

pub sum_push : (f : Checked → ℕ → ℕ) (xs : List Checked) (x : Checked) (j : ℕ) → sum_of f (xs ++ x ∷ []) j ≡ sum_of f xs j + f x j
sum_push f [] x j = omega arith
sum_push f (y ∷ xs) x j = let e = sum_push f xs x j in omega (arith, e)

pub many_push : (xs : List Checked) (x : Checked) (t u v : Table) → AreReady xs t u → IsReady x u v → AreReady (xs ++ x ∷ []) t v
many_push xs x t u v one two = promises_then (sum_of rows_of xs) (sum_of bodies_of xs) (rows_of x) (bodies_of x) (sum_of rows_of (xs ++ x ∷ [])) (sum_of bodies_of (xs ++ x ∷ [])) (sum_push rows_of xs x) (sum_push bodies_of xs x) t u v one two.many

pub back_push : (xs : List Checked) (x : Checked) (t u v : Table) → AreAllReleased xs t u → IsReleased x u v → AreAllReleased (xs ++ x ∷ []) t v
back_push xs x = back_then (sum_of rows_of xs) (sum_of bodies_of xs) (rows_of x) (bodies_of x) (sum_of rows_of (xs ++ x ∷ [])) (sum_of bodies_of (xs ++ x ∷ [])) (sum_push rows_of xs x) (sum_push bodies_of xs x)

pub room_for_all : (xs : List Checked) (t u : Table) → AreReady xs t u → HasRoomForAll xs u
room_for_all xs t u many =
    let same : u.node ≡ t.node = many.roomier.node in
    record {
      rows = subst (λ n. sum_of rows_of xs n ≤ room u) (sym same) (at_most (sum_of rows_of xs t.node) t.promised (room u) many.rows);
      spans = subst (λ n. sum_of bodies_of xs n ≤ span_room u) (sym same) (at_most (sum_of bodies_of xs t.node) t.bodies (span_room u) many.spans);
      unanswered = subst (λ n. sum_of bodies_of xs n ≤ open_room u) (sym same) (at_most (sum_of bodies_of xs t.node) t.bodies (open_room u) many.unanswered);
    }

-- room for the first of them, and behind it for the others
pub room_for_first : (x : Checked) (xs : List Checked) (u : Table) → HasRoomForAll (x ∷ xs) u → HasRoomFor x u
room_for_first x xs u all = record {
  statements = omega (arith, all.rows);
  body = λ own.
      let e : bodies_of x u.node ≡ 1 = subject_is (subject x.item.fields) u.node own in
      record { spans = omega (arith, e, all.spans); unanswered = omega (arith, e, all.unanswered) };
}

pub room_for_rest : (x : Checked) (xs : List Checked) (t u : Table) → HasRoomForAll (x ∷ xs) t → ItemRooms x t u → HasRoomForAll xs u
room_for_rest x xs t u all step = record {
  rows = subst (λ n. sum_of rows_of xs n ≤ room u) (sym step.node) (omega (arith, all.rows, step.rows));
  spans = subst (λ n. sum_of bodies_of xs n ≤ span_room u) (sym step.node) (omega (arith, all.spans, step.spans));
  unanswered = subst (λ n. sum_of bodies_of xs n ≤ open_room u) (sym step.node) (omega (arith, all.unanswered, step.unanswered));
}

-- ---- what is taken of the rooms

pub rooms_still : (o : Option ℕ) (t : Table) → (o ≡ Some t.node → ⊥) → BodyRoomsOf o t t
rooms_still o t other = let none = subject_not o t.node other in record { span_room = omega arith; open_room = omega arith; promised = refl; taken_back = omega (arith, none) }

pub rooms_here : (o : Option ℕ) (t u : Table) → o ≡ Some t.node → BodyRooms t u → u.promised ≡ t.promised → u.bodies ≡ t.bodies - 1 → BodyRoomsOf o t u
rooms_here o t u is step promised bodies = let e = subject_is o t.node is in record { span_room = omega (arith, e, step.span_room); open_room = omega (arith, e, step.open_room); promised = promised; taken_back = omega (arith, e, bodies) }

pub each_both : (P Q : Table → Table → Type 0) (old new : List Table) → EachBecomes P old new → EachBecomes Q old new → EachBecomes (λ t u. P t u × Q t u) old new
each_both P Q old new p q i u at =
    let (t, in_old, one) = p i u at in
    let (s, also, two) = q i u at in
    (t, in_old, (one, subst (λ (z : Table). Q z u) (same_Some s t (sym also ∙ in_old)) two))

pub item_rooms : (items : List Checked) (n k : ℕ) (x : Checked) → slice_get items n ≡ Some x → k ≡ positions x.item.fields → (t u v : Table) → StatementsCame items n k t u → BodyCame items n u v → ItemRooms x t v
item_rooms items n k x here is t u v one other =
    let of_x : (j : ℕ) → bodies (subject_by (slice_get items n)) j ≡ bodies_of x j = λ j. ap (λ (o : Option Checked). bodies (subject_by o) j) here in
    let same : bodies (subject_by (slice_get items n)) u.node ≡ bodies_of x t.node = of_x u.node ∙ ap (bodies_of x) one.step.node in
    let had : span_room t ≡ span_room u = ap (λ s. s.room) (sym one.step.spans) in
    let had_asked : open_room t ≡ open_room u = ap (λ w. w.room) (sym one.step.unanswered) in
    let rows : wanted (position_of items n) k t.node ≡ rows_of x t.node = ap (λ (o : Option Checked). wanted (stated_by o) k t.node) here ∙ ap (λ m. wanted (stated x) m t.node) is in
    let kept : room u ≡ room v = ap (λ w. w.room) (sym other.step.rows) in
    record {
      node = other.step.node ∙ one.step.node;
      rows = omega (arith, one.step.room, rows, kept);
      spans = omega (arith, other.rooms.span_room, same, had);
      unanswered = omega (arith, other.rooms.open_room, same, had_asked);
      promised = omega (arith, one.back.promised, other.rooms.promised, rows);
      bodies = omega (arith, one.back.bodies, other.rooms.taken_back, same);
    }

-- What is taken back of an item takes no room.
pub released_rooms : (x : Checked) (t u : Table) → IsReleased x t u → ItemRooms x t u
released_rooms x t u back = record {
  node = back.roomier.node;
  rows = omega (arith, back.roomier.room);
  spans = omega (arith, back.roomier.span_room);
  unanswered = omega (arith, back.roomier.open_room);
  promised = back.promised;
  bodies = back.bodies;
}
