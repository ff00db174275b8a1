-- A worker's turns.
use Rattle.std.proofs.Common.{◌≡◌, ℕ, ◌+◌, ◌==◌, length, append_assoc, arith, ◌≢◌, List, [], ◌∷◌, ◌++◌, sym, ap, ◌∙◌, subst, eq-eqb, ne_eqb}
use denote.Param.Members.{Shared}
use Rattle.std.specs.Fn.{FnReturns}
use Rattle.std.proofs.lemmas.List.{map-append}
use Rattle.std.proofs.lemmas.List.Elements.{All-push, All-head, All-tail, All-append, All-nil}
use Rattle.std.proofs.lemmas.List.Concat.{flat_map-cons}
use Rattle.std.specs.List.{All, flat_map}
use Rattle.atomic_table.specs.Seated.{TableId}
use Rattle.atomic_table.specs.declared.shared.Seat.{Seat}
use Rattle.parallel_map.specs.declared.rule.View.{View}
use Rattle.parallel_map.specs.declared.workers.Placed.{Placed}
use Rattle.parallel_map.specs.declared.workers.Drawn.{Drawn}
use Rattle.parallel_map.specs.Claiming.{view, Drew, joined}
use Rattle.parallel_map.specs.within.Working.{GivesAt, GivesPlaced, places, Drawing, Settled, Worked, Gathering}

abbrev pub at_place : {T : Type 0} → ℕ → T → Placed T
at_place n v = record { place = n; value = v }

pub drew : {F T : Type 0} (g : Shared F (ℕ × Unit {0}) T) (f : F) (table : TableId) (s n : Seat ℕ View) (saw : ℕ) (ps : List (Placed T)) → Drawing g f table s saw ps
    → n.table_id ≡ s.table_id → n.me.1 ≡ s.me.1 → (found : ℕ) → Drew (found == saw) saw found s.me.0 n.me.0 → found ≡ saw
    → (v : T) → FnReturns g f (saw, tt) v → (room qs : List (Placed T)) → room ≡ ps → qs ≡ room ++ at_place saw v ∷ [] → Drawing g f table n (saw + 1) qs
drew {F} {T} g f table s n saw ps d same slots found told hit v new room qs kept pushed =
    let is : qs ≡ ps ++ at_place saw v ∷ [] = pushed ∙ ap (λ (l : List (Placed T)). l ++ at_place saw v ∷ []) kept in
    let t : n.me.0 ≡ view (s.me.0.numbers ++ saw ∷ []) (saw + 1) s.me.0.parts = subst (λ b. Drew b saw found s.me.0 n.me.0) (eq-eqb found saw hit) told in
    let u : n.me.0 ≡ view (places ps ++ saw ∷ []) (saw + 1) 1 = t ∙ ap (λ (m : View × List (ℕ × ℕ)). view (m.0.numbers ++ saw ∷ []) (saw + 1) m.0.parts) d.me_is in
    let e : places ps ++ saw ∷ [] ≡ places qs = sym (ap places is ∙ map-append (λ (p : Placed T). p.place) ps (at_place saw v ∷ [])) in
    let w : n.me.0 ≡ view (places qs) (saw + 1) 1 = u ∙ ap (λ l. view l (saw + 1) 1) e in
    let z : n.me.1 ≡ [] = slots ∙ ap (λ (m : View × List (ℕ × ℕ)). m.1) d.me_is in
    record { table_is = same ∙ d.table_is; me_is = λ i. (w i, z i); gives = subst (λ l. GivesPlaced g f l) (sym is) (All-push (GivesAt g f) ps (at_place saw v) d.gives new) }

pub missed : {F T : Type 0} (g : Shared F (ℕ × Unit {0}) T) (f : F) (table : TableId) (s n : Seat ℕ View) (saw : ℕ) (ps : List (Placed T)) → Drawing g f table s saw ps
    → n.table_id ≡ s.table_id → n.me.1 ≡ s.me.1 → (found : ℕ) → Drew (found == saw) saw found s.me.0 n.me.0 → found ≢ saw
    → (qs : List (Placed T)) → qs ≡ ps → Drawing g f table n found qs
missed {F} {T} g f table s n saw ps d same slots found told miss qs is =
    let t = subst (λ b. Drew b saw found s.me.0 n.me.0) (ne_eqb found saw miss) told in
    let u : n.me.0 ≡ view (places ps) found 1 = t.0 ∙ ap (λ (m : View × List (ℕ × ℕ)). view m.0.numbers found m.0.parts) d.me_is in
    let w : n.me.0 ≡ view (places qs) found 1 = u ∙ ap (λ (l : List (Placed T)). view (places l) found 1) (sym is) in
    let z : n.me.1 ≡ [] = slots ∙ ap (λ (m : View × List (ℕ × ℕ)). m.1) d.me_is in
    record { table_is = same ∙ d.table_is; me_is = λ i. (w i, z i); gives = subst (λ l. GivesPlaced g f l) (sym is) d.gives }

pub gathers : {T : Type 0} (table : TableId) (all : List (Drawn T)) (parts : ℕ) (s n : Seat ℕ View) (left rest : List (Drawn T)) (x : Drawn T) (ps qs : List (Placed T)) → Gathering table all parts s left ps
    → left ≡ x ∷ rest → n.table_id ≡ s.table_id → n.me ≡ (joined s.me.0 x.seat.me.0, s.me.1) → qs ≡ ps ++ x.placed.items → Gathering table all parts n rest qs
gathers {T} table all parts s n left rest x ps qs d is same me pushed =
    let settled : All (Settled table) (x ∷ rest) = subst (λ (l : List (Drawn T)). All (Settled table) l) is d.settled in
    let here : Settled table x = All-head (Settled table) x rest settled in
    let v : n.me.0 ≡ joined s.me.0 x.seat.me.0 = ap (λ (m : View × List (ℕ × ℕ)). m.0) me in
    let a : n.me.0.numbers ≡ places ps ++ places x.placed.items = ap (λ (w : View). w.numbers) v ∙ (ap (λ l. l ++ x.seat.me.0.numbers) d.numbers ∙ ap (λ l. places ps ++ l) here.numbers) in
    let b : places qs ≡ places ps ++ places x.placed.items = ap places pushed ∙ map-append (λ (p : Placed T). p.place) ps x.placed.items in
    let p : n.me.0.parts ≡ s.me.0.parts + x.seat.me.0.parts = ap (λ (w : View). w.parts) v in
    let f : Drawn T → List (Placed T) = λ (e : Drawn T). e.placed.items in
    let len : length left ≡ length rest + 1 = ap length is ∙ (omega arith) in
    record {
      table_is = same ∙ d.table_is;
      numbers = a ∙ sym b;
      parts_is = let q = d.parts_is in let r = here.parts in omega arith;
      settled = All-tail (Settled table) x rest settled;
      placed = ap (λ l. l ++ flat_map f rest) pushed ∙ (append_assoc ps x.placed.items (flat_map f rest) ∙ (ap (λ l. ps ++ l) (sym (flat_map-cons f x rest) ∙ ap (flat_map f) (sym is)) ∙ d.placed));
    }

pub gives_all : {F T : Type 0} (g : Shared F (ℕ × Unit {0}) T) (f : F) (table : TableId) (ds : List (Drawn T)) → All (Worked g f table) ds → GivesPlaced g f (flat_map (λ (d : Drawn T). d.placed.items) ds)
gives_all {F} {T} g f table [] all = All-nil (GivesAt g f)
gives_all {F} {T} g f table (d ∷ ds) all =
    let h : Worked g f table d = All-head (Worked g f table) d ds all in
    subst (λ (l : List (Placed T)). GivesPlaced g f l) (sym (flat_map-cons (λ (d : Drawn T). d.placed.items) d ds)) (All-append (GivesAt g f) d.placed.items (flat_map (λ (e : Drawn T). e.placed.items) ds) h.gives (gives_all g f table ds (All-tail (Worked g f table) d ds all)))
