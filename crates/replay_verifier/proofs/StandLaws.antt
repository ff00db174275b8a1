-- What a stand tells of the entries before it and of the next one.
use Rattle.std.proofs.Common.{◌≡◌, ◌≢◌, ℕ, List, [], ◌∷◌, ◌++◌, map, take, length, Some, Bool, true, false, ◌&&◌, cond, refl, sym, ap, ◌∙◌, subst, arith, append_assoc}
use Rattle.std.proofs.Math.Seq.{take-append_seam}
use Rattle.std.proofs.lemmas.List.{map-append}
use Rattle.std.specs.List.{AllByRecursion}
use Rattle.log_chain.specs.declared.entry.Entry.{Entry}
use Rattle.log_chain.specs.Chain.{Rising}
use Rattle.replay_verifier.specs.declared.output.Output.{Output}
use Rattle.replay_verifier.specs.declared.verdict.Reason.{Reason}
use Rattle.replay_verifier.specs.declared.verdict.Reason.TheVariants.{MissingOutput, ExtraOutput, WrongOutput}
use Rattle.replay_verifier.specs.Conforming.{Setting, Act, act, send_act, head_act, Block, Receives, Ticks, Checkpoints, Begins, Stand, at_rest, Leads, Follows, Conforms, is_repeated}
use Rattle.replay_verifier.specs.Deviation.{After, last_number, EndsAt, first_line, table, reason_behind, DeviatesAt}
use Rattle.replay_verifier.specs.Stands.{IsStandBehind}
use Rattle.replay_verifier.proofs.ComingOnce.{once_push}
use Rattle.replay_verifier.proofs.Lines.{Comes, leads_comes}
use Rattle.replay_verifier.proofs.OnePlace.{alike_lines, leaves_one}
use Rattle.replay_verifier.proofs.Runs.{leads_split}

-- no line that holds has the reason
never : (t : List (Bool × Reason)) (why : Reason) → AllByRecursion (λ (l : Bool × Reason). l.0 ≡ true → l.1 ≡ why → ⊥) t → first_line t ≡ Some why → ⊥
never [] why a h = cc h
never (l ∷ t) why a h = go l.0 refl h (never t why a.1)
  where
    go : (b : Bool) → l.0 ≡ b → cond b (Some l.1) (first_line t) ≡ Some why → (first_line t ≡ Some why → ⊥) → ⊥
    go true q h rec = a.0 q (cc h)
    go false q h rec = rec h

and_false : (a : Bool) → (a && false) ≡ true → ⊥
and_false true h = cc h
and_false false h = cc h

module _ {S : Type 0} (z : Setting S) (prev : List ℕ) where
  -- ---- the entries before it

  -- where the first entry begins the log, and what the others lead to
  led : (e : Entry) (log : List Entry) (y : Stand S) → IsStandBehind z prev (e ∷ log) y → (s : S) × Begins z prev (act e) s × Leads z (at_rest s) log y
  led e log y r = from r.first r.rest r.parts r.begins r.leads
    where
      from : (f : Entry) (rest : List Entry) → e ∷ log ≡ f ∷ rest → Begins z prev (act f) r.start → Leads z (at_rest r.start) rest y
          → (s : S) × Begins z prev (act e) s × Leads z (at_rest s) log y
      from f rest p b l =
          let q : f ≡ e = cc p in
          let t : rest ≡ log = cc p in
          (r.start, subst (λ (x : Entry). Begins z prev (act x) r.start) q b, subst (λ (x : List Entry). Leads z (at_rest r.start) x y) t l)

  pub stand : (log : List Entry) → log ≢ [] → Conforms z prev log → (y : Stand S) × IsStandBehind z prev log y
  stand [] n c = absurd (n refl)
  stand (e ∷ log) n c = (
    c.follows.3,
    record {
      first = e;
      rest = log;
      parts = refl;
      rising = c.follows.0;
      once = c.once;
      start = c.follows.1;
      begins = c.follows.2;
      leads = c.follows.4;
    },
  )

  pub stands_conform : (log : List Entry) (y : Stand S) → IsStandBehind z prev log y → (log ≢ []) × Conforms z prev log
  stands_conform [] y r = let p = r.parts in cc p
  stands_conform (e ∷ log) y r = let l = led e log y r in (λ h. cc h, record { follows = (r.rising, l.0, l.1, y, l.2); once = r.once })

  pub stands_leave : (log : List Entry) (y : Stand S) → IsStandBehind z prev log y → (last : ℕ) × EndsAt z prev log (After last y)
  stands_leave [] y r = let p = r.parts in cc p
  stands_leave (e ∷ log) y r = let l = led e log y r in (last_number e.seq log, (l.0, l.1, y, l.2, refl))

  pub stands_one : (log : List Entry) (x y : Stand S) → IsStandBehind z prev log x → IsStandBehind z prev log y → (x.state ≡ y.state) × (map send_act x.awaited ≡ map send_act y.awaited)
  stands_one log x y a b =
      let p = stands_leave log x a in
      let q = stands_leave log y b in
      let same = leaves_one z prev log (After p.0 x) (After q.0 y) p.1 q.1 in
      (same.1, same.2)

  -- ---- the next entry

  -- it comes at a stand like this one
  record Next (y : Stand S) (e : Entry) : Type 0 where
    like : Stand S
    state : like.state ≡ y.state
    awaited : map send_act like.awaited ≡ map send_act y.awaited
    comes : Comes z like.state like.awaited e

  next : (log : List Entry) (y : Stand S) (e : Entry) (back : List Entry) → IsStandBehind z prev log y → Conforms z prev (log ++ e ∷ back) → Next y e
  next [] y e back r c = let p = r.parts in cc p
  next (f ∷ log) y e back r c =
      let h : Follows z prev (f ∷ (log ++ e ∷ back)) = c.follows in
      let m = leads_split z log (e ∷ back) (at_rest h.1) h.3 h.4 in
      let mine : EndsAt z prev (f ∷ log) (After (last_number f.seq log) m.0) = (h.1, h.2, m.0, m.1, refl) in
      let q = stands_leave (f ∷ log) y r in
      let same = leaves_one z prev (f ∷ log) (After (last_number f.seq log) m.0) (After q.0 y) mine q.1 in
      record { like = m.0; state = same.1; awaited = same.2; comes = (leads_comes z m.0.state m.0.awaited e back h.3 m.2).0 }

  pub next_only : (log : List Entry) (y : Stand S) (o : Output) (os : List Output) (e : Entry) (back : List Entry) → IsStandBehind z prev log y → y.awaited ≡ o ∷ os
      → Conforms z prev (log ++ e ∷ back) → act e ≡ send_act o
  next_only log y o os e back r a c = let n = next log y e back r c in first n.like.state n.like.awaited (n.awaited ∙ ap (map send_act) a) n.comes
    where
      first : (s : S) (aw : List Output) → map send_act aw ≡ map send_act (o ∷ os) → Comes z s aw e → act e ≡ send_act o
      first s [] h g = cc h
      first s (p ∷ ps) h g = let q : send_act p ≡ send_act o = cc h in g ∙ q

  -- where nothing is awaited it begins a block
  record Heads (y : Stand S) (e : Entry) : Type 0 where
    block : Block
    is : act e ≡ head_act z y.state block

  heads : (log : List Entry) (y : Stand S) (e : Entry) (back : List Entry) → IsStandBehind z prev log y → y.awaited ≡ [] → Conforms z prev (log ++ e ∷ back) → Heads y e
  heads log y e back r a c = let n = next log y e back r c in begin n.like.state n.like.awaited n.state (n.awaited ∙ ap (map send_act) a) n.comes
    where
      begin : (s : S) (aw : List Output) → s ≡ y.state → map send_act aw ≡ [] → Comes z s aw e → Heads y e
      begin s [] q h g = record { block = g.0; is = g.2 ∙ ap (λ (t : S). head_act z t g.0) q }
      begin s (p ∷ ps) q h g = cc h

  pub next_no_send : (log : List Entry) (y : Stand S) (e : Entry) (back : List Entry) → IsStandBehind z prev log y → y.awaited ≡ [] → Conforms z prev (log ++ e ∷ back) → e.kind ≡ 2 → ⊥
  next_no_send log y e back r a c k = let n = heads log y e back r a c in none n.block (sym (ap (λ (x : Act). x.kind) n.is) ∙ k)
    where
      none : (b : Block) → (head_act z y.state b).kind ≡ 2 → ⊥
      none (Receives t q) h = omega arith
      none (Ticks t) h = omega arith
      none Checkpoints h = omega arith

  pub next_state : (log : List Entry) (y : Stand S) (e : Entry) (back : List Entry) → IsStandBehind z prev log y → y.awaited ≡ [] → Conforms z prev (log ++ e ∷ back) → e.kind ≡ 5
      → e.content ≡ z.program.encode y.state
  next_state log y e back r a c k = let n = heads log y e back r a c in only n.block (sym (ap (λ (x : Act). x.kind) n.is) ∙ k) (ap (λ (x : Act). x.content) n.is)
    where
      only : (b : Block) → (head_act z y.state b).kind ≡ 5 → e.content ≡ (head_act z y.state b).content → e.content ≡ z.program.encode y.state
      only (Receives t q) h g = absurd (omega (arith, h))
      only (Ticks t) h g = absurd (omega (arith, h))
      only Checkpoints h g = g

  -- the SEND entry of the first output that is awaited leads on
  leads_on : (x y : Stand S) (log : List Entry) (o : Output) (os : List Output) (e : Entry) → Leads z x log y → y.awaited ≡ o ∷ os → act e ≡ send_act o
      → Leads z x (log ++ e ∷ []) (record { state = y.state; awaited = os })
  leads_on x y log o os e l a h = record {
    blocks = l.blocks;
    proper = l.proper;
    whole = ap (λ (bs : List Act). bs ++ map send_act os) (map-append act log (e ∷ [])) ∙ append_assoc (map act log) (act e ∷ []) (map send_act os)
        ∙ ap (λ (b : Act). map act log ++ b ∷ map send_act os) h ∙ sym (ap (λ (ps : List Output). map act log ++ map send_act ps) a) ∙ l.whole;
    after = l.after;
  }

  pub next_comes : (log : List Entry) (y : Stand S) (o : Output) (os : List Output) (e : Entry) → IsStandBehind z prev log y → y.awaited ≡ o ∷ os → act e ≡ send_act o
      → Rising (log ++ e ∷ []) → IsStandBehind z prev (log ++ e ∷ []) (record { state = y.state; awaited = os })
  next_comes log y o os e r a h rise = record {
    first = r.first;
    rest = r.rest ++ e ∷ [];
    parts = ap (λ (l : List Entry). l ++ e ∷ []) r.parts;
    rising = rise;
    once = once_push log e r.once new;
    start = r.start;
    begins = r.begins;
    leads = leads_on (at_rest r.start) y r.rest o os e r.leads a h;
  }
    where
      new : is_repeated log e ≡ false
      new = let k : e.kind ≡ 2 = ap (λ (x : Act). x.kind) h in rw k refl

  -- ---- deviations

  -- the entries before it
  before_is : (log : List Entry) (at : ℕ) (why : Reason) (d : DeviatesAt z prev log at why) → take at log ≡ d.before
  before_is log at why d = ap (λ (n : ℕ). take n log) d.at_is ∙ ap (take (length d.before)) d.parts ∙ take-append_seam d.before (d.entry ∷ d.behind)

  pub deviation_stands : (log : List Entry) (at : ℕ) (why : Reason) → DeviatesAt z prev log at why → at ≢ 0 → (y : Stand S) × IsStandBehind z prev (take at log) y
  deviation_stands log at why d n =
      let b = before_is log at why d in
      stand (take at log) (λ h. n (d.at_is ∙ ap length (sym b ∙ h))) (subst (Conforms z prev) (sym b) d.conforms)

  pub deviation_line : (log : List Entry) (at : ℕ) (why : Reason) (y : Stand S) → DeviatesAt z prev log at why → IsStandBehind z prev (take at log) y
      → (last : ℕ) × (e : Entry) × (back : List Entry) × (log ≡ take at log ++ e ∷ back) × (reason_behind z prev (take at log) (After last y) e ≡ Some why)
  deviation_line log at why y d r =
      let b = before_is log at why d in
      let q = stands_leave (take at log) y r in
      let l : EndsAt z prev (take at log) d.place = subst (λ (x : List Entry). EndsAt z prev x d.place) (sym b) d.leaves in
      let k : reason_behind z prev (take at log) d.place d.entry ≡ Some why = subst (λ (x : List Entry). reason_behind z prev x d.place d.entry ≡ Some why) (sym b) d.line in
      let same = leaves_one z prev (take at log) (After q.0 y) d.place q.1 l in
      (q.0, d.entry, d.behind, d.parts ∙ ap (λ (x : List Entry). x ++ d.entry ∷ d.behind) (sym b), alike_lines z prev (take at log) (After q.0 y) d.place d.entry same ∙ k)

  missing_some : (before : List Entry) (last : ℕ) (s : S) (aw : List Output) (e : Entry)
      → first_line (table z prev before (After last (record { state = s; awaited = aw })) e) ≡ Some MissingOutput → aw ≢ []
  missing_some before last s [] e h k = never (table z prev before (After last (record { state = s; awaited = [] })) e) MissingOutput
      (λ b r. cc r, (λ b r. cc r, (λ b r. cc r, (λ b r. cc r, (λ b r. cc r, (λ b r. cc b, (λ b r. cc r, (λ b r. cc r, (λ b r. cc r, (λ b r. cc r, tt)))))))))) h
  missing_some before last s (o ∷ os) e h k = cc k

  wrong_some : (before : List Entry) (last : ℕ) (s : S) (aw : List Output) (e : Entry)
      → first_line (table z prev before (After last (record { state = s; awaited = aw })) e) ≡ Some WrongOutput → aw ≢ []
  wrong_some before last s [] e h k = never (table z prev before (After last (record { state = s; awaited = [] })) e) WrongOutput
      (λ b r. cc r, (λ b r. cc r, (λ b r. cc r, (λ b r. cc r, (λ b r. cc r, (λ b r. cc r, (λ b r. cc r, (λ b r. and_false _ b, (λ b r. cc r, (λ b r. cc r, tt)))))))))) h
  wrong_some before last s (o ∷ os) e h k = cc k

  extra_none : (before : List Entry) (last : ℕ) (s : S) (aw : List Output) (e : Entry)
      → first_line (table z prev before (After last (record { state = s; awaited = aw })) e) ≡ Some ExtraOutput → aw ≡ []
  extra_none before last s [] e h = refl
  extra_none before last s (o ∷ os) e h = absurd (never (table z prev before (After last (record { state = s; awaited = o ∷ os })) e) ExtraOutput
      (λ b r. cc r, (λ b r. cc r, (λ b r. cc r, (λ b r. cc r, (λ b r. cc r, (λ b r. cc r, (λ b r. cc b, (λ b r. cc r, (λ b r. cc r, (λ b r. cc r, tt)))))))))) h)

  pub deviation_missing : (log : List Entry) (at : ℕ) (y : Stand S) → DeviatesAt z prev log at MissingOutput → IsStandBehind z prev (take at log) y → y.awaited ≢ []
  deviation_missing log at y d r = let l = deviation_line log at MissingOutput y d r in missing_some (take at log) l.0 y.state y.awaited l.1 l.4

  pub deviation_wrong : (log : List Entry) (at : ℕ) (y : Stand S) → DeviatesAt z prev log at WrongOutput → IsStandBehind z prev (take at log) y → y.awaited ≢ []
  deviation_wrong log at y d r = let l = deviation_line log at WrongOutput y d r in wrong_some (take at log) l.0 y.state y.awaited l.1 l.4

  pub deviation_extra : (log : List Entry) (at : ℕ) (y : Stand S) → DeviatesAt z prev log at ExtraOutput → IsStandBehind z prev (take at log) y → y.awaited ≡ []
  deviation_extra log at y d r = let l = deviation_line log at ExtraOutput y d r in extra_none (take at log) l.0 y.state y.awaited l.1 l.4
