-- Where the entries that conform leave the log.
use Rattle.std.proofs.Common.{◌≡◌, ℕ, List, [], ◌∷◌, Option, Some, None, refl, sym, ap, ◌∙◌, subst}
use Rattle.log_chain.specs.declared.entry.Entry.{Entry}
use Rattle.replay_verifier.specs.declared.course.Course.{Course}
use Rattle.replay_verifier.specs.declared.course.Course.TheVariants as course
use Rattle.replay_verifier.specs.declared.verdict.Reason.{Reason}
use Rattle.replay_verifier.specs.declared.verdict.Verdict.{Verdict}
use Rattle.replay_verifier.specs.declared.verdict.Verdict.TheVariants as verdict
use Rattle.replay_verifier.specs.Conforming.{Setting, act, Begins, Stand, at_rest, Leads, Conforms}
use Rattle.replay_verifier.specs.Deviation.{IsVerdict, Position, First, After, reason_at}
use Rattle.replay_verifier.specs.Stands.{IsStandBehind}
use Rattle.replay_verifier.specs.within.Courses.{ended, position_of}
use Rattle.replay_verifier.specs.within.Following.{following, repeated_from, with_repeat, with_repeats}
use Rattle.replay_verifier.specs.within.Stepping.{next_place, next_stand, arrived, arrive, judge}
use Rattle.replay_verifier.proofs.Judging.{BytesEach, RisingFrom, from_rising, no_line_begins}
use Rattle.replay_verifier.proofs.Lines.{comes_leads, no_line_comes}
use Rattle.replay_verifier.proofs.OnePlace.{not_both}
use Rattle.replay_verifier.proofs.Runs.{leads_none}
use Rattle.replay_verifier.proofs.States.{IsSound}
use Rattle.replay_verifier.proofs.Verdicts.{verdict_is}

-- a position is arrived at only where no line holds
arrived_some : {S : Type 0} (r : Option Reason) (o : Option (Position S)) (p : Position S) → arrived r o ≡ Some p → (r ≡ None) × (o ≡ Some p)
arrived_some (Some why) o p h = cc h
arrived_some None o p h = (refl, h)

-- the position behind a stand is again behind one, to which the entries lead
record Behind {S : Type 0} (z : Setting S) (last : ℕ) (x : Stand S) (rest : List Entry) (p : Position S) : Type 0 where
  rises : RisingFrom last rest
  number : ℕ
  stand : Stand S
  position : p ≡ After number stand
  leads : Leads z x rest stand

module _ {S : Type 0} (z : Setting S) (prev : List ℕ) where
  arrive_leads : (rest : List Entry) (last : ℕ) (x : Stand S) (p : Position S) → arrive z prev (After last x) rest ≡ Some p → Behind z last x rest p
  arrive_leads [] last x p h = record { rises = tt; number = last; stand = x; position = cc h; leads = leads_none z x }
  arrive_leads (e ∷ rest) last x p h =
      let a = arrived_some (reason_at z prev (After last x) e) (arrive z prev (next_place z prev (After last x) e) rest) p h in
      let g = no_line_comes z prev last x.state x.awaited e a.0 in
      let m = arrive_leads rest e.seq (next_stand z x.state x.awaited e) p a.1 in
      record {
        rises = (g.0, m.rises);
        number = m.number;
        stand = m.stand;
        position = m.position;
        leads = comes_leads z x.state x.awaited e rest m.stand g.1 m.leads;
      }

module _ {S : Type 0} (IsState : S → Type 0) (z : Setting S) (sound : IsSound IsState z) (prev : List ℕ) where
  -- the position behind a first entry is behind a stand, to which those after it lead from where the first one begins the log
  record Begun (e : Entry) (rest : List Entry) (p : Position S) : Type 0 where
    start : S
    begins : Begins z prev (act e) start
    behind : Behind z e.seq (at_rest start) rest p

  arrive_begun : (e : Entry) (rest : List Entry) (p : Position S) → arrive z prev First (e ∷ rest) ≡ Some p → Begun e rest p
  arrive_begun e rest p h =
      let a = arrived_some (reason_at z prev First e) (arrive z prev (next_place z prev First e) rest) p h in
      let b = no_line_begins IsState z sound prev e a.0 in
      record {
        start = b.0;
        begins = b.1;
        behind = arrive_leads z prev rest e.seq (at_rest b.0) p (sym (ap (λ (q : Position S). arrive z prev q rest) b.2) ∙ a.1);
      }

  pub stands : (log : List Entry) (p : Position S) (last : ℕ) (y : Stand S) → Conforms z prev log → arrive z prev First log ≡ Some p → p ≡ After last y → IsStandBehind z prev log y
  stands [] p last y c h k = cc (h, k)
  stands (e ∷ rest) p last y c h k =
      let b = arrive_begun e rest p h in
      let same : b.behind.stand ≡ y = cc (sym b.behind.position ∙ k) in
      record {
        first = e;
        rest = rest;
        parts = refl;
        rising = from_rising e rest b.behind.rises;
        once = c.once;
        start = b.start;
        begins = b.begins;
        leads = subst (λ (v : Stand S). Leads z (at_rest b.start) rest v) same b.behind.leads;
      }

  -- nowhere behind some entries replay is where it began
  arrive_nowhere : (log : List Entry) → arrive z prev First log ≡ Some First → log ≡ []
  arrive_nowhere [] h = refl
  arrive_nowhere (e ∷ rest) h = let b = arrive_begun e rest First h in let p = b.behind.position in cc p

  -- a verdict of the nine lines that is a deviation stays one
  still : (at : ℕ) (why : Reason) (log : List Entry) (o : Option ℕ) → IsVerdict z prev log (with_repeat (verdict.Deviates at why) o) → Conforms z prev log → ⊥
  still at why log None h c = not_both z prev log at why h c
  still at why log (Some d) h c = not_both z prev log d _ h c

  right : (log : List Entry) (v : Verdict) → BytesEach log → judge z prev First 0 log ≡ v → IsVerdict z prev log (with_repeats v log)
  right log v bytes h = subst (λ (w : Verdict). IsVerdict z prev log (with_repeats w log)) h (verdict_is IsState z sound prev log bytes)

  -- where the nine lines let all entries come, the last one decides
  pub conforms_told : (log : List Entry) (v : Verdict) → BytesEach log → judge z prev First 0 log ≡ verdict.Conforms → v ≡ with_repeats verdict.Conforms log → IsVerdict z prev log v
  conforms_told log v bytes h k = subst (IsVerdict z prev log) (sym k) (right log verdict.Conforms bytes h)

  pub nowhere : (log : List Entry) (c : Course S) → BytesEach log → judge z prev First 0 log ≡ ended c → arrive z prev First log ≡ position_of c
      → ((p : Position S) → c ≡ course.Stands p → ⊥) → Conforms z prev log → log ≡ []
  nowhere log course.Begins bytes v a n h = arrive_nowhere log a
  nowhere log (course.Stands p) bytes v a n h = absurd (n p refl)
  nowhere log (course.Deviates at why) bytes v a n h =
      absurd (still at why log (repeated_from [] 0 (following (verdict.Deviates at why) log)) (right log (verdict.Deviates at why) bytes v) h)
