-- Events stop in one way.
use Rattle.std.proofs.Common.{◌≡◌, ◌⊎◌, ℕ, List, [], ◌∷◌, ◌++◌, length, None, Some, Option, refl, sym, ap, subst, ◌∙◌, inl, inr}
use Rattle.std.specs.Prelude.{◌≢◌, reverse}
use Rattle.std.proofs.lemmas.Grind.{reverse_onto}
use Rattle.std.proofs.lemmas.List.{append_assoc, append-nil}
use Rattle.replay_verifier.specs.Meaning.{Meaning}
use Rattle.evidence_set.specs.Indications.{IndicationsAreOne}
use Rattle.evidence_set.specs.ItemSets.{JoinsAreLeastUpperBounds}
use Rattle.witness_core.specs.declared.event.Event.{Event}
use Rattle.witness_core.specs.declared.event.Reply.{Reply}
use Rattle.witness_core.specs.declared.fault.EventFault.{EventFault}
use Rattle.witness_core.specs.declared.fault.EventFault.TheVariants as cause
use Rattle.witness_core.specs.Answering.{AreReplies, refusal_of}
use Rattle.witness_core.specs.Running.{Ran, Stopped, StopsAreOne}
use Rattle.witness_core.specs.Worlds.{World}
use Rattle.witness_core.proofs.OneReply.{replies_are_one}

-- ---- two beginnings of one list

module _ {E : Type 0} where
  -- They end at one place, or one of them goes on behind the end of the other.
  abbrev Compared : List E → E → List E → E → Type 0
  Compared xs x ys y = ((xs ≡ ys) × (x ≡ y)) ⊎ (((zs : List E) × (ys ≡ xs ++ x ∷ zs)) ⊎ ((zs : List E) × (xs ≡ ys ++ y ∷ zs)))

  next : (xs ys : List E) (a b x y : E) → a ≡ b → Compared xs x ys y → Compared (a ∷ xs) x (b ∷ ys) y
  next xs ys a b x y head (inl (same, last)) = inl (ap (λ (l : List E). a ∷ l) same ∙ ap (λ (e : E). e ∷ ys) head, last)
  next xs ys a b x y head (inr (inl (zs, more))) = inr (inl (zs, ap (λ (e : E). e ∷ ys) (sym head) ∙ ap (λ (l : List E). a ∷ l) more))
  next xs ys a b x y head (inr (inr (zs, more))) = inr (inr (zs, ap (λ (l : List E). a ∷ l) more ∙ ap (λ (e : E). e ∷ (ys ++ y ∷ zs)) head))

  compared : (xs ys : List E) (x y : E) (us vs : List E) → xs ++ x ∷ us ≡ ys ++ y ∷ vs → Compared xs x ys y
  compared [] [] x y us vs is = let same : x ≡ y = cc in inl (refl, same)
  compared [] (b ∷ ys) x y us vs is = let head : b ≡ x = cc in inr (inl (ys, ap (λ (e : E). e ∷ ys) head))
  compared (a ∷ xs) [] x y us vs is = let head : a ≡ y = cc in inr (inr (xs, ap (λ (e : E). e ∷ xs) head))
  compared (a ∷ xs) (b ∷ ys) x y us vs is =
      let head : a ≡ b = cc in
      let rest : xs ++ x ∷ us ≡ ys ++ y ∷ vs = cc in
      next xs ys a b x y head (compared xs ys x y us vs rest)

-- ---- events that are done

refused_for : (c : EventFault) (refusal : Option EventFault) → (c ≡ cause.Memory) ⊎ (refusal ≡ Some c) → c ≢ cause.Memory → refusal ≡ Some c
refused_for c refusal (inl is) other = absurd (other is)
refused_for c refusal (inr is) other = is

one_cause : (c d : EventFault) (refusal : Option EventFault) → refusal ≡ Some c → refusal ≡ Some d → c ≡ d
one_cause c d refusal h k = let is : Some c ≡ Some d = sym h ∙ k in cc

not_both : (c : EventFault) (refusal : Option EventFault) → refusal ≡ None → refusal ≡ Some c → ⊥
not_both c refusal h k = let clash : None ≡ Some c = sym h ∙ k in absurd cc

module _ {P S : Type 0} (program : Meaning S) (W : World) where
  turned_over : (e : Event P) (events past : List (Event P)) → reverse (e ∷ events) ++ past ≡ reverse events ++ (e ∷ past)
  turned_over e events past = ap (λ (l : List (Event P)). l ++ past) (reverse_onto events e []) ∙ append_assoc (reverse events) (e ∷ []) past

  -- none of the events that are done was refused
  done_from : (past xs ys : List (Event P)) (e : Event P) (rs : List Reply) → AreReplies program W past (xs ++ e ∷ ys) rs → refusal_of W (reverse xs ++ past) e ≡ None
  done_from past [] ys e [] h = absurd h
  done_from past [] ys e (r ∷ rs) h = h.0
  done_from past (x ∷ xs) ys e [] h = absurd h
  done_from past (x ∷ xs) ys e (r ∷ rs) h = subst (λ (l : List (Event P)). refusal_of W l e ≡ None) (sym (turned_over x xs past)) (done_from (x ∷ past) xs ys e rs h.2)

  done : (xs ys : List (Event P)) (e : Event P) (rs : List Reply) → AreReplies program W [] (xs ++ e ∷ ys) rs → refusal_of W (reverse xs) e ≡ None
  done xs ys e rs h = subst (λ (l : List (Event P)). refusal_of W l e ≡ None) (append-nil (reverse xs)) (done_from [] xs ys e rs h)

  -- the events that are done do not go on behind the one that is refused
  no_further : (xs ys zs : List (Event P)) (e : Event P) (rs : List Reply) (c : EventFault) → AreReplies program W [] ys rs → ys ≡ xs ++ e ∷ zs → refusal_of W (reverse xs) e ≡ Some c → ⊥
  no_further xs ys zs e rs c answered more refused = not_both c (refusal_of W (reverse xs) e) (done xs zs e rs (subst (λ (l : List (Event P)). AreReplies program W [] l rs) more answered)) refused

  whole : (events : List (Event P)) (n : ℕ) (a b : List Reply) (d : EventFault) (V X : World) → Ran program W events a V → Stopped program W events n b d X → d ≡ cause.Memory
  whole events n a b d V X ran t = elim t.told [ inl is ↦ is | inr refused ↦ absurd (no_further t.first events t.others t.next a d ran.answered t.split refused) ]

  module _ (bounds : JoinsAreLeastUpperBounds) (indications : IndicationsAreOne S) where
    same : (events : List (Event P)) (m n : ℕ) (a b : List Reply) (c d : EventFault) (V X : World) → Stopped program W events m a c V → Stopped program W events n b d X → c ≢ cause.Memory → d ≢ cause.Memory → (m ≡ n) × (a ≡ b) × (c ≡ d)
    same events m n a b c d V X s t other more =
        let first = refused_for c (refusal_of W (reverse s.first) s.next) s.told other in
        let second = refused_for d (refusal_of W (reverse t.first) t.next) t.told more in
        elim (compared s.first t.first s.next t.next s.others t.others (sym s.split ∙ t.split)) [
          | inl (here, event) ↦
              let moved : refusal_of W (reverse t.first) t.next ≡ Some c = subst (λ (e : Event P). refusal_of W (reverse t.first) e ≡ Some c) event (subst (λ (l : List (Event P)). refusal_of W (reverse l) s.next ≡ Some c) here first) in (
                sym s.count ∙ ap length here ∙ t.count,
                replies_are_one P S bounds indications program W t.first a b (subst (λ (l : List (Event P)). AreReplies program W [] l a) here s.ran.answered) t.ran.answered,
                one_cause c d (refusal_of W (reverse t.first) t.next) moved second,
              )
          | inr (inl (zs, behind)) ↦ absurd (no_further s.first t.first zs s.next b c t.ran.answered behind first)
          | inr (inr (zs, behind)) ↦ absurd (no_further t.first s.first zs t.next a d s.ran.answered behind second)
        ]

pub stops_are_one : (P S : Type 0) → JoinsAreLeastUpperBounds → IndicationsAreOne S → StopsAreOne P S
stops_are_one P S bounds indications = record { same = λ program W. same program W bounds indications; whole = λ program W. whole program W }
