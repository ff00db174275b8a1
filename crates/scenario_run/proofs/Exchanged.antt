-- What passes and histories of an exchange say of the stores that are closed after it.
use Rattle.std.proofs.Common.{◌≡◌, ◌∙◌, ◌+◌, ◌<◌, ◌==◌, ◌⊎◌, ℕ, zero, suc, Bool, true, false, cond, List, [], ◌∷◌, ◌++◌, ap, arith, drop, filter, get_or, inl, inr, length, map, refl, subst, sym, take}
use Rattle.std.specs.List.{Contains}
use Rattle.std.proofs.lemmas.List.{append_assoc}
use Rattle.std.proofs.lemmas.List.Elements.{Contains-append_right, Contains-get_or}
use Rattle.authenticators.specs.Directory.{Listing}
use Rattle.replay_verifier.specs.Meaning.{Meaning}
use Rattle.evidence.specs.Exports.{export_of}
use Rattle.evidence_set.specs.ItemSets.{Has, IsWithin, Items, JoinsAreLeastUpperBounds, SetsAsExpected, none}
use Rattle.shared_stores.specs.declared.history.Call.{Call}
use Rattle.shared_stores.specs.declared.history.Call.TheVariants as call
use Rattle.shared_stores.specs.declared.history.Given.TheVariants as reply
use Rattle.shared_stores.specs.declared.history.Recorded.{Recorded}
use Rattle.shared_stores.specs.Closing.{Agrees}
use Rattle.shared_stores.specs.HistoryLaws.{OwnCallsAreSeen}
use Rattle.shared_stores.specs.Histories.{Notes, Replays, after, noted, recorded}
use Rattle.exchanging.specs.Passes.{Exchanged, others}
use Rattle.scenario_run.specs.Witnesses.{Sent}

-- ---- what stands in lists

at_front : {X : Type 0} (x : X) (xs : List X) → Contains (x ∷ xs) x
at_front x xs = (0, omega arith, refl)

behind_one : {X : Type 0} (y : X) (xs : List X) (x : X) → Contains xs x → Contains (y ∷ xs) x
behind_one y xs x has = Contains-append_right (y ∷ []) xs x has

first_or_behind : {X : Type 0} (y : X) (xs : List X) (x : X) → Contains (y ∷ xs) x → (y ≡ x) ⊎ Contains xs x
first_or_behind y xs x (zero, below, is) = inl is
first_or_behind y xs x (suc k, below, is) = inr (k, omega (arith, below), is)

-- what is among the kept ones is among all
kept_before : {X : Type 0} (p : X → Bool) (xs : List X) (x : X) → Contains (filter p xs) x → Contains xs x
kept_before p [] x has = has
kept_before p (y ∷ ys) x has = go (p y) has (kept_before p ys x)
  where
    go : (b : Bool) → Contains (cond b (y ∷ filter p ys) (filter p ys)) x → (Contains (filter p ys) x → Contains ys x) → Contains (y ∷ ys) x
    go true has more = elim (first_or_behind y (filter p ys) x has) [
      | inl is ↦ subst (λ z. Contains (y ∷ ys) z) is (at_front y ys)
      | inr rest ↦ behind_one y ys x (more rest)
    ]
    go false has more = behind_one y ys x (more has)

-- what a map gives comes of something
comes_of : {X Y : Type 0} (f : X → Y) (xs : List X) (y : Y) → Contains (map f xs) y → (x : X) × Contains xs x × (f x ≡ y)
comes_of f [] y (k, below, is) = absurd (omega (arith, below))
comes_of f (x ∷ xs) y has = elim (first_or_behind (f x) (map f xs) y has) [
  | inl is ↦ (x, at_front x xs, is)
  | inr rest ↦ let (z, here, is) = comes_of f xs y rest in (z, behind_one x xs z here, is)
]

maps_to : {X Y : Type 0} (f : X → Y) (xs : List X) (x : X) → Contains xs x → Contains (map f xs) (f x)
maps_to f [] x (k, below, is) = absurd (omega (arith, below))
maps_to f (y ∷ ys) x has = elim (first_or_behind y ys x has) [
  | inl is ↦ subst (λ z. Contains (f y ∷ map f ys) (f z)) is (at_front (f y) (map f ys))
  | inr rest ↦ behind_one (f y) (map f ys) (f x) (maps_to f ys x rest)
]

shifted : {X : Type 0} (k : ℕ) (x : X) (xs : List X) → others (suc k) (x ∷ xs) ≡ x ∷ others k xs
shifted k x xs =
    let more : suc k + 1 ≡ suc (k + 1) = omega arith in
    ap (λ (n : ℕ). take (suc k) (x ∷ xs) ++ drop n (x ∷ xs)) more

-- an element at another place is among the others
other_one : {X : Type 0} (j k : ℕ) (xs : List X) (d : X) → j < length xs → (j ≡ k → ⊥) → Contains (others k xs) (get_or xs j d)
other_one j k [] d below apart = absurd (omega (arith, below))
other_one zero zero (x ∷ xs) d below apart = absurd (apart refl)
other_one zero (suc k) (x ∷ xs) d below apart = subst (λ l. Contains l x) (sym (shifted k x xs)) (at_front x (others k xs))
other_one (suc j) zero (x ∷ xs) d below apart = Contains-get_or xs j d (omega (arith, below))
other_one (suc j) (suc k) (x ∷ xs) d below apart = subst (λ l. Contains l (get_or xs j d)) (sym (shifted k x xs)) (behind_one x (others k xs) (get_or xs j d) (other_one j k xs d (omega (arith, below)) (λ same. apart (ap suc same))))

-- ---- what a history leads to

module _ (sets : SetsAsExpected) (joins : JoinsAreLeastUpperBounds) where
  -- a call takes nothing away
  stays : (E : Items) (c : Call) → IsWithin E (after E c)
  stays E (call.Take x) y has = (sets.insert E x y).1 (inr has)
  stays E (call.Merge M) y has = joins.left E M y has
  stays E (call.Ask node) y has = has
  stays E call.Export y has = has

  module _ {S : Type 0} (ds : Listing) (program : Meaning S) where
    stay : (history : List Recorded) (E F : Items) → Replays ds program E history F → IsWithin E F
    stay [] E F is x has = subst (λ (G : Items). Has G x) is has
    stay (r ∷ rs) E F (_, _, rest) x has = stay rs (after E r.call) F rest x (stays E r.call x has)

    -- what was merged is there
    merged : (history : List Recorded) (E F : Items) (r : Recorded) (M : Items) → Replays ds program E history F → Contains history r → r.call ≡ call.Merge M → IsWithin M F
    merged [] E F r M is (k, below, _) merge = absurd (omega (arith, below))
    merged (s ∷ rs) E F r M (allowed, replied, rest) has merge = elim (first_or_behind s rs r has) [
      | inl is ↦ λ x there. stay rs (after E s.call) F rest x (subst (λ (c : Call). Has (after E c) x) (sym (ap (λ (t : Recorded). t.call) is ∙ merge)) (joins.right E M x there))
      | inr more ↦ merged rs (after E s.call) F r M rest more merge
    ]

-- ---- passes of an exchange

-- the calls of a pass stand in the history
in_history : (history : List Recorded) (p : Notes) (r : Recorded) → Agrees history p → Contains p.calls r → Contains history r
in_history history p r agrees has = kept_before (λ (r : Recorded). r.caller == p.number) history r (subst (λ (l : List Recorded). Contains l r) (sym agrees) has)

module _ (k : ℕ) (texts : List (List ℕ)) (old new : Notes) (is : Exchanged k texts old new) (history : List Recorded) (agrees : Agrees history new) where
  abbrev pub own_text : List ℕ
  own_text = get_or texts k []

  abbrev pub own_export : Recorded
  own_export = recorded old.number call.Export (reply.Bytes own_text)

  -- its export stands behind the calls that it had before
  pub stands : new.calls ≡ old.calls ++ own_export ∷ is.merges.more
  stands = is.merges.growth.calls ∙ append_assoc old.calls (own_export ∷ []) is.merges.more

  -- and a merge of what each other text spells
  pub merges : (text : List ℕ) → Contains (others k texts) text → (M : Items) × (export_of M ≡ text) × (r : Recorded) × Contains history r × (r.call ≡ call.Merge M)
  merges text has =
      let (M, here, spells) = comes_of export_of is.sets text (subst (λ (l : List (List ℕ)). Contains l text) (sym is.spelled) has) in
      let (r, there, merge) = comes_of (λ (r : Recorded). r.call) is.merges.more (call.Merge M) (subst (λ (l : List Call). Contains l (call.Merge M)) (sym is.merges.merged) (maps_to call.Merge is.sets M here)) in
      (M, spells, r, in_history history new r agrees (subst (λ (l : List Recorded). Contains l r) (sym is.merges.growth.calls) (Contains-append_right (noted old call.Export (reply.Bytes own_text)).calls is.merges.more r there)), merge)

-- What one exported another has.
module _ {S : Type 0} (sets : SetsAsExpected) (joins : JoinsAreLeastUpperBounds) (seen : OwnCallsAreSeen S) (ds : Listing) (program : Meaning S) (texts : List (List ℕ)) (j k : ℕ) (apart : j ≡ k → ⊥) (below : j < length texts) where
  pub has_other : (old_j new_j old_k new_k : Notes) (history_j history_k : List Recorded) (D F : Items) → Exchanged j texts old_j new_j → Exchanged k texts old_k new_k → Agrees history_j new_j → Agrees history_k new_k
      → Replays ds program none history_j D → Replays ds program none history_k F → Sent ds program history_j F
  has_other old_j new_j old_k new_k history_j history_k D F first second agrees_j agrees_k replays_j replays_k =
      let text : List ℕ = get_or texts j [] in
      let (M, spells, r, there, merge) = merges k texts old_k new_k second history_k agrees_k text (other_one j k texts [] below apart) in
      let s = seen ds program none D history_j new_j old_j.calls first.merges.more (own_export j texts old_j new_j first history_j agrees_j) replays_j agrees_j (stands j texts old_j new_j first history_j agrees_j) in
      record {
        set = s.at;
        exported = record {
          caller = new_j.number;
          earlier = old_j.calls;
          export = own_export j texts old_j new_j first history_j agrees_j;
          is = ap (λ (n : ℕ). recorded n call.Export (reply.Bytes text)) (sym first.merges.growth.number) ∙ ap (λ (t : List ℕ). recorded new_j.number call.Export (reply.Bytes t)) s.answered;
          seen = s;
          at = refl;
        };
        merged = M;
        text = spells ∙ s.answered;
        within = merged sets joins ds program history_k none F r M replays_k there merge;
      }
