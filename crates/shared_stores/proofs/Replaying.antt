-- Histories with one call more, in parts, and what later calls see.
use Rattle.std.proofs.Common.{◌≡◌, ◌+◌, ◌<◌, ℕ, zero, suc, Bool, not, length, get_or, drop, List, [], ◌∷◌, ◌++◌, refl, sym, ap, ◌∙◌, subst, ◌⊎◌, inl, inr, eqb, arith}
use Rattle.std.specs.List.{Contains, filter}
use Rattle.std.proofs.lemmas.List.{length-append}
use Rattle.std.proofs.lemmas.List.Elements.{filter-append}
use Rattle.authenticators.specs.Directory.{Listing}
use Rattle.replay_verifier.specs.Meaning.{Meaning}
use Rattle.item_forms.specs.Pieces.{Piece}
use Rattle.evidence_set.specs.declared.indication.Indication.{Indication}
use Rattle.evidence.specs.Exports.{export_of}
use Rattle.evidence_set.specs.Indications.{IndicationsAreOne, IsIndication}
use Rattle.evidence_set.specs.ItemSets.{Items, Has, IsWithin, Join, contains, count, JoinsAreLeastUpperBounds, SetsAsExpected}
use Rattle.evidence.specs.Contents.{Contents, with_items}
use Rattle.shared_stores.specs.declared.history.Call.{Call}
use Rattle.shared_stores.specs.declared.history.Call.TheVariants as call
use Rattle.shared_stores.specs.declared.history.Given.{Given}
use Rattle.shared_stores.specs.declared.history.Given.TheVariants as reply
use Rattle.shared_stores.specs.declared.history.Recorded.{Recorded}
use Rattle.shared_stores.specs.Histories.{IsAllowed, IsReply, Replays, after, recorded}
use Rattle.shared_stores.specs.within.Journals.{Journal, stepped}
use Rattle.shared_stores.specs.HistoryLaws.{HistoriesAsExpected, IsShown, OwnCallsAreSeen, OwnSetsGrow, SeenBefore}
use Rattle.shared_stores.proofs.Filtering.{WholeCut, filter_from, filter_whole}

-- ---- one call more

pub replays_more : {S : Type 0} (ds : Listing) (program : Meaning S) (E : Items) (h : List Recorded) (F : Items) (r : Recorded) (G : Items)
    → Replays ds program E h F → IsAllowed ds r.call → IsReply ds program F r.call r.reply → G ≡ after F r.call → Replays ds program E (h ++ r ∷ []) G
replays_more ds program E [] F r G is allowed answered next = (allowed, subst (λ A. IsReply ds program A r.call r.reply) (sym is) answered, ap (λ A. after A r.call) is ∙ sym next)
replays_more ds program E (x ∷ h) F r G legal allowed answered next = (legal.0, legal.1, replays_more ds program (after E x.call) h F r G legal.2 allowed answered next)

-- The same over a list that grew at its end.
pub replays_pushed : {S : Type 0} (ds : Listing) (program : Meaning S) (E : Items) (h : List Recorded) (F : Items) (r : Recorded) (G : Items) (room pushed : List Recorded)
    → Replays ds program E h F → room ≡ h → pushed ≡ room ++ r ∷ [] → IsAllowed ds r.call → IsReply ds program F r.call r.reply → G ≡ after F r.call → Replays ds program E pushed G
replays_pushed ds program E h F r G room pushed legal same more allowed answered next =
    subst (λ l. Replays ds program E l G) (sym (more ∙ ap (λ l. l ++ r ∷ []) same)) (replays_more ds program E h F r G legal allowed answered next)

-- ---- laws

-- Where a history is cut.
replays_parts : {S : Type 0} (ds : Listing) (program : Meaning S) (E F : Items) (first later : List Recorded) → Replays ds program E (first ++ later) F
    → (G : Items) × Replays ds program E first G × Replays ds program G later F
replays_parts ds program E F [] later legal = (E, refl, legal)
replays_parts ds program E F (r ∷ first) later legal =
    let c = replays_parts ds program (after E r.call) F first later legal.2 in
    (c.0, (legal.0, legal.1, c.1), c.2)

ends_once : {S : Type 0} (ds : Listing) (program : Meaning S) (E F G : Items) (history : List Recorded) → Replays ds program E history F → Replays ds program E history G → F ≡ G
ends_once ds program E F G [] a b = sym a ∙ b
ends_once ds program E F G (r ∷ history) a b = ends_once ds program (after E r.call) F G history a.2 b.2

-- What the reply to each kind of call is.
module _ {S : Type 0} (ds : Listing) (program : Meaning S) (E : Items) where
  is_took : (x : Piece) (g : Given) → IsReply ds program E (call.Take x) g → g ≡ reply.Took (not (contains E x))
  is_took x (reply.Took new) p = ap reply.Took p
  is_took x g p = absurd p

  is_merged : (M : Items) (g : Given) → IsReply ds program E (call.Merge M) g → (new : ℕ) × (g ≡ reply.Merged new) × (count E + new ≡ count (Join E M))
  is_merged M (reply.Merged new) p = (new, refl, p)
  is_merged M g p = absurd p

  is_said : (node : ℕ) (g : Given) → IsReply ds program E (call.Ask node) g → (i : Indication) × (g ≡ reply.Says i) × IsIndication ds program E node i
  is_said node (reply.Says i) p = (i, refl, p)
  is_said node g p = absurd p

  is_exported : (g : Given) → IsReply ds program E call.Export g → g ≡ reply.Bytes (export_of E)
  is_exported (reply.Bytes text) p = ap reply.Bytes p
  is_exported g p = absurd p

answers_once : {S : Type 0} → IndicationsAreOne S → (ds : Listing) (program : Meaning S) (E : Items) (c : Call) (a b : Given) → IsReply ds program E c a → IsReply ds program E c b → a ≡ b
answers_once one ds program E (call.Take x) a b p q = is_took ds program E x a p ∙ sym (is_took ds program E x b q)
answers_once one ds program E (call.Merge M) a b p q =
    let m = is_merged ds program E M a p in
    let n = is_merged ds program E M b q in
    let same : m.0 ≡ n.0 = let s = m.2 in let t = n.2 in omega arith in
    m.1 ∙ ap reply.Merged same ∙ sym n.1
answers_once one ds program E (call.Ask node) a b p q =
    let i = is_said ds program E node a p in
    let j = is_said ds program E node b q in
    i.1 ∙ ap reply.Says (one ds program E node i.0 j.0 i.2 j.2) ∙ sym j.1
answers_once one ds program E call.Export a b p q = is_exported ds program E a p ∙ sym (is_exported ds program E b q)

grows : SetsAsExpected → JoinsAreLeastUpperBounds → (E : Items) (c : Call) → IsWithin E (after E c)
grows sets joins E (call.Take x) y has = (sets.insert E x y).1 (inr has)
grows sets joins E (call.Merge M) y has = joins.left E M y has
grows sets joins E (call.Ask j) y has = has
grows sets joins E call.Export y has = has

pub as_expected : {S : Type 0} → IndicationsAreOne S → SetsAsExpected → JoinsAreLeastUpperBounds → HistoriesAsExpected S
as_expected one sets joins = record {
  one_reply = answers_once one;
  one_end = ends_once;
  parts = replays_parts;
  grows = grows sets joins;
  taken = λ E x. (sets.insert E x x).1 (inl refl);
  merged = λ E M. joins.right E M;
}

-- A history leads to a set that has what it began with.
all_grows : {S : Type 0} → HistoriesAsExpected S → (ds : Listing) (program : Meaning S) (E F : Items) (history : List Recorded) → Replays ds program E history F → IsWithin E F
all_grows h ds program E F [] is x has = subst (λ A. Has A x) is has
all_grows h ds program E F (r ∷ history) legal x has = all_grows h ds program (after E r.call) F history legal.2 x (h.grows E r.call x has)

-- What a call shows at the set that it is answered at, and at each set that has at least what is there after it.
shown_at : {S : Type 0} → HistoriesAsExpected S → (ds : Listing) (program : Meaning S) (E A : Items) (c : Call) (g : Given) → IsReply ds program E c g → IsWithin (after E c) A → IsShown ds program c g A
shown_at h ds program E A (call.Take x) g told within = within x (h.taken E x)
shown_at h ds program E A (call.Merge M) g told within = λ x has. within x (h.merged E M x has)
shown_at h ds program E A (call.Ask node) g told within = (E, told, within)
shown_at h ds program E A call.Export g told within = (E, told, within)

-- Each call of a history shows what it shows at the set that the history leads to.
shown_by : {S : Type 0} → HistoriesAsExpected S → (ds : Listing) (program : Meaning S) (E F : Items) (history : List Recorded) (k : ℕ) (r : Recorded) → Replays ds program E history F
    → k < length history → get_or history k r ≡ r → IsShown ds program r.call r.reply F
shown_by h ds program E F [] k r legal below at = absurd (omega arith)
shown_by h ds program E F (q ∷ history) zero r legal below at =
    subst (λ (s : Recorded). IsShown ds program s.call s.reply F) at (shown_at h ds program E F q.call q.reply legal.1 (all_grows h ds program (after E q.call) F history legal.2))
shown_by h ds program E F (q ∷ history) (suc k) r legal below at = shown_by h ds program (after E q.call) F history k r legal.2 (omega arith) at

pub own_calls : {S : Type 0} → HistoriesAsExpected S → OwnCallsAreSeen S
own_calls h ds program E F history p earlier rest later legal agrees is =
    let own : Recorded → Bool = λ c. eqb c.caller p.number in
    let c : WholeCut own history earlier later rest = filter_whole own history earlier later rest (agrees ∙ is) in
    let parts = h.parts ds program E F c.0 (later ∷ c.1) (subst (λ l. Replays ds program E l F) c.2 legal) in
    record {
      before = c.0;
      rest = c.1;
      at = parts.0;
      cut = c.2;
      led = parts.1;
      answered = parts.2.1;
      own = c.3;
      shown = λ r has.
          let kept : Contains (filter own c.0) r = subst (λ (l : List Recorded). Contains l r) (sym c.3) has in
          let in_history : Contains c.0 r = filter_from own c.0 r kept in
          shown_by h ds program E parts.0 c.0 in_history.0 r parts.1 in_history.1 in_history.2;
    }

heads : {X : Type 0} {x y : X} {xs ys : List X} → x ∷ xs ≡ y ∷ ys → x ≡ y
heads {x = x} e = ap (λ l. get_or l 0 x) e

tails : {X : Type 0} {x y : X} {xs ys : List X} → x ∷ xs ≡ y ∷ ys → xs ≡ ys
tails e = ap (λ l. drop 1 l) e

-- Of two cuts of one list, the one lies behind the other's element, or at or before it.
behind_or_not : {X : Type 0} (a b rest others : List X) (x y : X) → a ++ x ∷ rest ≡ b ++ y ∷ others → ((mid : List X) × (b ≡ a ++ x ∷ mid)) ⊎ ((mid : List X) × (a ≡ b ++ mid))
behind_or_not [] [] rest others x y e = inr ([], refl)
behind_or_not [] (z ∷ b) rest others x y e = inl (b, ap (λ h. h ∷ b) (sym (heads e)))
behind_or_not (z ∷ a) [] rest others x y e = inr (z ∷ a, refl)
behind_or_not (z ∷ a) (w ∷ b) rest others x y e = elim (behind_or_not a b rest others x y (tails e)) [
  | inl p ↦ inl (p.0, ap (λ h. h ∷ b) (sym (heads e)) ∙ ap (λ l. z ∷ l) p.1)
  | inr p ↦ inr (p.0, ap (λ h. h ∷ a) (heads e) ∙ ap (λ l. w ∷ l) p.1)
]

pub own_grow : {S : Type 0} → HistoriesAsExpected S → OwnSetsGrow S
own_grow h ds program E history caller earlier between first later one two =
    elim (behind_or_not one.before two.before one.rest two.rest first later (sym one.cut ∙ two.cut)) [
      | inl p ↦
          let parts = h.parts ds program E two.at one.before (first ∷ p.0) (subst (λ l. Replays ds program E l two.at) p.1 two.led) in
          let same : parts.0 ≡ one.at = h.one_end ds program E parts.0 one.at one.before parts.1 one.led in
          λ x has. all_grows h ds program (after parts.0 first.call) two.at p.0 parts.2.2 x (subst (λ A. Has (after A first.call) x) (sym same) has)
      | inr p ↦
          let own : Recorded → Bool = λ c. eqb c.caller caller in
          let kept : earlier ≡ (earlier ++ first ∷ between) ++ filter own p.0 = sym one.own ∙ ap (filter own) p.1 ∙ filter-append own two.before p.0 ∙ ap (λ l. l ++ filter own p.0) two.own in
          let long = ap length kept ∙ length-append (earlier ++ first ∷ between) (filter own p.0) in
          let more = length-append earlier (first ∷ between) in
          absurd (omega (arith, long, more))
    ]

-- A store that a call changed as one thread does, with the call at the end of the history.
pub kept_step : {S : Type 0} (program : Meaning S) (E : Items) (old new : Contents) (h room pushed : List Recorded) (r : Recorded) (caller : ℕ) (c : Call) (g : Given) → Replays old.directory program E h old.items
    → room ≡ h → pushed ≡ room ++ r ∷ [] → r ≡ recorded caller c g → IsAllowed old.directory c → IsReply old.directory program old.items c g → new ≡ with_items old (after old.items c)
    → Replays new.directory program E pushed new.items
kept_step program E old new h room pushed r caller c g legal same more is allowed answered changed =
    subst (λ (C : Contents). Replays C.directory program E pushed C.items) (sym changed)
    (replays_pushed old.directory program E h old.items (recorded caller c g) (after old.items c) room pushed legal same (more ∙ ap (λ s. room ++ s ∷ []) is) allowed answered refl)

abbrev journal_of : Listing → Items → List Recorded → Items → Journal
journal_of ds E history F = record { directory = ds; opening = E; history = history; items = F }

-- The journal after a question.
pub asked : (j now : Journal) (room pushed : List Recorded) (r : Recorded) (caller node : ℕ) (g : Given) → j ≡ now → room ≡ j.history → pushed ≡ room ++ r ∷ [] → r ≡ recorded caller (call.Ask node) g
    → journal_of j.directory j.opening pushed j.items ≡ stepped now caller (call.Ask node) g
asked j now room pushed r caller node g same kept more is =
    let grown : pushed ≡ j.history ++ recorded caller (call.Ask node) g ∷ [] = more ∙ ap (λ l. l ++ r ∷ []) kept ∙ ap (λ s. j.history ++ s ∷ []) is in
    ap (λ h. journal_of j.directory j.opening h j.items) grown ∙ ap (λ (k : Journal). stepped k caller (call.Ask node) g) same
