use Rattle.std.proofs.Common.{◌≡◌, ℕ, ◌+◌, ◌-◌, ◌≤◌, List, [], ◌∷◌, ◌++◌, length, take, drop, length-drop, refl, sym, ◌∙◌, ap, arith}
use Rattle.std.proofs.lemmas.List.{take_all, drop_at, length-take-le}
use Rattle.std.proofs.Common.{append_assoc, take-append-drop}
use Rattle.journal.specs.Device.{Elapses, Follows, Holds, LeavesOnly, Torn}
use Rattle.journal.specs.Journal.{recovered, IsClosed, IsSameToGate, IsSettled, StandsFor}
use Rattle.journal.specs.declared.blocks.TheConstants.{MOST_GROUP}
use Rattle.journal.specs.declared.journal.Journal.{Journal}
use Rattle.journal.proofs.Closed.{torn_each, closed_at, same_at, started_at}
use Rattle.journal.proofs.Gate.{Gated, torn_front, rests, length-rests, gated_then, written_behind, behind_same}
use Rattle.journal.proofs.Moments.{goes_on}
use Rattle.journal.proofs.journal.Journal.stage.Goals as goal

-- what is written: the group but for its first gate
rest_is : (group : List ℕ) → take (length group - 1) (drop 1 group) ≡ drop 1 group
rest_is group = take_all (length group - 1) (drop 1 group) (omega (arith, length-drop 1 group))

rest_few : (group : List ℕ) → length group ≤ 1 + MOST_GROUP → length (take (length group - 1) (drop 1 group)) ≤ MOST_GROUP
rest_few group few = let is : length (take (length group - 1) (drop 1 group)) ≡ length (drop 1 group) = ap length (rest_is group) in omega (arith, few, is, length-drop 1 group)

-- behind a file at rest it stands behind the gate
staged_is : (file bytes group : List ℕ) (end : ℕ) → drop end file ≡ 0 ∷ [] → end ≤ length file → bytes ≡ drop 1 group → drop end (file ++ bytes) ≡ 0 ∷ drop 1 group
staged_is file bytes group end gate le is =
    ap (λ (l : List ℕ). drop end (l ++ bytes)) (sym (take-append-drop end file))
    ∙ ap (λ (l : List ℕ). drop end l) (append_assoc (take end file) (drop end file) bytes)
    ∙ drop_at (take end file) (drop end file ++ bytes) end (length-take-le end file le)
    ∙ ap (λ (l : List ℕ). l ++ bytes) gate
    ∙ ap (λ (l : List ℕ). 0 ∷ l) is

module _ {D : Type 0} {seen : D → List ℕ} {may_leave : D → List ℕ → Type 0} {journal : Journal D} (settled : IsSettled seen may_leave journal) where
  abbrev file : List ℕ
  file = seen journal.device

  long : length file ≡ journal.end + 1
  long = length-rests file journal.end settled.end settled.rest

  gated : Gated (recovered file) journal.end file
  gated = rests file journal.end settled.end settled.rest

  -- what stands to the gate, after a write behind it that stopped and after a whole one
  stopped : (n : ℕ) (new : List ℕ) → Torn (journal.end + 1) n file new → take (journal.end + 1) new ≡ take (journal.end + 1) file
  stopped n new torn = torn_front (journal.end + 1) n file new (omega (arith, long)) torn

  whole : (group written new : List ℕ) → length group ≤ 1 + MOST_GROUP → Holds file (journal.end + 1) (take (length group - 1) (drop 1 group)) written → new ≡ written → take (journal.end + 1) new ≡ take (journal.end + 1) file
  whole group written new few holds is =
      ap (λ (l : List ℕ). take (journal.end + 1) l) (is ∙ written_behind file _ written journal.end long holds)
      ∙ (behind_same file _ journal.end long (rest_few group few)).front

  each : (group : List ℕ) (new : List ℕ → Type 0) → length group ≤ 1 + MOST_GROUP → Follows (Torn (journal.end + 1) (length (take (length group - 1) (drop 1 group)))) (may_leave journal.device) new → (c : List ℕ) → new c → IsSameToGate journal.end file c
  each group new few follows = torn_each journal.end _ file _ new long (rest_few group few) settled.durable follows

  closed : (device : D) → take (journal.end + 1) (seen device) ≡ take (journal.end + 1) file → ((c : List ℕ) → may_leave device c → IsSameToGate journal.end file c) → IsClosed seen may_leave (record { device = device; end = journal.end })
  closed = closed_at seen may_leave journal.end file settled.end settled.small gated

  same : (device : D) → take (journal.end + 1) (seen device) ≡ take (journal.end + 1) file → recovered (seen device) ≡ recovered file
  same = same_at seen may_leave journal.end file settled.end settled.small gated

  module _ (moment : D → ℕ) (left_since : D → ℕ → List ℕ → Type 0) where
    begun : ((f : D) (c : List ℕ) → left_since f (moment f) c → may_leave f c) → LeavesOnly moment left_since journal.device journal.device (StandsFor (recovered file))
    begun only_now = started_at moment left_since may_leave only_now journal.device (StandsFor (recovered file)) here
      where
        here : (c : List ℕ) → may_leave journal.device c → StandsFor (recovered file) c
        here c now = gated_then (recovered file) journal.end file c gated (record { front = ap (λ (l : List ℕ). take (journal.end + 1) l) (settled.durable c now); behind = omega (arith, long, ap length (settled.durable c now)) })

    goes : (mid new : D) → LeavesOnly moment left_since journal.device mid (StandsFor (recovered file)) → Elapses (moment mid) (moment new) (left_since mid) (left_since new) (may_leave new) → ((c : List ℕ) → may_leave new c → IsSameToGate journal.end file c) → LeavesOnly moment left_since journal.device new (StandsFor (recovered file))
    goes mid new so_far time outcomes = goes_on moment left_since journal.device mid new (StandsFor (recovered file)) (may_leave new) so_far time (λ c now. gated_then (recovered file) journal.end file c gated (outcomes c now))

pub overflow_add-self : goal.overflow_add-self
overflow_add-self g c = let small = c.requires.settled.small in omega (arith, small)

pub returns-in_err-write_at-clause-closed : goal.returns-in_err-write_at-clause-closed
returns-in_err-write_at-clause-closed g c =
    let s = c.requires.settled in
    let few = c.requires.size.1 in
    closed s c.write_at.new.self (stopped s _ _ c.in_err-write_at.ensures.torn) (each s c.args.group.now _ few c.write_at.ensures.crash)

pub returns-in_err-write_at-clause-same : goal.returns-in_err-write_at-clause-same
returns-in_err-write_at-clause-same g c =
    let s = c.requires.settled in
    (refl, same s c.write_at.new.self (stopped s _ _ c.in_err-write_at.ensures.torn))

pub returns-in_err-write_at-clause-any_moment : goal.returns-in_err-write_at-clause-any_moment
returns-in_err-write_at-clause-any_moment g c =
    let s = c.requires.settled in
    let few = c.requires.size.1 in
    let start = begun s g.D.Device.moment g.D.Device.left_since g.met.D.Device.only_now in
    goes s g.D.Device.moment g.D.Device.left_since c.args.self.now.device c.write_at.new.self start c.write_at.ensures.time (each s c.args.group.now _ few c.write_at.ensures.crash)

pub returns-in_err-sync-clause-closed : goal.returns-in_err-sync-clause-closed
returns-in_err-sync-clause-closed g c =
    let s = c.requires.settled in
    let few = c.requires.size.1 in
    let outcomes = each s c.args.group.now _ few c.write_at.ensures.crash in
    closed s c.sync.new.self (whole s c.args.group.now _ _ few c.in_ok-write_at.ensures.written c.sync.ensures.seen) (λ f now. outcomes f (c.sync.ensures.crash f now))

pub returns-in_err-sync-clause-same : goal.returns-in_err-sync-clause-same
returns-in_err-sync-clause-same g c =
    let s = c.requires.settled in
    (refl, same s c.sync.new.self (whole s c.args.group.now _ _ c.requires.size.1 c.in_ok-write_at.ensures.written c.sync.ensures.seen))

pub returns-in_err-sync-clause-any_moment : goal.returns-in_err-sync-clause-any_moment
returns-in_err-sync-clause-any_moment g c =
    let s = c.requires.settled in
    let few = c.requires.size.1 in
    let outcomes = each s c.args.group.now _ few c.write_at.ensures.crash in
    let start = begun s g.D.Device.moment g.D.Device.left_since g.met.D.Device.only_now in
    let written = goes s g.D.Device.moment g.D.Device.left_since c.args.self.now.device c.write_at.new.self start c.write_at.ensures.time outcomes in
    goes s g.D.Device.moment g.D.Device.left_since c.write_at.new.self c.sync.new.self written c.sync.ensures.time (λ f now. outcomes f (c.sync.ensures.crash f now))

pub returns-clause-closed : goal.returns-clause-closed
returns-clause-closed g c =
    let s = c.requires.settled in
    let few = c.requires.size.1 in
    let outcomes = each s c.args.group.now _ few c.write_at.ensures.crash in
    closed s c.sync.new.self (whole s c.args.group.now _ _ few c.in_ok-write_at.ensures.written c.sync.ensures.seen) (λ f now. outcomes f (c.sync.ensures.crash f now))

pub returns-clause-same : goal.returns-clause-same
returns-clause-same g c =
    let s = c.requires.settled in
    (refl, same s c.sync.new.self (whole s c.args.group.now _ _ c.requires.size.1 c.in_ok-write_at.ensures.written c.sync.ensures.seen))

pub returns-clause-staged : goal.returns-clause-staged
returns-clause-staged g c =
    let s = c.requires.settled in
    let end = c.args.self.now.end in
    let file = g.D.Device.seen c.args.self.now.device in
    let long = length-rests file end s.end s.rest in
    let is = c.sync.ensures.seen ∙ written_behind file _ _ end long c.in_ok-write_at.ensures.written in
    let gate : drop end file ≡ 0 ∷ [] = ap (λ (n : ℕ). drop n file) s.end ∙ s.rest in (
      ap (λ (l : List ℕ). drop end l) is ∙ staged_is file _ c.args.group.now end gate (omega (arith, long)) (rest_is c.args.group.now),
      λ f now. c.in_ok-sync.ensures.durable f now ∙ sym c.sync.ensures.seen,
    )

pub returns-clause-any_moment : goal.returns-clause-any_moment
returns-clause-any_moment g c =
    let s = c.requires.settled in
    let few = c.requires.size.1 in
    let outcomes = each s c.args.group.now _ few c.write_at.ensures.crash in
    let start = begun s g.D.Device.moment g.D.Device.left_since g.met.D.Device.only_now in
    let written = goes s g.D.Device.moment g.D.Device.left_since c.args.self.now.device c.write_at.new.self start c.write_at.ensures.time outcomes in
    goes s g.D.Device.moment g.D.Device.left_since c.write_at.new.self c.sync.new.self written c.sync.ensures.time (λ f now. outcomes f (c.sync.ensures.crash f now))
